use Rattle.std.proofs.Common.{◌≡◌, Some, ap, ◌∙◌, rules}
use Rattle.stabby_layout.specs.declared.layout.Layout.{Layout}
use Rattle.stabby_block.specs.Prefix.{number_at}
use Rattle.stabby_block.proofs.PrefixLemmas.{layout_read_back}
use Rattle.stabby_block.proofs.prefix.RustAllocPrefix.decode.Goals as goal

pub returns-clause-undoes : goal.returns-clause-undoes
returns-clause-undoes c layout fits is =
    let read : Layout = record { size = c.read_number-size.result; align = c.read_number-align.result } in
    let same : read ≡ record { size = number_at c.args.bytes.now 0; align = number_at c.args.bytes.now 8 } = search rules in
    ap (λ l. Some (record { layout = l }))
    (same ∙ ap (λ b. record { size = number_at b 0; align = number_at b 8 }) is ∙ layout_read_back layout fits)
