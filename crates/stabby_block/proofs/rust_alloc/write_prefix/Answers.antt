use Rattle.std.proofs.Common.{◌-◌, Some, subst}
use Rattle.stabby_block.specs.Blocks.{ChangesAt, written}
use Rattle.stabby_block.specs.Prefix.{layout_bytes}
use Rattle.stabby_block.proofs.rust_alloc.write_prefix.Goals as goal

pub returns : goal.returns
returns g c old is =
    let before = g.H.IAlloc.blocks c.args.heap.now in
    let after = g.H.IAlloc.blocks c.write.new.self in
    let inner = c.args.inner.now in
    let wrote : ChangesAt before after inner.number (Some (record { layout = inner.layout; bytes = written old (c.skip_past_prefix.result - 32) c.encode-prefix.result })) = c.write.ensures.ok old is in
    let prefix = subst (λ b. ChangesAt before after inner.number (Some (record { layout = inner.layout; bytes = written old (c.skip_past_prefix.result - 32) b }))) c.encode-prefix.ensures wrote in
    subst (λ s. ChangesAt before after inner.number (Some (record { layout = inner.layout; bytes = written old (s - 32) (layout_bytes c.args.layout) }))) c.skip_past_prefix.ensures prefix
