use Rattle.std.proofs.Common.{◌≡◌, ◌==◌, ◌∙◌, length, ap, rules}
use Rattle.stabby_layout.proofs.ReportLemmas.{without_fields_by_parts}
use Rattle.stabby_layout.proofs.numbers.is_without_fields.Goals as goal

pub returns-then-eq : goal.returns-then-eq
returns-then-eq c =
    let same : c.args.report.now.name ≡ c.args.name.now = search rules in
    without_fields_by_parts c.args.report.now.name _ c.args.report.now.fields _ same (c.is_empty.ensures ∙ ap (λ l. length l == 0) c.fields.ensures)
