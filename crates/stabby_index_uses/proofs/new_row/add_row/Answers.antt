use Rattle.std.proofs.Common.{◌≡◌, List, sym, ap, ◌∙◌}
use Rattle.stabby_index.specs.declared.row.Row.{Row}
use Rattle.stabby_index.specs.Rows.{row_at}
use Rattle.stabby_index_uses.proofs.AddLemmas.{adds, absent_by}
use Rattle.stabby_index_uses.proofs.new_row.add_row.Goals as goal

pub returns-clause-added : goal.returns-clause-added
returns-clause-added g c =
    let absent = absent_by c.has_row.result _ c.if-has_row.false c.has_row.ensures in
    adds c.now.new.pass c.apply.new.pass c.args.row c.in-Ok.stamp c.in_ok-added.added c.in-Ok.ensures.count (ap (λ (rows : List Row). row_at rows c.args.row.key) (sym c.in-Ok.ensures.view) ∙ absent) c.in_ok-added.ensures.applied
