use mathlib.Core.List.{IsPrefix}
use Rattle.stabby_tables.specs.Lists.{IsDistinct}
use Rattle.std.proofs.Common.{ℕ, map, ap, sym, ◌∙◌, subst}
use Rattle.atomic_table.specs.Table.{Me}
use Rattle.stabby_row.specs.declared.view.View.{View}
use Rattle.stabby_row.specs.Rule.{table_of}
use Rattle.stabby_row.specs.Seats.{view_of}
use Rattle.stabby_row.specs.Passes.{front_of}
use Rattle.stabby_row.proofs.CallLemmas.{fronts, same_marked}
use Rattle.stabby_row.proofs.row.WordRow.entry.Goals as goal

pub invariant_of-pass-clause-left_is_marked : goal.invariant_of-pass-clause-left_is_marked
invariant_of-pass-clause-left_is_marked c = same_marked c.args.pass.now _ (ap (λ (z : View). z.tally.marks) c.walk_to-stop.ensures.view)

pub invariant_of-pass-2-clause-left_is_marked : goal.invariant_of-pass-2-clause-left_is_marked
invariant_of-pass-2-clause-left_is_marked c = same_marked c.args.pass.now _ (ap (λ (z : Me ℕ View). z.0.tally.marks) c.read_table.ensures.same.1 ∙ ap (λ (z : View). z.tally.marks) c.walk_to-stop.ensures.view)

pub returns-then-not-stop-clause-front : goal.returns-then-not-stop-clause-front
returns-then-not-stop-clause-front c = fronts _ _ c.walk_to-stop.ensures.front.0

pub returns-then-not-stop-clause-distinct : goal.returns-then-not-stop-clause-distinct
returns-then-not-stop-clause-distinct c = c.walk_to-stop.ensures.same.1.apart

pub returns-in_err-table-clause-front : goal.returns-in_err-table-clause-front
returns-in_err-table-clause-front c =
    subst (λ (z : Me ℕ View). IsPrefix (front_of c.args.pass.now) (map table_of z.0.nodes)) (sym c.read_table.ensures.same.1) (fronts (view_of c.walk_to-stop.new.seat).nodes (view_of c.args.pass.now.seat).nodes c.walk_to-stop.ensures.front.0)

pub returns-in_err-table-clause-distinct : goal.returns-in_err-table-clause-distinct
returns-in_err-table-clause-distinct c = subst (λ (z : Me ℕ View). IsDistinct (map table_of z.0.nodes)) (sym c.read_table.ensures.same.1) c.walk_to-stop.ensures.same.1.apart
