use Rattle.std.proofs.Common.{arith, ℕ, ◌+◌, ◌-◌, take, sym, subst, ◌∙◌}
use Rattle.std.proofs.lemmas.Bool.{MatchBool-at_true}
use Rattle.atomic_table.specs.Table.{Me}
use Rattle.stabby_row.specs.declared.view.View.{View}
use Rattle.stabby_row.specs.Rule.{Absent}
use Rattle.stabby_row.specs.Seats.{view_of, HasTable, Reached, IsAt}
use Rattle.stabby_row.proofs.WalkLemmas.{moves_on, still_absent, same_start, is_at, is_last, front_all}
use Rattle.stabby_row.proofs.row.WordRow.hang_last.Goals as goal

pub returns-then-next-eq0-clause-there : goal.returns-then-next-eq0-clause-there
returns-then-next-eq0-clause-there c = is_last _ _ _ _ _ c.tries.invariant.at.1 (c.hang-next.ensures.won c.if-next-eq0.true).1

pub returns-then-has_table-clause-there : goal.returns-then-has_table-clause-there
returns-then-has_table-clause-there c = subst (λ (z : Me ℕ View). IsAt c.args.table.now z.0.nodes c.tries.n) (sym c.has_table.ensures.same.1) (is_at _ _ _ _ c.if-has_table.ensures.told)

pub walk-stop-requires-clause-at : goal.walk-stop-requires-clause-at
walk-stop-requires-clause-at c =
    subst (λ (z : Me ℕ View). Reached z.0 (c.tries.n + 1) (c.hang-next.result - 1)) (sym c.has_table.ensures.same.1) (moves_on _ _ _ c.if-has_table.ensures.told.0)

pub walk-stop-requires-clause-absent : goal.walk-stop-requires-clause-absent
walk-stop-requires-clause-absent c =
    let i = c.tries.invariant in
    let l = c.hang-next.ensures.lost (omega arith) in
    let other = c.if-has_table.ensures.told in
    let start = same_start _ _ c.tries.n l.1 (omega arith) ∙ front_all _ _ i.at.1 in
    subst (λ (z : Me ℕ View). Absent c.args.table.now (take (c.tries.n + 1) z.0.nodes)) (sym c.has_table.ensures.same.1)
    (still_absent c.args.table.now _ _ _ other.0 other.1 (subst (Absent c.args.table.now) (sym start) i.absent))

pub returns-then-stop-clause-there : goal.returns-then-stop-clause-there
returns-then-stop-clause-there c = let v = view_of c.walk-stop.new.seat in
    is_at c.args.table.now v c.walk-stop.result.n c.walk-stop.result.at (MatchBool-at_true (HasTable c.args.table.now v c.walk-stop.result.n c.walk-stop.result.at) _ c.if-stop.true c.walk-stop.ensures.stop)
