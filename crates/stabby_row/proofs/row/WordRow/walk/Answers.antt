use Rattle.std.proofs.Common.{rules, arith, ◌≡◌, ℕ, ◌+◌, ◌-◌, length, take, ap, sym, subst}
use Rattle.atomic_table.specs.Table.{Me}
use Rattle.stabby_row.specs.declared.view.View.{View}
use Rattle.stabby_row.specs.Rule.{StartsWith, Absent}
use Rattle.stabby_row.specs.Seats.{view_of, HasTable, Reached, after_walk}
use Rattle.stabby_row.proofs.ViewLemmas.{later}
use Rattle.stabby_row.proofs.WalkLemmas.{ready_same, moves_on, still_absent, same_start, walk_more}
use Rattle.stabby_row.proofs.row.WordRow.walk.Goals.{then-n-seen, else-n-seen}
use Rattle.stabby_row.proofs.row.WordRow.walk.Goals as goal

pub returns-then-has_table-clause-stop : goal.returns-then-has_table-clause-stop
returns-then-has_table-clause-stop c = subst (λ (z : Me ℕ View). HasTable c.args.table.now z.0 c.links.n (c.link_word-next.result - 1)) (sym c.has_table.ensures.same.1) c.if-has_table.ensures.told

pub links-preserved : goal.links-preserved
links-preserved c =
    let i = c.links.invariant in
    let step = c.link_word-next.ensures in
    let told = step.node (omega arith) in
    let view = ap (λ (z : Me ℕ View). z.0) c.has_table.ensures.same.1 in
    let other = c.if-has_table.ensures.told in
    let moved = moves_on _ _ _ other.0 in
    let start = same_start _ _ c.links.n told.1 i.at.inside in
    let gone = still_absent c.args.table.now _ _ _ other.0 other.1 (subst (Absent c.args.table.now) (sym start) i.absent) in
    let up = i.up in
    let walk = walk_more (view_of c.args.seat.now) (view_of c.links.seat) (view_of c.link_word-next.new.seat) (c.links.n - c.args.start) 1 0 (c.links.n + 1 - c.args.start) i.view told.0 (omega arith) in
    record {
      same = search rules;
      ready = ready_same _ _ step.same.1 c.has_table.ensures.same.0.0 c.has_table.ensures.same.1;
      at = subst (λ (z : View). Reached z (c.links.n + 1) (c.link_word-next.result - 1)) (sym view) moved;
      seen = (let l = ap (λ (z : View). length z.nodes) view in let long = told.2 in let s = i.seen in let inside = i.at.inside in elim c.if-n-seen.branch [ then-n-seen w ↦ omega arith | else-n-seen w ↦ omega arith ]);
      absent = subst (λ (z : View). Absent c.args.table.now (take (c.links.n + 1) z.nodes)) (sym view) gone;
      view = subst (λ (z : View). z ≡ after_walk (c.links.n + 1 - c.args.start) 0 z.nodes (view_of c.args.seat.now)) (sym view) walk;
      front = subst (λ (z : View). StartsWith z.nodes (view_of c.args.seat.now).nodes) (sym view) (later _ _ _ told.1 i.front);
      up = omega arith;
    }
