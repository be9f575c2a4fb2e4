use mathlib.Core.List.{IsPrefix}
use Rattle.std.specs.List.{Contains}
use Rattle.stabby_tables.specs.Lists.{IsDistinct}
use Rattle.std.proofs.Common.{rules, arith, refl, List, map, ℕ, ◌<◌, ◌∙◌, length, ap, sym, subst}
use Rattle.atomic_table.specs.Table.{Me}
use Rattle.atomic_table.specs.Seated.{TableId}
use Rattle.stabby_row.specs.declared.view.View.{View}
use Rattle.stabby_row.specs.Seats.{view_of}
use Rattle.stabby_row.specs.Telling.{both_of}
use Rattle.stabby_row.specs.Rule.{table_of}
use Rattle.stabby_row.specs.Passes.{front_of}
use Rattle.stabby_row.proofs.MovesKeepRule.{joins, learns, length_longer}
use Rattle.stabby_row.proofs.WalkLemmas.{ready_at}
use Rattle.stabby_row.proofs.CallLemmas.{marked_by_both, longer_half, longer_apart, both_fronts}
use Rattle.stabby_row.proofs.row.WordRow.join.Goals as goal

pub join_seat-requires : goal.join_seat-requires
join_seat-requires c =
    let p = c.args.pass.now in
    let r = p.ready in
    let h = r.heavy in
    (search rules, search rules, c.args.other.ready.empty, (let t = ap (λ (z : TableId). z.words) c.requires.own in let u = r.wide in omega arith), joins _ _ _ _ _ r.heavy)

pub load-pass-requires : goal.load-pass-requires
load-pass-requires c = let r = c.args.pass.now.ready in (search rules, (let t = ap (λ (z : TableId). z.words) c.requires.own in let u = r.wide in omega arith), learns _ _ _ _ _)

pub invariant_of-pass-clause-ready : goal.invariant_of-pass-clause-ready
invariant_of-pass-clause-ready c =
    let p = c.args.pass.now in
    let q = c.args.other in
    let j = c.join_seat.ensures in
    let l = c.load-pass.ensures in
    let h = p.ready.heavy in
    ready_at p.seat c.load-pass.new.seat (both_of (view_of p.seat) (view_of q.seat)) p.ready (l.0 ∙ j.0)
    (l.2.0 ∙ (j.2 ∙ ap (λ (z : List (ℕ × ℕ)). let w : Me ℕ View = (both_of (view_of p.seat) (view_of q.seat), z) in w) p.ready.empty)) (omega arith) refl (longer_half p q _ refl (c.requires.own ∙ sym c.requires.other)) (longer_apart p q _ refl)

pub invariant_of-pass-clause-seen_is : goal.invariant_of-pass-clause-seen_is
invariant_of-pass-clause-seen_is c =
    let p = c.args.pass.now in
    let q = c.args.other in
    let a = p.seen_is in
    let b = q.seen_is in
    let nodes = ap (λ (z : Me ℕ View). length z.0.nodes) (c.load-pass.ensures.2.0 ∙ c.join_seat.ensures.2) in
    let long = length_longer 0 (view_of p.seat).nodes (view_of q.seat).nodes in
    let m = c.max-pass.ensures in
    omega arith

pub invariant_of-pass-clause-left_is_marked : goal.invariant_of-pass-clause-left_is_marked
invariant_of-pass-clause-left_is_marked c =
    let p = c.args.pass.now in
    let q = c.args.other in
    let marks = ap (λ (z : Me ℕ View). z.0.tally.marks) (c.load-pass.ensures.2.0 ∙ c.join_seat.ensures.2) in
    subst (λ (z : ℕ × List ℕ). ∥ (0 < z.0 → Contains z.1 z.0) ∥₁) (λ i. (sym c.max-pass-2.ensures i, sym marks i)) (marked_by_both p q)

pub returns-clause-first : goal.returns-clause-first
returns-clause-first c =
    let p = c.args.pass.now in
    let q = c.args.other in
    let j = c.join_seat.ensures in
    let l = c.load-pass.ensures in
    subst (λ (z : Me ℕ View). IsPrefix (front_of p) (map table_of z.0.nodes)) (sym l.2.0)
    (both_fronts p q c.join_seat.new.seat.me (j.2 ∙ ap (λ (z : List (ℕ × ℕ)). let w : Me ℕ View = (both_of (view_of p.seat) (view_of q.seat), z) in w) p.ready.empty) l.2.1).0

pub returns-clause-second : goal.returns-clause-second
returns-clause-second c =
    let p = c.args.pass.now in
    let q = c.args.other in
    let j = c.join_seat.ensures in
    let l = c.load-pass.ensures in
    subst (λ (z : Me ℕ View). IsPrefix (front_of q) (map table_of z.0.nodes)) (sym l.2.0)
    (both_fronts p q c.join_seat.new.seat.me (j.2 ∙ ap (λ (z : List (ℕ × ℕ)). let w : Me ℕ View = (both_of (view_of p.seat) (view_of q.seat), z) in w) p.ready.empty) l.2.1).1

pub returns-clause-distinct : goal.returns-clause-distinct
returns-clause-distinct c =
    let p = c.args.pass.now in
    let q = c.args.other in
    subst (λ (z : Me ℕ View). IsDistinct (map table_of z.0.nodes)) (sym (c.load-pass.ensures.2.0 ∙ c.join_seat.ensures.2))
    (longer_apart p q _ refl)
