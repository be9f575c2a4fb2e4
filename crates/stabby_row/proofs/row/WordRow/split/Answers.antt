use Rattle.std.specs.List.{Contains}
use Rattle.std.proofs.Common.{rules, arith, refl, List, [], ℕ, ◌<◌, ◌∙◌, ap, sym, subst}
use Rattle.atomic_table.specs.Table.{Me}
use Rattle.atomic_table.specs.Seated.{TableId}
use Rattle.stabby_row.specs.declared.view.View.{View}
use Rattle.stabby_row.specs.Seats.{view_of}
use Rattle.stabby_row.specs.Telling.{left_of, right_of, noting}
use Rattle.stabby_row.proofs.MovesKeepRule.{splits}
use Rattle.stabby_row.proofs.WalkLemmas.{ready_at}
use Rattle.stabby_row.proofs.row.WordRow.split.Goals as goal

pub split_seat-seat-requires : goal.split_seat-seat-requires
split_seat-seat-requires c =
    let v = c.note.ensures.view in
    let a = ap (λ (z : Me ℕ View). z.0.tally.asked) v in
    let w = ap (λ (z : Me ℕ View). z.0.weight) v in
    let p = c.args.pass.now.weight_is in
    let q = c.requires.light in
    (search rules, (let r = c.args.pass.now.ready in let t = ap (λ (z : TableId). z.words) c.requires.own in let u = r.wide in omega arith), splits _ _ _ (omega arith) (omega arith))

pub invariant_of-pass-clause-ready : goal.invariant_of-pass-clause-ready
invariant_of-pass-clause-ready c =
    let p = c.args.pass.now in
    let e = c.split_seat-seat.ensures in
    let k = p.weight_is in
    let l = c.requires.light in
    ready_at p.seat c.split_seat-seat.new.seat (left_of (noting c.args.weight (view_of p.seat))) p.ready (e.0 ∙ c.note.ensures.same.0)
    (e.2 ∙ ap (λ (z : Me ℕ View). let w : Me ℕ View = (left_of z.0, z.1) in w) c.note.ensures.view) (omega arith) refl p.ready.half p.ready.apart

pub invariant_of-pass-clause-left_is_marked : goal.invariant_of-pass-clause-left_is_marked
invariant_of-pass-clause-left_is_marked c =
    let p = c.args.pass.now in
    subst (λ (z : List ℕ). ∥ (0 < p.left → Contains z p.left) ∥₁) (sym (ap (λ (z : Me ℕ View). z.0.tally.marks) (c.split_seat-seat.ensures.2 ∙ ap (λ (z : Me ℕ View). let w : Me ℕ View = (left_of z.0, z.1) in w) c.note.ensures.view))) p.left_is_marked

pub invariant_of-result-clause-ready : goal.invariant_of-result-clause-ready
invariant_of-result-clause-ready c =
    let p = c.args.pass.now in
    let e = c.split_seat-seat.ensures in
    let l = c.requires.light in
    ready_at p.seat c.split_seat-seat.result (right_of (noting c.args.weight (view_of p.seat))) p.ready (e.3 ∙ c.note.ensures.same.0)
    (e.4 ∙ ap (λ (z : Me ℕ View). let w : Me ℕ View = (right_of z.0, []) in w) c.note.ensures.view) (omega arith) refl p.ready.half p.ready.apart

pub invariant_of-result-clause-left_is_marked : goal.invariant_of-result-clause-left_is_marked
invariant_of-result-clause-left_is_marked c =
    let p = c.args.pass.now in
    subst (λ (z : List ℕ). ∥ (0 < p.left → Contains z p.left) ∥₁) (sym (ap (λ (z : Me ℕ View). z.0.tally.marks) (c.split_seat-seat.ensures.4 ∙ ap (λ (z : Me ℕ View). let w : Me ℕ View = (right_of z.0, []) in w) c.note.ensures.view))) p.left_is_marked
