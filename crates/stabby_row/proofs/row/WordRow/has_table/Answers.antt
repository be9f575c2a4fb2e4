use Rattle.std.proofs.Common.{rules, arith, ◌≡◌, ℕ, List, length, slice_index, ap, sym, ◌∙◌, subst}
use Rattle.std.proofs.lemmas.List.{ext_get_or}
use native.Mathlib.Decide.{ℕ_discrete}
use mathlib.Core.Logic.{dite}
use Rattle.atomic_table.specs.Table.{Me}
use Rattle.stabby_row.specs.declared.view.View.{View}
use Rattle.stabby_row.specs.Seats.{Stood}
use Rattle.stabby_row.proofs.WalkLemmas.{ready_same}
use Rattle.stabby_row.proofs.row.WordRow.has_table.Goals as goal

pub returns-then-size_at-table-clause-told : goal.returns-then-size_at-table-clause-told
returns-then-size_at-table-clause-told c = let s = c.requires.at in (s, λ e. let z = c.size_at.ensures.size _ _ s.node s.front s.here in let l = ap length e in let t = c.if-size_at-table.true in absurd (t (z ∙ l)))

pub loop-i-init : goal.loop-i-init
loop-i-init c = let s = c.requires.at in let z = c.size_at.ensures.size _ _ s.node s.front s.here in (c.size_at.ensures.same.0, c.size_at.ensures.same.1, (s, sym c.if-size_at-table.false ∙ z, λ k l. absurd (omega arith)))

pub returns-then-word_at-table-clause-told : goal.returns-then-word_at-table-clause-told
returns-then-word_at-table-clause-told c =
    let i = c.loop-i.invariant in
    let s = i.2.0 in
    let below = c.loop-i-test.true in
    let long = i.2.1 in
    let w = c.word_at.ensures.word _ _ s.node (ap (λ (z : Me ℕ View). z.0.nodes) i.1 ∙ s.front) s.here (omega arith) in
    (s, λ e. absurd (c.if-word_at-table.true (w ∙ ap (λ (z : List ℕ). slice_index z c.loop-i.i) e)))

pub word_at-requires : goal.word_at-requires
word_at-requires c =
    let i = c.loop-i.invariant in
    let s = i.2.0 in
    record {
      seat = (i.0.0 ∙ c.requires.seat.0, ready_same _ _ c.requires.seat.1 i.0.0 i.1);
      at = subst (λ (z : Me ℕ View). (s : Stood z.0 c.args.n c.args.at) × (length c.args.table.now ≡ length s.node.table)) (sym i.1) (s, i.2.1);
      inside = search rules;
    }

pub loop-i-preserved : goal.loop-i-preserved
loop-i-preserved c =
    let i = c.loop-i.invariant in
    let s = i.2.0 in
    let same = c.word_at.ensures.same in
    let below = c.loop-i-test.true in
    let long = i.2.1 in
    let w = c.word_at.ensures.word _ _ s.node (ap (λ (z : Me ℕ View). z.0.nodes) i.1 ∙ s.front) s.here (omega arith) in (
      (same.0.0 ∙ i.0.0, same.0.1 ∙ i.0.1),
      same.1 ∙ i.1,
      (
        s,
        i.2.1,
        λ k l. dite (ℕ_discrete k c.loop-i.i)
            (λ e. ap (λ (z : ℕ). slice_index c.args.table.now z) e ∙ (sym c.if-word_at-table.false ∙ (w ∙ ap (λ (z : ℕ). slice_index s.node.table z) (sym e))))
            (λ ne. i.2.2 k (omega arith)),
      ),
    )

pub returns-clause-told : goal.returns-clause-told
returns-clause-told c = let i = c.loop-i.invariant in let s = i.2.0 in (s, sym (ext_get_or 0 _ _ i.2.1 (λ k l. i.2.2 k (omega arith))))
