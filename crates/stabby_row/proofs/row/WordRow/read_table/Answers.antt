use Rattle.std.proofs.Common.{arith, suc, ◌≡◌, ℕ, ◌+◌, ◌++◌, List, [], ◌∷◌, length, take, ap, sym, ◌∙◌, subst}
use Rattle.std.proofs.Math.Seq.{take-suc, take-length}
use Rattle.atomic_table.specs.Table.{Me}
use Rattle.stabby_row.specs.declared.view.View.{View}
use Rattle.stabby_row.specs.Seats.{Stood}
use Rattle.stabby_row.proofs.WalkLemmas.{is_at}
use Rattle.stabby_row.proofs.row.WordRow.read_table.Goals as goal

pub loop-i-init : goal.loop-i-init
loop-i-init c =
    let s = c.requires.at in
    let z = c.size_at-len.ensures.size _ _ s.node s.front s.here in
    (c.size_at-len.ensures.same.0, c.size_at-len.ensures.same.1, omega arith, (s, z, c.in_ok-table.ensures.items))

pub word_at-requires-clause-at : goal.word_at-requires-clause-at
word_at-requires-clause-at c =
    let i = c.loop-i.invariant in
    subst (λ (z : Me ℕ View). (s : Stood z.0 c.args.n c.args.at) × (c.size_at-len.result ≡ length s.node.table)) (sym i.1) (i.3.0, i.3.1)

pub loop-i-preserved : goal.loop-i-preserved
loop-i-preserved c =
    let i = c.loop-i.invariant in
    let s = i.3.0 in
    let t : List ℕ = s.node.table in
    let k : ℕ = c.loop-i.i in
    let same = c.word_at.ensures.same in
    let below = c.loop-i-test.true in
    let long = i.3.1 in
    let w = c.word_at.ensures.word _ _ s.node (ap (λ (z : Me ℕ View). z.0.nodes) i.1 ∙ s.front) s.here (omega arith) in
    let up : suc k ≡ k + 1 = omega arith in (
      (same.0.0 ∙ i.0.0, same.0.1 ∙ i.0.1),
      same.1 ∙ i.1,
      omega arith,
      (s, i.3.1, c.in_ok-push.ensures.items ∙ (ap (λ (z : List ℕ). z ++ c.word_at.result ∷ []) i.3.2 ∙ (ap (λ (z : ℕ). take k t ++ z ∷ []) w ∙ (sym (take-suc t k 0 (omega arith)) ∙ ap (λ (z : ℕ). take z t) up)))),
    )

pub returns-clause-table : goal.returns-clause-table
returns-clause-table c =
    let i = c.loop-i.invariant in
    let s = i.3.0 in
    let t : List ℕ = s.node.table in
    let all : c.loop-i.i ≡ length t = (let a = i.2 in let b = c.loop-i-test.false in let l = i.3.1 in omega arith) in
    is_at _ _ _ c.args.at (s, sym (i.3.2 ∙ (ap (λ (z : ℕ). take z t) all ∙ take-length t)))
