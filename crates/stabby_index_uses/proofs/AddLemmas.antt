-- What a commit on an expected stamp adds.
use Rattle.std.proofs.Common.{◌≡◌, ℕ, ◌+◌, List, [], ◌∷◌, ◌++◌, length, take, refl, sym, ◌∙◌, ap, subst, arith, Result, Ok, Err, Option, Some, None, Bool, true, false}
use Rattle.std.specs.Prelude.{IfOk, OnErr, IsTrue, IsSome, ◌↔◌}
use mathlib.Core.List.{IsPrefix}
use mathlib.Core.Bool.{false≢true}
use Rattle.std.proofs.lemmas.List.{length-append}
use Rattle.std.proofs.lemmas.Grind.{common_steps}
use Rattle.stabby_cell.specs.Recording.{ViewAdvances}
use Rattle.stabby_cell.specs.declared.chronicle.Chronicle.{Ghosts}
use Rattle.stabby_cell.specs.declared.pass.Pass.{Pass}
use Rattle.stabby_cell.specs.Passes.{Looked, Committed, front_of, weight_of}
use Rattle.stabby_cell.proofs.MovesKeepRule.{prefix_whole}
use Rattle.stabby_index.specs.declared.row.Row.{Row}
use Rattle.stabby_index.specs.declared.row.Change.{Change}
use Rattle.stabby_index.specs.declared.row.Change.TheVariants.{Put}
use Rattle.stabby_index.specs.declared.version.Version.{Version}
use Rattle.stabby_index.specs.declared.apply.ApplyFault.{ApplyFault}
use Rattle.stabby_index.specs.Rows.{row_at, rows_at, rows_after, changed_by, with_row}
use Rattle.stabby_index.specs.Applying.{Applied}
use Rattle.stabby_index_uses.specs.Adding.{AddsRow}

pub absent_by : (b : Bool) (o : Option Row) → b ≡ false → (IsTrue b ↔ IsSome o) → o ≡ None
absent_by b None e h = refl
absent_by b (Some r) e h = absurd (false≢true (sym e ∙ h.1 refl))

rows_push : (rows : List Row) (es : List (List Change)) (e : List Change) → rows_after rows (es ++ e ∷ []) ≡ changed_by (rows_after rows es) e
rows_push rows [] e = refl
rows_push rows (d ∷ es) e = rows_push (changed_by rows d) es e

front_taken : (es : List (List Change)) (e : List Change) (n : ℕ) → n ≡ length es → take n (es ++ e ∷ []) ≡ es
front_taken es e n h = grind (arith, common_steps)

all_taken : (es : List (List Change)) (n : ℕ) → n ≡ length es → take n es ≡ es
all_taken es n h = grind (arith, common_steps)

begun_taken : (f t : List (List Change)) → take (length f) (f ++ t) ≡ f
begun_taken f t = grind (arith, common_steps)

prefix_of_both : (f es : List (List Change)) (e : List Change) → IsPrefix f (es ++ e ∷ []) → length f ≡ length es → f ≡ es
prefix_of_both f es e p h = sym (begun_taken f p.0) ∙ (ap (take (length f)) p.1 ∙ front_taken es e (length f) h)

abbrev rows_at_of : ℕ → List (List Change) → List Row
rows_at_of n front = rows_at front n

module _ {g : Ghosts Version (List Change)} where
  -- a row that was put where its key had none, on the stamp that was read
  pub adds : (p q : Pass Version (List Change) g) (row : Row) (before stamp : ℕ) → before ≡ length (front_of p) → row_at (rows_at (front_of p) before) row.key ≡ None → Applied p q (Put row ∷ []) (Some before) stamp → AddsRow (front_of q) row stamp
  adds p q row before stamp count absent a =
      let c = Applied.committed a in
      let es = Applied.earlier a in
      let e : List Change = Put row ∷ [] in
      let front : front_of q ≡ es ++ e ∷ [] = Committed.front c in
      let next : stamp ≡ before + 1 = Applied.expected a before refl in
      let long : length (es ++ e ∷ []) ≡ length es + 1 = length-append es (e ∷ []) in
      let many : stamp ≡ length (es ++ e ∷ []) = Applied.count a ∙ ap length front in
      let same_length : length (front_of p) ≡ length es = omega arith in
      let begun : IsPrefix (front_of p) (es ++ e ∷ []) = subst (IsPrefix (front_of p)) front (ViewAdvances.front (Committed.advances c)) in
      let same : front_of p ≡ es = prefix_of_both (front_of p) es e begun same_length in
      let old : rows_at (front_of q) before ≡ rows_after [] es = ap (rows_at_of before) front ∙ ap (rows_after []) (front_taken es e before (omega arith)) in
      let old_p : rows_at (front_of p) before ≡ rows_after [] es = ap (rows_at_of before) same ∙ ap (rows_after []) (all_taken es before (omega arith)) in
      let new : rows_at (front_of q) stamp ≡ changed_by (rows_after [] es) e = ap (rows_at_of stamp) front ∙ (ap (rows_after []) (all_taken (es ++ e ∷ []) stamp many) ∙ rows_push [] es e) in
      record {
        before = before;
        next = next;
        absent = ap (λ (rows : List Row). row_at rows row.key) (old ∙ sym old_p) ∙ absent;
        rows = new ∙ ap (λ (rows : List Row). with_row rows row) (sym old);
      }

  -- a call that applied changes, or looked, keeps the weight
  pub keeps_weight : (p q : Pass Version (List Change) g) (changes : List Change) (expect : Option ℕ) (answer : Result ℕ ApplyFault) → IfOk answer (Applied p q changes expect) → OnErr answer (Looked p q) → weight_of q ≡ weight_of p
  keeps_weight p q changes expect (Ok s) a l = ViewAdvances.weight (Committed.advances (Applied.committed a))
  keeps_weight p q changes expect (Err e) a l = ViewAdvances.weight (Looked.advances l)

  -- and what it had seen
  pub keeps_front : (p q : Pass Version (List Change) g) (changes : List Change) (expect : Option ℕ) (answer : Result ℕ ApplyFault) → IfOk answer (Applied p q changes expect) → OnErr answer (Looked p q) → IsPrefix (front_of p) (front_of q)
  keeps_front p q changes expect (Ok s) a l = ViewAdvances.front (Committed.advances (Applied.committed a))
  keeps_front p q changes expect (Err e) a l = ViewAdvances.front (Looked.advances l)
