-- A whole pass makes every commit, so its front is what it committed.
use Rattle.std.proofs.Common.{◌≡◌, ℕ, ◌+◌, ◌^◌, ◌<◌, ◌≤◌, List, [], ◌∷◌, ◌++◌, length, take, refl, sym, ◌∙◌, ap, subst, arith, Option, None, ◌⊎◌, inl, inr}
use mathlib.Core.List.{IsPrefix}
use Rattle.std.proofs.lemmas.List.{length-append}
use Rattle.std.proofs.lemmas.Grind.{common_steps}
use Rattle.stabby_cell.specs.Recording.{ViewAdvances, commits_in}
use Rattle.stabby_cell.specs.declared.chronicle.Chronicle.{Ghosts}
use Rattle.stabby_cell.specs.declared.pass.Pass.{Pass}
use Rattle.stabby_cell.specs.declared.cell.TurnCell.{TurnCell}
use Rattle.stabby_cell.specs.Passes.{Looked, Committed, IsPassOf, IsWhole, IsEachOnce, front_of, stamp_of, first_stamp_of, commits_of, weight_of}
use Rattle.stabby_cell.proofs.MovesKeepRule.{prefix_whole}
use Rattle.stabby_index.specs.declared.row.Change.{Change}
use Rattle.stabby_index.specs.declared.version.Version.{Version}
use Rattle.stabby_index.specs.Applying.{Applied}

front_taken : (es : List (List Change)) (e : List Change) (n : ℕ) → n ≡ length es → take n (es ++ e ∷ []) ≡ es
front_taken es e n h = grind (arith, common_steps)

begun_taken : (f t : List (List Change)) → take (length f) (f ++ t) ≡ f
begun_taken f t = grind (arith, common_steps)

begun_same : (f es : List (List Change)) (e : List Change) → IsPrefix f (es ++ e ∷ []) → length f ≡ length es → f ≡ es
begun_same f es e p h = sym (begun_taken f p.0) ∙ (ap (take (length f)) p.1 ∙ front_taken es e (length f) h)

module _ {g : Ghosts Version (List Change)} where
  -- how many commits a whole pass has made
  many : (cell : TurnCell Version (List Change)) (p : Pass Version (List Change) g) → IsPassOf cell p → IsWhole p → length (commits_of p) ≡ length (front_of p)
  many cell p is whole = let k = IsEachOnce.count (IsPassOf.knows is whole) in omega arith

  pub looked_weight : (p q : Pass Version (List Change) g) → Looked p q → weight_of q ≡ weight_of p
  looked_weight p q l = ViewAdvances.weight (Looked.advances l)

  pub looked_front : (cell : TurnCell Version (List Change)) (p q : Pass Version (List Change) g) → IsPassOf cell p → IsPassOf cell q → IsWhole p → Looked p q → front_of q ≡ front_of p
  looked_front cell p q is is' whole l =
      let a = Looked.advances l in
      let before = many cell p is whole in
      let after = many cell q is' (looked_weight p q l ∙ whole) in
      let same = ap length (ViewAdvances.commits a) ∙ length-append (commits_of p) (commits_in (Looked.steps l)) in
      let none = ap length (Looked.no_commit l) in
      sym (prefix_whole (front_of p) (front_of q) (ViewAdvances.front a) (omega arith))

  pub applied_weight : (p q : Pass Version (List Change) g) (changes : List Change) (expect : Option ℕ) (s : ℕ) → Applied p q changes expect s → weight_of q ≡ weight_of p
  applied_weight p q changes expect s a = ViewAdvances.weight (Committed.advances (Applied.committed a))

  pub applied_front : (cell : TurnCell Version (List Change)) (p q : Pass Version (List Change) g) (changes : List Change) (expect : Option ℕ) (s : ℕ) → IsPassOf cell p → IsPassOf cell q → IsWhole p → Applied p q changes expect s
      → front_of q ≡ front_of p ++ changes ∷ []
  applied_front cell p q changes expect s is is' whole a =
      let c = Applied.committed a in
      let before = many cell p is whole in
      let after = many cell q is' (applied_weight p q changes expect s a ∙ whole) in
      let added = Applied.added a in
      let front : front_of q ≡ Applied.earlier a ++ changes ∷ [] = Committed.front c in
      let long = ap length front ∙ length-append (Applied.earlier a) (changes ∷ []) in
      let begun : IsPrefix (front_of p) (Applied.earlier a ++ changes ∷ []) = subst (IsPrefix (front_of p)) front (ViewAdvances.front (Committed.advances c)) in
      let same : front_of p ≡ Applied.earlier a = begun_same (front_of p) (Applied.earlier a) changes begun (omega arith) in
      front ∙ ap (λ (l : List (List Change)). l ++ changes ∷ []) (sym same)

  pub applied_stamp : (cell : TurnCell Version (List Change)) (p q : Pass Version (List Change) g) (changes : List Change) (expect : Option ℕ) (s : ℕ) → IsPassOf cell p → IsPassOf cell q → IsWhole p → Applied p q changes expect s → s ≡ length (front_of p) + 1
  applied_stamp cell p q changes expect s is is' whole a =
      Applied.count a ∙ (ap length (applied_front cell p q changes expect s is is' whole a) ∙ length-append (front_of p) (changes ∷ []))
