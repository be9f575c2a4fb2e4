-- What holds of each commit of a pass, from call to call, and of the whole history once a pass is whole.
use Rattle.std.proofs.Common.{◌≡◌, ℕ, zero, suc, ◌+◌, ◌-◌, ◌<◌, List, [], ◌∷◌, ◌++◌, length, take, Some, sym, refl, ap, ◌∙◌, subst, arith, append-nil}
use mathlib.Core.List.{IsPrefix}
use mathlib.Core.Logic.{dite}
use native.Mathlib.Decide.{ℕ_discrete}
use Rattle.std.specs.List.{slice_get}
use Rattle.std.proofs.lemmas.Option.{none-some}
use Rattle.std.proofs.lemmas.Bool.Decides.{nat_tests}
use Rattle.stabby_cell.specs.declared.chronicle.Chronicle.{Ghosts}
use Rattle.stabby_cell.specs.declared.pass.Pass.{Pass}
use Rattle.stabby_cell.specs.declared.view.StepKind.TheVariants.{Commit}
use Rattle.stabby_cell.specs.Telling.{noted}
use Rattle.stabby_cell.specs.Rule.{times}
use Rattle.stabby_cell.specs.Recording.{ViewAdvances}
use Rattle.stabby_cell.specs.Passes.{front_of, first_stamp_of, stamp_of, commits_of, Looked, AddedNoCommit, Committed, Joined, IsEachOnce}
use Rattle.stabby_cell.proofs.RecordLemmas.{commits_in-append}
use Rattle.stabby_cell.proofs.StampLemmas.{times-append}
use Rattle.stabby_cell.proofs.CallLemmas.{no_commit_looked}
use Rattle.stabby_cell_uses.specs.Commits.{EachCommit}

-- places in a longer list
module _ {A : Type 0} where
  get_append : (xs zs : List A) (i : ℕ) (x : A) → slice_get xs i ≡ Some x → slice_get (xs ++ zs) i ≡ Some x
  get_append [] zs i x e = absurd (none-some x e)
  get_append (y ∷ xs) zs zero x e = e
  get_append (y ∷ xs) zs (suc i) x e = get_append xs zs i x e

  take_append : (xs zs : List A) (i : ℕ) (x : A) → slice_get xs i ≡ Some x → take i (xs ++ zs) ≡ take i xs
  take_append [] zs i x e = absurd (none-some x e)
  take_append (y ∷ xs) zs zero x e = refl
  take_append (y ∷ xs) zs (suc i) x e = ap (λ l. y ∷ l) (take_append xs zs i x e)

  pub get_prefix : (xs ys : List A) (i : ℕ) (x : A) → IsPrefix xs ys → slice_get xs i ≡ Some x → slice_get ys i ≡ Some x
  get_prefix xs ys i x p e = subst (λ l. slice_get l i ≡ Some x) p.1 (get_append xs p.0 i x e)

  pub take_prefix : (xs ys : List A) (i : ℕ) (x : A) → IsPrefix xs ys → slice_get xs i ≡ Some x → take i ys ≡ take i xs
  take_prefix xs ys i x p e = subst (λ l. take i l ≡ take i xs) p.1 (take_append xs p.0 i x e)

  pub get_last : (xs : List A) (x : A) → slice_get (xs ++ x ∷ []) (length xs) ≡ Some x
  get_last [] x = refl
  get_last (y ∷ xs) x = get_last xs x

  pub take_last : (xs : List A) (x : A) → take (length xs) (xs ++ x ∷ []) ≡ xs
  take_last [] x = refl
  take_last (y ∷ xs) x = ap (λ l. y ∷ l) (take_last xs x)

none_at : (n t : ℕ) → (n ≡ t → ⊥) → times t (n ∷ []) ≡ 0
none_at n t differs = grind (arith, nat_tests)

module _ {V E : Type 0} {g : Ghosts V E} (At : List E → ℕ → Type 0) (later : (xs ys : List E) (i : ℕ) → At xs i → IsPrefix xs ys → At ys i) where
  pub each_none : (p : Pass V E g) → commits_of p ≡ [] → EachCommit At p
  each_none p none = λ t h. let z = ap (times t) none in absurd (omega arith)

  -- the history grows
  each_more : (p q : Pass V E g) (t : ℕ) → EachCommit At p → IsPrefix (front_of p) (front_of q) → first_stamp_of q ≡ first_stamp_of p → 0 < times t (commits_of p) → At (front_of q) (t - first_stamp_of q)
  each_more p q t s grows firsts h = subst (λ (k : ℕ). At (front_of q) (t - k)) (sym firsts) (later (front_of p) (front_of q) (t - first_stamp_of p) (s t h) grows)

  pub each_kept : (p q : Pass V E g) → EachCommit At p → AddedNoCommit p q → EachCommit At q
  each_kept p q s a =
      let same : commits_of q ≡ commits_of p = ViewAdvances.commits (AddedNoCommit.advances a) ∙ (ap (λ l. commits_of p ++ l) (AddedNoCommit.no_commit a) ∙ append-nil (commits_of p)) in
      λ t h. each_more p q t s (ViewAdvances.front (AddedNoCommit.advances a)) (ViewAdvances.first (AddedNoCommit.advances a)) (subst (λ l. 0 < times t l) same h)

  pub each_looked : (p q : Pass V E g) → EachCommit At p → Looked p q → EachCommit At q
  each_looked p q s a = each_kept p q s (no_commit_looked p q a)

  pub each_committed : (p q : Pass V E g) (before : List E) (e : E) → EachCommit At p → Committed p q before e → At (before ++ e ∷ []) (length before) → EachCommit At q
  each_committed p q before e s a at =
      let stamp = first_stamp_of p + length before in
      let added : commits_of q ≡ commits_of p ++ stamp ∷ [] = ViewAdvances.commits (Committed.advances a) ∙ ap (λ l. commits_of p ++ l) (commits_in-append (Committed.steps a) (noted Commit stamp ∷ []) ∙ ap (λ l. l ++ stamp ∷ []) (Committed.no_other a)) in
      let firsts : first_stamp_of q ≡ first_stamp_of p = ViewAdvances.first (Committed.advances a) in
      λ t h. dite (ℕ_discrete stamp t)
      (λ e. let place : length before ≡ t - first_stamp_of q = omega (arith, e, firsts) in
      subst (At (front_of q)) place (subst (λ l. At l (length before)) (sym (Committed.front a)) at))
      (λ differs. let z = none_at stamp t differs in let both = ap (times t) added ∙ times-append t (commits_of p) (stamp ∷ []) in
      each_more p q t s (ViewAdvances.front (Committed.advances a)) firsts (omega (arith, z, both, h)))

  pub each_joined : (p other q : Pass V E g) → EachCommit At p → EachCommit At other → Joined p other q → IsPrefix (front_of p) (front_of q) → IsPrefix (front_of other) (front_of q) → first_stamp_of other ≡ first_stamp_of p → EachCommit At q
  each_joined p other q s u j first second same =
      let firsts : first_stamp_of q ≡ first_stamp_of p = Joined.first j in
      λ t h. let both = ap (times t) (Joined.commits j) ∙ times-append t (commits_of p) (commits_of other) in
      dite (ℕ_discrete (times t (commits_of p)) 0)
      (λ z. each_more other q t u second (firsts ∙ sym same) (omega (arith, z, both, h)))
      (λ some. each_more p q t s first firsts (omega (arith, some)))

-- a whole pass made the commit of every entry
pub each_entry : {V E : Type 0} {g : Ghosts V E} (At : List E → ℕ → Type 0) (q : Pass V E g) → EachCommit At q → IsEachOnce (first_stamp_of q) (stamp_of q) (commits_of q) → (i : ℕ) → i < length (front_of q) → At (front_of q) i
each_entry At q s once =
    λ i below.
    let t = first_stamp_of q + i in
    let one = IsEachOnce.once once t (omega arith) (omega arith) in
    let place : t - first_stamp_of q ≡ i = omega arith in
    subst (At (front_of q)) place (s t (omega (arith, one)))
