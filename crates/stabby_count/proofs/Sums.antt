-- Sums over the views, and what holds of each.
use Rattle.std.proofs.Common.{◌≡◌, ◌≢◌, ℕ, zero, suc, ◌+◌, ◌≤◌, List, [], ◌∷◌, ◌++◌, set, refl, ap, subst, arith}
use Rattle.std.specs.Prelude.{slice_get, sum_by, All, Some, unwrap_or}
use Rattle.std.proofs.lemmas.Option.{none-some}
use Rattle.std.proofs.lemmas.List.Sums.{sum_by-cons, sum_by-append}
use Rattle.std.proofs.lemmas.List.Elements.{All-head, All-tail}

module _ {X : Type 0} where
  -- two elements at one place
  pub same_at : (x y : X) → Some x ≡ Some y → x ≡ y
  same_at x y e = ap (λ o. unwrap_or o x) e

  pub All-at : (P : X → Type 0) (xs : List X) (i : ℕ) (x : X) → slice_get xs i ≡ Some x → All P xs → P x
  All-at P [] i x at all = absurd (none-some x at)
  All-at P (z ∷ zs) zero x at all = subst P (same_at z x at) (All-head P z zs all)
  All-at P (z ∷ zs) (suc i) x at all = All-at P zs i x at (All-tail P z zs all)

module _ {X : Type 0} (f : X → ℕ) where
  -- replacing one number of a list changes the sum by the difference of the two
  pub sum_replaced : (xs : List X) (i : ℕ) (x y : X) → slice_get xs i ≡ Some x → sum_by f (set xs i y) + f x ≡ sum_by f xs + f y
  sum_replaced [] i x y at = absurd (none-some x at)
  sum_replaced (z ∷ zs) zero x y at = let e : f z ≡ f x = ap f (same_at z x at) in let a = sum_by-cons f z zs in let b = sum_by-cons f y zs in omega arith
  sum_replaced (z ∷ zs) (suc i) x y at = let r = sum_replaced zs i x y at in let a = sum_by-cons f z zs in let b = sum_by-cons f z (set zs i y) in omega arith

  pub sum_has : (xs : List X) (i : ℕ) (x : X) → slice_get xs i ≡ Some x → f x ≤ sum_by f xs
  sum_has [] i x at = absurd (none-some x at)
  sum_has (z ∷ zs) zero x at = let e : f z ≡ f x = ap f (same_at z x at) in let a = sum_by-cons f z zs in omega arith
  sum_has (z ∷ zs) (suc i) x at = let r = sum_has zs i x at in let a = sum_by-cons f z zs in omega arith

  pub sum_has_two : (xs : List X) (i j : ℕ) (x y : X) → slice_get xs i ≡ Some x → slice_get xs j ≡ Some y → j ≢ i → f x + f y ≤ sum_by f xs
  sum_has_two [] i j x y at there other = absurd (none-some x at)
  sum_has_two (z ∷ zs) zero zero x y at there other = absurd (other refl)
  sum_has_two (z ∷ zs) zero (suc j) x y at there other = let e : f z ≡ f x = ap f (same_at z x at) in let a = sum_by-cons f z zs in let r = sum_has zs j y there in omega arith
  sum_has_two (z ∷ zs) (suc i) zero x y at there other = let e : f z ≡ f y = ap f (same_at z y there) in let a = sum_by-cons f z zs in let r = sum_has zs i x at in omega arith
  sum_has_two (z ∷ zs) (suc i) (suc j) x y at there other = let r = sum_has_two zs i j x y at there (λ e. other (ap suc e)) in let a = sum_by-cons f z zs in omega arith

  pub sum_more : (xs : List X) (x : X) → sum_by f (xs ++ x ∷ []) ≡ sum_by f xs + f x
  sum_more xs x = let a = sum_by-append f xs (x ∷ []) in let b = sum_by-cons f x [] in omega arith
