-- What a place of a list holds once an item was set, or one was added at the end.
use Rattle.std.proofs.Common.{◌≡◌, ◌≢◌, ◌⊎◌, inl, inr, ℕ, zero, suc, ◌+◌, List, [], ◌∷◌, ◌++◌, length, get_or, set, Some, refl, ap, subst, arith}
use mathlib.Core.List.{IsPrefix}
use Rattle.std.specs.Prelude.{slice_get, unwrap_or}
use Rattle.std.proofs.lemmas.Option.{none-some}

module _ {A : Type 0} where
  pub same_some : (x y : A) → Some x ≡ Some y → x ≡ y
  same_some x y e = ap (λ o. unwrap_or o x) e

  pub get_append : (xs zs : List A) (i : ℕ) (x : A) → slice_get xs i ≡ Some x → slice_get (xs ++ zs) i ≡ Some x
  get_append [] zs i x e = absurd (none-some x e)
  get_append (y ∷ xs) zs zero x e = e
  get_append (y ∷ xs) zs (suc i) x e = get_append xs zs i x e

  pub get_prefix : (xs ys : List A) (i : ℕ) (x : A) → IsPrefix xs ys → slice_get xs i ≡ Some x → slice_get ys i ≡ Some x
  get_prefix xs ys i x p e = subst (λ l. slice_get l i ≡ Some x) p.1 (get_append xs p.0 i x e)

  pub get_last : (xs : List A) (x : A) → slice_get (xs ++ x ∷ []) (length xs) ≡ Some x
  get_last [] x = refl
  get_last (y ∷ xs) x = get_last xs x

  -- a place of a list that grew by y: one of the list before, or the last
  grown_by : (zs : List A) (y : A) (i : ℕ) (x : A) → (slice_get zs i ≡ Some x) ⊎ ((i ≡ length zs) × (y ≡ x))
      → (slice_get zs i ≡ Some x) ⊎ ((suc i ≡ suc (length zs)) × (y ≡ x))
  grown_by zs y i x (inl at) = inl at
  grown_by zs y i x (inr last) = inr (ap suc last.0, last.1)

  pub get_grown : (xs : List A) (y : A) (i : ℕ) (x : A) → slice_get (xs ++ y ∷ []) i ≡ Some x
      → (slice_get xs i ≡ Some x) ⊎ ((i ≡ length xs) × (y ≡ x))
  get_grown [] y zero x at = inr (refl, same_some y x at)
  get_grown [] y (suc i) x at = absurd (none-some x at)
  get_grown (z ∷ zs) y zero x at = inl at
  get_grown (z ∷ zs) y (suc i) x at = grown_by zs y i x (get_grown zs y i x at)

  -- a place of a list in which y was set at i: another place, or that one
  set_by : (zs : List A) (i : ℕ) (y : A) (j : ℕ) (x : A) → ((slice_get zs j ≡ Some x) × (j ≢ i)) ⊎ ((j ≡ i) × (y ≡ x))
      → ((slice_get zs j ≡ Some x) × (suc j ≢ suc i)) ⊎ ((suc j ≡ suc i) × (y ≡ x))
  set_by zs i y j x (inl other) = inl (other.0, λ e. other.1 (omega (arith, e)))
  set_by zs i y j x (inr here) = inr (ap suc here.0, here.1)

  pub get_set : (xs : List A) (i : ℕ) (y : A) (j : ℕ) (x : A) → slice_get (set xs i y) j ≡ Some x
      → ((slice_get xs j ≡ Some x) × (j ≢ i)) ⊎ ((j ≡ i) × (y ≡ x))
  get_set [] i y j x at = absurd (none-some x at)
  get_set (z ∷ zs) zero y zero x at = inr (refl, same_some y x at)
  get_set (z ∷ zs) zero y (suc j) x at = inl (at, λ e. omega (arith, e))
  get_set (z ∷ zs) (suc i) y zero x at = inl (at, λ e. omega (arith, e))
  get_set (z ∷ zs) (suc i) y (suc j) x at = set_by zs i y j x (get_set zs i y j x at)

  -- reading by a default gives what stands there
  pub read_there : (xs : List A) (i : ℕ) (x d : A) → slice_get xs i ≡ Some x → get_or xs i d ≡ x
  read_there [] i x d at = absurd (none-some x at)
  read_there (y ∷ xs) zero x d at = same_some y x at
  read_there (y ∷ xs) (suc i) x d at = read_there xs i x d at

  pub set_same : (xs : List A) (i : ℕ) (x y : A) → slice_get xs i ≡ Some x → slice_get (set xs i y) i ≡ Some y
  set_same [] i x y at = absurd (none-some x at)
  set_same (z ∷ zs) zero x y at = refl
  set_same (z ∷ zs) (suc i) x y at = set_same zs i x y at

  pub length_grown : (xs : List A) (x : A) → length (xs ++ x ∷ []) ≡ length xs + 1
  length_grown [] x = refl
  length_grown (y ∷ xs) x = let r = length_grown xs x in omega arith

  pub length_set : (xs : List A) (i : ℕ) (y : A) → length (set xs i y) ≡ length xs
  length_set [] i y = refl
  length_set (z ∷ zs) zero y = refl
  length_set (z ∷ zs) (suc i) y = ap suc (length_set zs i y)

  pub set_other : (xs : List A) (i j : ℕ) (y : A) → j ≢ i → slice_get (set xs i y) j ≡ slice_get xs j
  set_other [] i j y other = refl
  set_other (z ∷ zs) zero zero y other = absurd (other refl)
  set_other (z ∷ zs) zero (suc j) y other = refl
  set_other (z ∷ zs) (suc i) zero y other = refl
  set_other (z ∷ zs) (suc i) (suc j) y other = set_other zs i j y (λ e. other (ap suc e))
