-- Sums over the views.
use Rattle.std.proofs.Common.{◌≡◌, ℕ, zero, suc, ◌+◌, ◌≤◌, List, [], ◌∷◌, ◌++◌, set, sym, ap, arith}
use mathlib.Core.Option.{some, some-injective, some-ne-none}
use lib.ListN.{get_elem?}
use Rattle.stabby_row.specs.Rule.{total}

module _ {A : Type 0} (f : A → ℕ) where
  pub total_set : (l : List A) (i : ℕ) (a b : A) → get_elem? l i ≡ some a → total f (set l i b) + f a ≡ total f l + f b
  total_set [] i a b e = absurd (some-ne-none a (sym e))
  total_set (x ∷ xs) zero a b e = let s = ap f (some-injective x a e) in omega arith
  total_set (x ∷ xs) (suc i) a b e = let t = total_set xs i a b e in omega arith

  pub total_append : (l m : List A) → total f (l ++ m) ≡ total f l + total f m
  total_append [] m = omega arith
  total_append (x ∷ xs) m = let t = total_append xs m in omega arith

  pub total_at : (l : List A) (i : ℕ) (a : A) → get_elem? l i ≡ some a → f a ≤ total f l
  total_at [] i a e = absurd (some-ne-none a (sym e))
  total_at (x ∷ xs) zero a e = let s = ap f (some-injective x a e) in omega arith
  total_at (x ∷ xs) (suc i) a e = let t = total_at xs i a e in omega arith

  pub total_same : (l : List A) (i : ℕ) (a b : A) → get_elem? l i ≡ some a → f b ≡ f a → total f (set l i b) ≡ total f l
  total_same l i a b e s = let t = total_set l i a b e in omega arith

  pub total_below : (g : A → ℕ) → ((a : A) → f a ≤ g a) → (l : List A) → total f l ≤ total g l
  total_below g h [] = omega arith
  total_below g h (x ∷ xs) = let t = total_below g h xs in let u = h x in omega arith
