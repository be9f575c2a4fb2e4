-- Texts that differ.
use Rattle.std.proofs.Common.{◌≡◌, ℕ, List, [], ◌∷◌, refl, sym, ◌∙◌, ap, arith, Bool, true, false, ◌==◌, ◌&&◌, Option, Some, None}
use mathlib.Core.Bool.{false≢true}
use Rattle.std.proofs.lemmas.Bool.Decides.{nat_tests}

abbrev same : List ℕ → List ℕ → Bool
same [] [] = true
same [] (y ∷ q) = false
same (x ∷ p) [] = false
same (x ∷ p) (y ∷ q) = (x == y) && same p q

same_head : (t : Bool) (b : Bool) → t ≡ true → b ≡ true → (t && b) ≡ true
same_head t b e f = cc

same_number : (x : ℕ) → (x == x) ≡ true
same_number x = grind (arith, nat_tests)

same_self : (p : List ℕ) → same p p ≡ true
same_self [] = refl
same_self (x ∷ p) = same_head (x == x) (same p p) (same_number x) (same_self p)

-- texts that a test tells apart differ
pub apart : (p q : List ℕ) → same p q ≡ false → p ≡ q → ⊥
apart p q differs e = false≢true (sym differs ∙ (ap (same p) (sym e) ∙ same_self p))

pub never_some : (text : List ℕ) → Some text ≡ None → ⊥
never_some text e = cc

pub some_same : (a b : List ℕ) → Some a ≡ Some b → a ≡ b
some_same a b e = cc
