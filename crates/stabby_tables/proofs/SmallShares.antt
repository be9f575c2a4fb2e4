-- Shares, and who meets a number first in one, for small lists.
use Rattle.std.proofs.Common.{◌≡◌, ℕ, zero, suc, ◌+◌, ◌<◌, ◌≤◌, List, [], ◌∷◌, length, refl, sym, ◌∙◌, subst, arith, slice_index}
use Rattle.std.specs.List.{Contains}
use Rattle.std.proofs.lemmas.List.{get_or_default}
use Rattle.stabby_tables.specs.Shares.{InShare, IsFirstAt, IsFirstInShare}
use Rattle.stabby_tables.specs.Laws.{SharesOfTen, FirstPlaces, FirstNumbers}

pub shares_of_ten : SharesOfTen
shares_of_ten = record {
  first_place = (omega arith, omega arith);
  last_of_first = (omega arith, omega arith);
  none_of_next = λ h. absurd (omega (arith, h.1));
  next = (omega arith, omega arith);
  none_of_former = λ h. absurd (omega (arith, h.0));
  last_place = (omega arith, omega arith);
  none_past_the_end = λ h. absurd (omega (arith, h.1));
}

-- with one worker and two places, both are of the first worker
both : (p : ℕ) → p < 2 → InShare 2 1 0 p
both p low = (omega arith, omega (arith, low))

greater_first : (a b : ℕ) → b ≤ a → IsFirstAt (a ∷ b ∷ []) 1 1 → ⊥
greater_first a b high first = let less : a < b = first 0 0 (both 1 (omega arith)) (both 0 (omega arith)) (omega arith) in absurd (omega (arith, less, high))

pub first_places : FirstPlaces
first_places = record {
  nothing_before = λ k q _ _ less. absurd (omega (arith, less));
  smaller_before = smaller;
  greater_before = greater_first 1 0 (omega arith);
  equal_before = greater_first 0 0 (omega arith);
  in_another_share = other;
}
  where
    smaller : IsFirstAt (0 ∷ 1 ∷ []) 1 1
    smaller k zero here there less = omega arith
    smaller k (suc q) here there less = absurd (omega (arith, less))

    other : IsFirstAt (1 ∷ 0 ∷ []) 2 1
    other k zero here there less = absurd (omega (arith, here.0, here.1, there.0, there.1))
    other k (suc q) here there less = absurd (omega (arith, less))

-- the number at the place of a member
member_is : (numbers : List ℕ) (v : ℕ) (inside : Contains numbers v) → slice_index numbers inside.0 ≡ v
member_is numbers v inside = sym (get_or_default numbers inside.0 v 0 inside.1) ∙ inside.2

pub first_numbers : FirstNumbers
first_numbers = record {
  repeat = λ v inside low. repeated v inside.0 inside.1 (member_is (0 ∷ 1 ∷ 0 ∷ []) v inside);
  falling = λ all. fell (all 0 (1, omega arith, refl) (omega arith));
  falling_across_shares = λ v inside low. across v inside.0 inside.1 (member_is (1 ∷ 0 ∷ []) v inside);
  below_the_limit = λ v inside low. one_alone v inside.0 inside.1 low (member_is (1 ∷ 0 ∷ []) v inside);
  from_the_limit = λ v inside low. two_alone v inside.0 inside.1 low (member_is (0 ∷ 2 ∷ 1 ∷ []) v inside);
  at_the_limit = λ all. one_late (all 1 (2, omega arith, refl) (omega arith));
}
  where
    First : List ℕ → ℕ → ℕ → Type 0
    First numbers workers v = (p : ℕ) × (p < length numbers) × (slice_index numbers p ≡ v) × IsFirstAt numbers workers p

    at_front : (numbers : List ℕ) (workers v : ℕ) → 0 < length numbers → slice_index numbers 0 ≡ v → First numbers workers v
    at_front numbers workers v some is = (0, some, is, λ k q _ _ less. absurd (omega (arith, less)))

    repeated : (v p : ℕ) → p < 3 → slice_index (0 ∷ 1 ∷ 0 ∷ []) p ≡ v → First (0 ∷ 1 ∷ 0 ∷ []) 1 v
    repeated v zero low is = at_front (0 ∷ 1 ∷ 0 ∷ []) 1 v (omega arith) is
    repeated v (suc zero) low is = (1, omega arith, is, before)
      where
        before : IsFirstAt (0 ∷ 1 ∷ 0 ∷ []) 1 1
        before k zero here there less = omega arith
        before k (suc q) here there less = absurd (omega (arith, less))
    repeated v (suc (suc zero)) low is = at_front (0 ∷ 1 ∷ 0 ∷ []) 1 v (omega arith) is
    repeated v (suc (suc (suc p))) low is = absurd (omega (arith, low))

    fell : First (1 ∷ 0 ∷ []) 1 0 → ⊥
    fell (zero, low, is, first) = absurd (omega (arith, is))
    fell (suc zero, low, is, first) = greater_first 1 0 (omega arith) first
    fell (suc (suc p), low, is, first) = absurd (omega (arith, low))

    across : (v p : ℕ) → p < 2 → slice_index (1 ∷ 0 ∷ []) p ≡ v → First (1 ∷ 0 ∷ []) 2 v
    across v zero low is = at_front (1 ∷ 0 ∷ []) 2 v (omega arith) is
    across v (suc zero) low is = (1, omega arith, is, first_places.in_another_share)
    across v (suc (suc p)) low is = absurd (omega (arith, low))

    one_alone : (v p : ℕ) → p < 2 → 1 ≤ v → slice_index (1 ∷ 0 ∷ []) p ≡ v → First (1 ∷ 0 ∷ []) 1 v
    one_alone v zero low from is = at_front (1 ∷ 0 ∷ []) 1 v (omega arith) is
    one_alone v (suc zero) low from is = absurd (omega (arith, from, is))
    one_alone v (suc (suc p)) low from is = absurd (omega (arith, low))

    two_alone : (v p : ℕ) → p < 3 → 2 ≤ v → slice_index (0 ∷ 2 ∷ 1 ∷ []) p ≡ v → First (0 ∷ 2 ∷ 1 ∷ []) 1 v
    two_alone v zero low from is = absurd (omega (arith, from, is))
    two_alone v (suc zero) low from is = (1, omega arith, is, before)
      where
        before : IsFirstAt (0 ∷ 2 ∷ 1 ∷ []) 1 1
        before k zero here there less = omega arith
        before k (suc q) here there less = absurd (omega (arith, less))
    two_alone v (suc (suc zero)) low from is = absurd (omega (arith, from, is))
    two_alone v (suc (suc (suc p))) low from is = absurd (omega (arith, low))

    all_three : (p : ℕ) → p < 3 → InShare 3 1 0 p
    all_three p low = (omega arith, omega (arith, low))

    one_late : First (0 ∷ 2 ∷ 1 ∷ []) 1 1 → ⊥
    one_late (zero, low, is, first) = absurd (omega (arith, is))
    one_late (suc zero, low, is, first) = absurd (omega (arith, is))
    one_late (suc (suc zero), low, is, first) = let less : 2 < 1 = first 0 1 (all_three 2 (omega arith)) (all_three 1 (omega arith)) (omega arith) in absurd (omega (arith, less))
    one_late (suc (suc (suc p)), low, is, first) = absurd (omega (arith, low))
