-- With one worker the new tables stand in the order of their first appearance.
use Rattle.std.proofs.Common.{◌≡◌, ℕ, zero, suc, ◌+◌, ◌-◌, ◌*◌, ◌<◌, ◌≤◌, min, List, [], ◌∷◌, ◌++◌, length, take, map, refl, sym, ◌∙◌, ap, subst, arith, Bool, true, false, if◌then◌else◌, ◌⊎◌, inl, inr, slice_index, length-append, Option, Some, slice_get}
use mathlib.Core.Bool.{false≢true}
use Rattle.std.specs.List.{fold, Contains}
use Rattle.std.proofs.lemmas.Bool.{cases_lt}
use Rattle.std.proofs.lemmas.List.{take_all, length-map}
use Rattle.std.proofs.Math.Nat.{div-one}
use Rattle.stabby_tables.specs.Tables.{Table, is_same}
use Rattle.stabby_tables.specs.Lists.{has, with_table, place, AppendsSome, AppendsAbsent}
use Rattle.stabby_tables.specs.Shares.{share_size, InShare, IsFirstInShare}
use Rattle.stabby_tables.proofs.Growing.{same_itself, equal_from_same, place_below}
use Rattle.stabby_tables.proofs.Distinctness.{place_is}

-- ---- the first k tables of a list
has_low : (f : List Table) (t : Table) (k : ℕ) → has f t ≡ true → place f t < k → has (take k f) t ≡ true
has_low [] t k member low = absurd (false≢true member)
has_low (u ∷ f) t zero member low = absurd (omega (arith, low))
has_low (u ∷ f) t (suc k) member low = grind (arith, has_low f t k)

has_high : (f : List Table) (t : Table) (k : ℕ) → k ≤ place f t → has (take k f) t ≡ false
has_high [] t zero high = refl
has_high [] t (suc k) high = refl
has_high (u ∷ f) t zero high = refl
has_high (u ∷ f) t (suc k) high = grind (arith, has_high f t k)

take_with : (f : List Table) (t : Table) → has f t ≡ true → take (suc (place f t)) f ≡ take (place f t) f ++ t ∷ []
take_with [] t member = absurd (false≢true member)
take_with (u ∷ f) t member = by (is_same u t) refl member (take_with f t)
  where
    by : (b : Bool) → is_same u t ≡ b → (if b then true else has f t) ≡ true → (has f t ≡ true → take (suc (place f t)) f ≡ take (place f t) f ++ t ∷ [])
        → take (suc (if b then 0 else suc (place f t))) (u ∷ f) ≡ take (if b then 0 else suc (place f t)) (u ∷ f) ++ t ∷ []
    by true same h rest = ap (λ v. v ∷ []) (equal_from_same u t same)
    by false other h rest = ap (λ l. u ∷ l) (rest h)

-- ---- tables that come in the order of a list
-- each number from k on has a place among ts, and only smaller numbers stand before it
abbrev HaveFirsts : List Table → List Table → ℕ → Type 0
HaveFirsts new ts k = (v : ℕ) → k ≤ v → v < length new
    → (p : ℕ) × (p < length ts) × (slice_index (map (place new) ts) p ≡ v) × ((q : ℕ) → q < p → slice_index (map (place new) ts) q < v)

abbrev AllIn : List Table → List Table → Type 0
AllIn new ts = (t : Table) → has ts t ≡ true → has new t ≡ true

all_tail : (new ts : List Table) (t : Table) → AllIn new (t ∷ ts) → AllIn new ts
all_tail new ts t all u member = all u (by (is_same t u))
  where
    by : (b : Bool) → (if b then true else has ts u) ≡ true
    by true = refl
    by false = member

-- the firsts of the tables behind t, where t has none of their numbers
firsts_tail : (new ts : List Table) (t : Table) (k j : ℕ) → k ≤ j → (place new t < j) → HaveFirsts new (t ∷ ts) k → HaveFirsts new ts j
firsts_tail new ts t k j more low firsts v from below = by (firsts v (omega (arith, more, from)) below)
  where
    by : ((p : ℕ) × (p < suc (length ts)) × (slice_index (map (place new) (t ∷ ts)) p ≡ v) × ((q : ℕ) → q < p → slice_index (map (place new) (t ∷ ts)) q < v))
        → (p : ℕ) × (p < length ts) × (slice_index (map (place new) ts) p ≡ v) × ((q : ℕ) → q < p → slice_index (map (place new) ts) q < v)
    by (zero, within, is, before) = absurd (omega (arith, is, low, from))
    by (suc p, within, is, before) = (p, omega (arith, within), is, λ q less. before (suc q) (omega (arith, less)))

-- where t isn't among the first k tables, it is the next one
next_is : (new ts : List Table) (t : Table) (k : ℕ) → k ≤ place new t → place new t < length new → HaveFirsts new (t ∷ ts) k → place new t ≡ k
next_is new ts t k high below firsts = by (firsts k (omega arith) (omega (arith, high, below)))
  where
    by : ((p : ℕ) × (p < suc (length ts)) × (slice_index (map (place new) (t ∷ ts)) p ≡ k) × ((q : ℕ) → q < p → slice_index (map (place new) (t ∷ ts)) q < k)) → place new t ≡ k
    by (zero, within, is, before) = is
    by (suc p, within, is, before) = let less : place new t < k = before 0 (omega arith) in absurd (omega (arith, less, high))

folds_to : (new ts : List Table) (k : ℕ) → k ≤ length new → AllIn new ts → HaveFirsts new ts k → fold with_table (take k new) ts ≡ new
folds_to new [] k low all firsts = by (cases_lt k (length new))
  where
    by : (k < length new) ⊎ (length new ≤ k) → take k new ≡ new
    by (inl less) = absurd (omega (arith, (firsts k (omega arith) less).1))
    by (inr end) = take_all k new end
folds_to new (t ∷ ts) k low all firsts = by (λ j. folds_to new ts j) (cases_lt (place new t) k)
  where
    there : has new t ≡ true
    there = all t (subst (λ b. (if b then true else has ts t) ≡ true) (sym (same_itself t)) refl)

    by : ((j : ℕ) → j ≤ length new → AllIn new ts → HaveFirsts new ts j → fold with_table (take j new) ts ≡ new) → (place new t < k) ⊎ (k ≤ place new t)
        → fold with_table (with_table (take k new) t) ts ≡ new
    by rest (inl less) = rw (has_low new t k there less) (rest k low (all_tail new ts t all) (firsts_tail new ts t k k (omega arith) less firsts))
    by rest (inr high) =
        let next : place new t ≡ k = next_is new ts t k high (place_below new t there) firsts in
        let longer : take k new ++ t ∷ [] ≡ take (suc k) new = sym (subst (λ n. take (suc n) new ≡ take n new ++ t ∷ []) next (take_with new t there)) in
        rw (has_high new t k high, longer) (rest (suc k) (omega (arith, next, place_below new t there)) (all_tail new ts t all) (firsts_tail new ts t k (suc k) (omega arith) (omega (arith, next)) firsts))

-- ---- what was appended
first_table : (f : List Table) (v : ℕ) → v < length f → (t : Table) × (has f t ≡ true) × (slice_get f v ≡ Some t)
first_table [] v low = absurd (omega (arith, low))
first_table (u ∷ f) zero low = (u, rw (same_itself u) refl, refl)
first_table (u ∷ f) (suc v) low = by (first_table f v (omega (arith, low)))
  where
    by : ((t : Table) × (has f t ≡ true) × (slice_get f v ≡ Some t)) → (t : Table) × (has (u ∷ f) t ≡ true) × (slice_get (u ∷ f) (suc v) ≡ Some t)
    by (t, member, at) = (t, elim (is_same u t) as (λ b. (if b then true else has f t) ≡ true) [ true ↦ refl | false ↦ member ], at)

added_table : (old added : List Table) (v : ℕ) → length old ≤ v → v < length (old ++ added) → (t : Table) × (has added t ≡ true) × (slice_get (old ++ added) v ≡ Some t)
added_table [] added v from below = first_table added v below
added_table (u ∷ old) added zero from below = absurd (omega (arith, from))
added_table (u ∷ old) added (suc v) from below = added_table old added v (omega (arith, from)) (omega (arith, below))

contains_place : (f ts : List Table) (t : Table) → has ts t ≡ true → Contains (map (place f) ts) (place f t)
contains_place f [] t member = absurd (false≢true member)
contains_place f (u ∷ ts) t member = by (is_same u t) refl member (contains_place f ts t)
  where
    by : (b : Bool) → is_same u t ≡ b → (if b then true else has ts t) ≡ true → (has ts t ≡ true → Contains (map (place f) ts) (place f t)) → Contains (map (place f) (u ∷ ts)) (place f t)
    by true same h rest = (0, omega arith, ap (place f) (equal_from_same u t same))
    by false other h rest = let w = rest h in (suc w.0, omega (arith, w.1), w.2)

-- one worker has all places
own_share : (n p : ℕ) → p < n → InShare n 1 0 p
own_share n p low =
    let all : share_size n 1 ≡ n = div-one (n + 0) ∙ omega arith in
    (omega arith, rw all (omega (arith, low)))

pub one_worker : (old ts new : List Table) → AppendsAbsent old ts new → IsFirstInShare (map (place new) ts) 1 (length old) → new ≡ fold with_table old ts
one_worker old ts new appends first = sym (ap (λ l. fold with_table l ts) (sym taken) ∙ folds_to new ts (length old) short appends.every firsts)
  where
    some : AppendsSome old ts new
    some = appends.some

    short : length old ≤ length new
    short = omega (arith, ap length some.appended, length-append old some.added)

    taken : take (length old) new ≡ old
    taken = ap (take (length old)) some.appended ∙ take_front old some.added
      where
        take_front : (f g : List Table) → take (length f) (f ++ g) ≡ f
        take_front [] g = refl
        take_front (u ∷ f) g = ap (λ l. u ∷ l) (take_front f g)

    firsts : HaveFirsts new ts (length old)
    firsts v from below =
        let at = added_table old some.added v from (subst (λ l. v < length l) some.appended below) in
        let number : place new at.0 ≡ v = place_is new at.0 v some.once (subst (λ l. slice_get l v ≡ Some at.0) (sym some.appended) at.2) in
        let inside : Contains (map (place new) ts) v = subst (Contains (map (place new) ts)) number (contains_place new ts at.0 (some.from at.0 at.1)) in
        let met = first v inside from in
        let long : length (map (place new) ts) ≡ length ts = length-map ts (place new) in
        (met.0, omega (arith, met.1, long), met.2, λ q less. subst (λ k. slice_index (map (place new) ts) q < k) met.2 (met.3 0 q (own_share _ met.0 met.1) (own_share _ q (omega (arith, less, met.1))) less))
