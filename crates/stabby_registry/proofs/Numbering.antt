-- The entries of a list of distinct tables have the numbers below their count, each once.
use Rattle.std.proofs.Common.{◌≡◌, ℕ, zero, suc, ◌+◌, ◌<◌, ◌≤◌, List, [], ◌∷◌, ◌++◌, length, map, refl, sym, ◌∙◌, ap, subst, arith, Bool, true, false, if◌then◌else◌, length-append, ◌||◌, ◌==◌, Some, None, cond, inl, inr, ◌⊎◌}
use mathlib.Core.Bool.{false≢true}
use Rattle.std.specs.List.{fold, slice_index, All, AllByRecursion, find}
use Rattle.std.proofs.lemmas.Bool.{cases_lt}
use Rattle.std.proofs.lemmas.Option.{same_Some}
use Rattle.std.proofs.lemmas.Bool.Decides.{nat_tests}
use Rattle.std.proofs.lemmas.List.{length-map}
use Rattle.std.proofs.lemmas.List.Elements.{All-from_recursion}
use Rattle.stabby_tables.specs.Tables.{Table, is_before, is_same}
use Rattle.stabby_tables.specs.Lists.{has, with_table, place, placed, increasing, ordered, AllAfter, IsRising, IsDistinct}
use Rattle.stabby_tables.proofs.Growing.{has_with_table, has_placed, has_increasing, equal_from_same}
use Rattle.stabby_tables.proofs.Distinctness.{place_is}
use Rattle.stabby_tables.proofs.Sorted.{rising_increasing, rising_placed, placed_there, before_not_same}
use Rattle.stabby_tables.proofs.Ranks.{place_injective}
use Rattle.stabby_registry.specs.Interned.{CanRank}
use Rattle.stabby_registry.specs.Inserts.{IsNumber}
use Rattle.stabby_registry.specs.Work.{AreIn}
use Rattle.stabby_registry.proofs.Versions.{has_number}
use Rattle.stabby_registry.proofs.Listing.{all_in_order, NumberedBelow, pairs_below}
use Rattle.stabby_registry.proofs.Working.{places_below}

-- ---- as many members in order as there are distinct members
placed_by : (b e : Bool) (t u : Table) (s : List Table) → is_same u t ≡ e → e ≡ false → length (placed t s) ≡ length s + 1 → length (if b then u ∷ placed t s else (if e then u ∷ s else t ∷ u ∷ s)) ≡ length (u ∷ s) + 1
placed_by true e t u s same other rest = omega (arith, rest)
placed_by false true t u s same other rest = absurd (false≢true (sym other))
placed_by false false t u s same other rest = omega arith

first_other : (u t : Table) (s : List Table) → has (u ∷ s) t ≡ false → is_same u t ≡ false
first_other u t s absent = by (is_same u t) refl
  where
    by : (b : Bool) → is_same u t ≡ b → b ≡ false
    by true same = absurd (false≢true (sym absent ∙ rw same refl))
    by false other = refl

length-placed : (t : Table) (s : List Table) → has s t ≡ false → length (placed t s) ≡ length s + 1
length-placed t [] absent = refl
length-placed t (u ∷ s) absent =
    let other = first_other u t s absent in
    placed_by (is_before u t) (is_same u t) t u s refl other (length-placed t s (rw other at absent))

or_back : (a b : Bool) → (a || b) ≡ (b || a)
or_back true true = refl
or_back true false = refl
or_back false true = refl
or_back false false = refl

-- adding a table makes the list of members and the rising list of members grow alike
grow_alike : (ds s : List Table) (t : Table) → ((u : Table) → has ds u ≡ has s u) → length ds ≡ length s → IsRising s → length (with_table ds t) ≡ length (placed t s)
grow_alike ds s t members long up = by (has ds t) refl
  where
    by : (b : Bool) → has ds t ≡ b → length (if b then ds else ds ++ t ∷ []) ≡ length (placed t s)
    by true member = long ∙ sym (ap length (placed_there s t up (sym (members t) ∙ member)))
    by false absent = length-append ds (t ∷ []) ∙ (omega (arith, long, length-placed t s (sym (members t) ∙ absent)))

together : (ds s ts : List Table) → ((u : Table) → has ds u ≡ has s u) → length ds ≡ length s → IsRising s → length (fold with_table ds ts) ≡ length (fold (λ sorted t. placed t sorted) s ts)
together ds s [] members long up = long
together ds s (t ∷ ts) members long up = together (with_table ds t) (placed t s) ts
    (λ u. has_with_table ds t u ∙ or_back (has ds u) (is_same t u) ∙ ap (λ b. is_same t u || b) (members u) ∙ sym (has_placed s t u))
    (grow_alike ds s t members long up) (rising_placed t s up)

length-increasing : (f : List Table) → IsDistinct f → length (increasing f) ≡ length f
length-increasing f once = sym (together [] [] f (λ u. refl) refl tt) ∙ ap length once

numbers_of_pairs : (f s : List Table) → map (λ (e : Table × ℕ). e.1) (map (λ t. (t, place f t)) s) ≡ map (place f) s
numbers_of_pairs f [] = refl
numbers_of_pairs f (t ∷ s) = ap (λ l. place f t ∷ l) (numbers_of_pairs f s)

pub length-ordered : (f : List Table) → IsDistinct f → length (ordered f) ≡ length f
length-ordered f once = length-map (increasing f) (λ t. (t, place f t)) ∙ length-increasing f once

-- ---- tables in rising order have different places
module _ (f : List Table) where
  first_apart : (t : Table) (s : List Table) (j : ℕ) → has f t ≡ true → AllAfter t s → AreIn f s → j < length s → place f t ≡ slice_index (map (place f) s) j → ⊥
  first_apart t [] j member after all lt e = absurd (omega (arith, lt))
  first_apart t (u ∷ s) zero member after all lt e = absurd (false≢true (sym (before_not_same t u after.0) ∙ place_injective f t u member all.0 e))
  first_apart t (u ∷ s) (suc j) member after all lt e = first_apart t s j member after.1 all.1 (omega arith) e

  places_apart : (s : List Table) (i j : ℕ) → IsRising s → AreIn f s → i < j → j < length s → slice_index (map (place f) s) i ≡ slice_index (map (place f) s) j → ⊥
  places_apart [] i j up all lt in_range e = absurd (omega (arith, in_range))
  places_apart (t ∷ s) i zero up all lt in_range e = absurd (omega (arith, lt))
  places_apart (t ∷ s) zero (suc j) up all lt in_range e = first_apart t s j all.0 up.0 all.1 (omega arith) e
  places_apart (t ∷ s) (suc i) (suc j) up all lt in_range e = places_apart s i j up.1 all.1 (omega arith) (omega arith) e

  pub can_rank : (ts : List Table) → IsDistinct f → AreIn f ts → CanRank (ordered f) (map (place f) ts)
  can_rank ts once all =
      let long : length (ordered f) ≡ length f = length-ordered f once in
      let short : length (increasing f) ≡ length f = length-increasing f once in
      let low : AllByRecursion (λ n. n < length f) (map (place f) (increasing f)) = places_below f (increasing f) (all_in_order f) in
      record {
        below = λ i lt. rw (numbers_of_pairs f (increasing f), long) (All-from_recursion (λ n. n < length f) (map (place f) (increasing f)) low i 0 (omega (arith, lt, long, short, length-map (increasing f) (place f))));
        once = λ i j lt in_range e. places_apart (increasing f) i j (rising_increasing f) (all_in_order f) lt (omega (arith, in_range, long, short)) (rw (numbers_of_pairs f (increasing f)) at e);
        known = rw long (All-from_recursion (λ n. n < length f) (map (place f) ts) (places_below f ts all));
      }

  pub can_rank_known : (entries : List (Table × ℕ)) (numbers : List ℕ) → IsDistinct f → entries ≡ ordered f → All (λ (n : ℕ). n < length entries) numbers → CanRank entries numbers
  can_rank_known entries numbers once is known =
      let none = can_rank [] once tt in
      record { below = rw is none.below; once = rw is none.once; known = known }

-- ---- the entry that has a number
module _ (f : List Table) (t : Table) (n : ℕ) (once : IsDistinct f) (at : IsNumber f t n) where
  here_by : (b : Bool) (u : Table) (s : List Table) → (place f u == n) ≡ b → has f u ≡ true → (has s t ≡ true → find (λ (e : Table × ℕ). e.1 == n) (map (λ v. (v, place f v)) s) ≡ Some (t, n))
      → (if is_same u t then true else has s t) ≡ true
      → cond b (Some (u, place f u)) (find (λ (e : Table × ℕ). e.1 == n) (map (λ v. (v, place f v)) s)) ≡ Some (t, n)
  here_by true u s e member rest there =
      let place_t : place f t ≡ n = place_is f t n once at in
      let place_u : place f u ≡ n = grind (arith, nat_tests) in
      let same : is_same u t ≡ true = place_injective f u t member (has_number f t n at) (place_u ∙ sym place_t) in
      rw (equal_from_same u t same, place_t) refl
  here_by false u s e member rest there = rest (by (is_same u t) refl there)
    where
      by : (b : Bool) → is_same u t ≡ b → (if b then true else has s t) ≡ true → has s t ≡ true
      by true same h = absurd (let p : place f u ≡ n = ap (place f) (equal_from_same u t same) ∙ place_is f t n once at in grind (arith, nat_tests))
      by false other h = h

  found_number : (s : List Table) → AreIn f s → has s t ≡ true → find (λ (e : Table × ℕ). e.1 == n) (map (λ u. (u, place f u)) s) ≡ Some (t, n)
  found_number [] all there = absurd (false≢true there)
  found_number (u ∷ s) all there = here_by (place f u == n) u s refl all.0 (found_number s all.1) there

  pub entry_found : find (λ (e : Table × ℕ). e.1 == n) (ordered f) ≡ Some (t, n)
  entry_found = found_number (increasing f) (all_in_order f) (has_increasing f t ∙ has_number f t n at)

none_numbered : (n : ℕ) (es : List (Table × ℕ)) (m : ℕ) → NumberedBelow es m → m ≤ n → find (λ (e : Table × ℕ). e.1 == n) es ≡ None
none_numbered n [] m low le = refl
none_numbered n (e ∷ es) m low le = let other : (e.1 == n) ≡ false = (let l = low.0 in grind (arith, nat_tests)) in rw other (none_numbered n es m low.1 le)

pub no_entry_found : (f : List Table) (n : ℕ) → length f ≤ n → find (λ (e : Table × ℕ). e.1 == n) (ordered f) ≡ None
no_entry_found f n past = none_numbered n (ordered f) (length f) (pairs_below f (increasing f) (all_in_order f)) past

pub table_within : (f : List Table) (n : ℕ) → n < length f → (t : Table) × IsNumber f t n
table_within [] n lt = absurd (omega (arith, lt))
table_within (u ∷ f) zero lt = (u, refl)
table_within (u ∷ f) (suc n) lt = table_within f n (omega (arith, lt))

-- what a search for a number finds
pub number_from_entry : (f : List Table) (n : ℕ) (x : Table × ℕ) → IsDistinct f → Some x ≡ find (λ (e : Table × ℕ). e.1 == n) (ordered f) → IsNumber f x.0 n
number_from_entry f n x once found = by (cases_lt n (length f))
  where
    by : (n < length f) ⊎ (length f ≤ n) → IsNumber f x.0 n
    by (inl within) =
        let at = table_within f n within in
        let same : x ≡ (at.0, n) = same_Some x (at.0, n) (found ∙ entry_found f at.0 n once at.1) in
        subst (λ (y : Table × ℕ). IsNumber f y.0 n) (sym same) at.1
    by (inr past) = absurd (let e = found ∙ no_entry_found f n past in cc)

pub past_from_entry : (f : List Table) (n : ℕ) → IsDistinct f → None ≡ find (λ (e : Table × ℕ). e.1 == n) (ordered f) → length f ≤ n
past_from_entry f n once none = by (cases_lt n (length f))
  where
    by : (n < length f) ⊎ (length f ≤ n) → length f ≤ n
    by (inl within) = let at = table_within f n within in absurd (let e = none ∙ entry_found f at.0 n once at.1 in cc)
    by (inr past) = past
