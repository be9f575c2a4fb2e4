-- The tables in the order of their numbers, read off at the places of their entries.
use Rattle.std.proofs.Common.{◌≡◌, ℕ, zero, suc, ◌<◌, ◌≤◌, ◌==◌, List, [], ◌∷◌, ◌++◌, length, map, get_or, take, refl, sym, ◌∙◌, ap, subst, arith, Bool, true, false, if◌then◌else◌, add-one}
use mathlib.Core.Bool.{false≢true}
use Rattle.std.specs.List.{range_with_len, All, slice_index}
use Rattle.std.specs.Fmt.{decimal}
use Rattle.std.proofs.lemmas.Bool.Decides.{nat_tests}
use Rattle.std.proofs.lemmas.List.{map-append, length-map, take_more, take_all}
use Rattle.std.proofs.lemmas.List.FromFn.{length-range_with_len, get_or-range_with_len, length-map-range_with_len, get_or-map-range_with_len, map-range_with_len_more}
use Rattle.std.proofs.lemmas.Option.{slice_get-get_or}
use Rattle.stabby_tables.specs.Tables.{Table, is_same}
use Rattle.stabby_tables.specs.Lists.{has, place, increasing, ordered, entry_place, IsDistinct}
use Rattle.stabby_tables.specs.Reports.{spelled}
use Rattle.stabby_tables.proofs.Growing.{equal_from_same, has_increasing}
use Rattle.stabby_tables.proofs.Distinctness.{place_is}
use Rattle.stabby_tables.proofs.Ranks.{place_injective}
use Rattle.stabby_registry.specs.Catalog.{table_at, tables_below, listed}
use Rattle.stabby_registry.specs.Interned.{CanRank}
use Rattle.stabby_registry.proofs.Versions.{has_number}
use Rattle.stabby_registry.specs.Work.{AreIn}
use Rattle.stabby_registry.proofs.Listing.{all_in_order, length-listed}
use Rattle.stabby_registry.proofs.Numbering.{length-ordered}
use Rattle.stabby_intern.specs.Printing.{table_in}

abbrev Entry : Type 0
Entry = Table × ℕ

-- the table at the place of a number's entry is the one with the number
table_in_place : (es : List Entry) (n : ℕ) → table_in es (entry_place es n) ≡ table_at es n
table_in_place [] n = refl
table_in_place (e ∷ es) n = by (e.1 == n) (table_in_place es n)
  where
    by : (b : Bool) → table_in es (entry_place es n) ≡ table_at es n → table_in (e ∷ es) (if b then 0 else suc (entry_place es n)) ≡ (if b then e.0 else table_at es n)
    by true rest = refl
    by false rest = rest

at_places : (es : List Entry) (ns : List ℕ) → map (λ p. spelled (table_in es p)) (map (entry_place es) ns) ≡ map (λ n. spelled (table_at es n)) ns
at_places es [] = refl
at_places es (n ∷ ns) = rw (table_in_place es n, at_places es ns) refl

below : (es : List Entry) (k : ℕ) → map (λ n. spelled (table_at es n)) (range_with_len 0 k) ≡ map spelled (tables_below es k)
below es zero = refl
below es (suc k) =
    ap (λ i. map (λ n. spelled (table_at es n)) (range_with_len 0 i)) (sym (add-one k))
    ∙ map-range_with_len_more (λ n. spelled (table_at es n)) 0 k k (omega arith)
    ∙ ap (λ l. l ++ spelled (table_at es k) ∷ []) (below es k)
    ∙ sym (map-append spelled (tables_below es k) (table_at es k ∷ []))

-- all numbers in order give the tables in the order of their numbers
pub listed_at_places : (es : List Entry) (count : ℕ) (places : List ℕ) → count ≡ length es → places ≡ map (entry_place es) (range_with_len 0 count) → map (λ p. spelled (table_in es p)) places ≡ map spelled (listed es)
listed_at_places es count places counted is = rw (is, counted) (at_places es (range_with_len 0 (length es)) ∙ below es (length es))

-- the numbers below the count of the entries can be ranked where others can
pub can_rank_all : (es : List Entry) (numbers : List ℕ) (count : ℕ) → count ≡ length es → CanRank es numbers → CanRank es (range_with_len 0 count)
can_rank_all es numbers count counted can = record {
  below = can.below;
  once = can.once;
  known = λ k d lt.
      let low : k < count = omega (arith, lt, length-range_with_len 0 count) in
      rw (get_or-range_with_len 0 count k d low) (omega (arith, low, counted));
}

-- the places that all numbers in order have, read by other numbers
pub ranks_at_places : (es : List Entry) (numbers places : List ℕ) → places ≡ map (entry_place es) (range_with_len 0 (length es)) → All (λ n. n < length es) numbers
    → map (λ n. decimal (slice_index places n)) numbers ≡ map decimal (map (entry_place es) numbers)
ranks_at_places es [] places is known = refl
ranks_at_places es (n ∷ ns) places is known =
    let low : n < length es = known 0 n (omega arith) in
    let here : slice_index places n ≡ entry_place es n = rw is (get_or-map-range_with_len (entry_place es) 0 (length es) n n 0 low (omega arith)) in
    rw (here, ranks_at_places es ns places is (λ k d lt. known (suc k) d (omega (arith, lt)))) refl

-- ---- the entries of a list of distinct tables
pair_place_by : (b c : Bool) (f s : List Table) (t u : Table) (n : ℕ) → (place f u == n) ≡ b → is_same u t ≡ c → place f t ≡ n → (has s t ≡ true → entry_place (map (λ v. (v, place f v)) s) n < length s)
    → (if c then true else has s t) ≡ true → (if b then 0 else suc (entry_place (map (λ v. (v, place f v)) s) n)) < suc (length s)
pair_place_by true c f s t u n found same at rest member = omega arith
pair_place_by false true f s t u n other same at rest member = absurd (let e : place f u ≡ n = ap (place f) (equal_from_same u t same) ∙ at in grind (arith, nat_tests))
pair_place_by false false f s t u n other apart at rest member = let lt = rest member in omega (arith, lt)

-- the number of a member has an entry
pair_place : (f s : List Table) (t : Table) (n : ℕ) → place f t ≡ n → has s t ≡ true → entry_place (map (λ v. (v, place f v)) s) n < length s
pair_place f [] t n at member = absurd (false≢true member)
pair_place f (u ∷ s) t n at member = pair_place_by (place f u == n) (is_same u t) f s t u n refl refl at (pair_place f s t n at) member

table_at_by : (b c : Bool) (f s : List Table) (t u : Table) (n : ℕ) → (place f u == n) ≡ b → is_same u t ≡ c → place f t ≡ n → has f t ≡ true → has f u ≡ true → (has s t ≡ true → table_at (map (λ v. (v, place f v)) s) n ≡ t)
    → (if c then true else has s t) ≡ true → (if b then u else table_at (map (λ v. (v, place f v)) s) n) ≡ t
table_at_by true c f s t u n found same at mt mu rest member = equal_from_same u t (place_injective f u t mu mt (let e : place f u ≡ n = grind (arith, nat_tests) in e ∙ sym at))
table_at_by false true f s t u n other same at mt mu rest member = absurd (let e : place f u ≡ n = ap (place f) (equal_from_same u t same) ∙ at in grind (arith, nat_tests))
table_at_by false false f s t u n other apart at mt mu rest member = rest member

-- and that entry has the member
table_at_pairs : (f s : List Table) (t : Table) (n : ℕ) → place f t ≡ n → has f t ≡ true → AreIn f s → has s t ≡ true → table_at (map (λ v. (v, place f v)) s) n ≡ t
table_at_pairs f [] t n at mt all member = absurd (false≢true member)
table_at_pairs f (u ∷ s) t n at mt all member = table_at_by (place f u == n) (is_same u t) f s t u n refl refl at mt all.0 (table_at_pairs f s t n at mt all.1) member

module _ (f : List Table) (once : IsDistinct f) where
  -- the table with the number n
  abbrev nth : ℕ → Table
  nth n = get_or f n []

  nth_place : (n : ℕ) → n < length f → place f (nth n) ≡ n
  nth_place n lt = place_is f (get_or f n []) n once (slice_get-get_or f n [] lt)

  nth_member : (n : ℕ) → n < length f → has f (nth n) ≡ true
  nth_member n lt = has_number f (get_or f n []) n (slice_get-get_or f n [] lt)

  nth_in_order : (n : ℕ) → n < length f → has (increasing f) (nth n) ≡ true
  nth_in_order n lt = has_increasing f (nth n) ∙ nth_member n lt

  pub entry_below : (n : ℕ) → n < length f → entry_place (ordered f) n < length f
  entry_below n lt =
      let low = pair_place f (increasing f) (nth n) n (nth_place n lt) (nth_in_order n lt) in
      let short : length (ordered f) ≡ length (increasing f) = length-map (increasing f) (λ t. (t, place f t)) in
      let long : length (ordered f) ≡ length f = length-ordered f once in
      omega (arith, low, short, long)

  tables_below_are : (k : ℕ) → k ≤ length f → tables_below (ordered f) k ≡ take k f
  tables_below_are zero le = refl
  tables_below_are (suc k) le =
      let lt : k < length f = omega (arith, le) in
      let at : table_at (ordered f) k ≡ nth k = table_at_pairs f (increasing f) (nth k) k (nth_place k lt) (nth_member k lt) (all_in_order f) (nth_in_order k lt) in
      rw (tables_below_are k (omega (arith, le)), at) (sym (take_more f k [] lt) ∙ ap (λ i. take i f) (add-one k))

  -- the tables in the order of their numbers are the list
  pub listed-ordered : listed (ordered f) ≡ f
  listed-ordered = ap (tables_below (ordered f)) (length-ordered f once) ∙ tables_below_are (length f) (omega arith) ∙ take_all (length f) f (omega arith)

-- the places of all numbers are those of entries
pub places_within : (es : List Entry) (count : ℕ) (places : List ℕ) → count ≡ length es → ordered (listed es) ≡ es → IsDistinct (listed es) → places ≡ map (entry_place es) (range_with_len 0 count) → All (λ p. p < length es) places
places_within es count places counted in_order once is = rw is (λ k d lt.
    let low : k < count = omega (arith, lt, length-map-range_with_len (entry_place es) 0 count) in
    rw (get_or-map-range_with_len (entry_place es) 0 count k k d low (omega arith)) (within k (omega (arith, low, counted, length-listed es))))
  where
    within : (n : ℕ) → n < length (listed es) → entry_place es n < length es
    within n lt = subst (λ l. entry_place l n < length es) in_order (subst (λ m. entry_place (ordered (listed es)) n < m) (length-listed es) (entry_below (listed es) once n lt))
