-- The counts of interned tables are those of the generated ones.
use Rattle.std.proofs.Common.{◌≡◌, ℕ, suc, ◌+◌, ◌*◌, ◌^◌, ◌<◌, ◌≤◌, ◌==◌, List, [], ◌∷◌, ◌++◌, length, length-append, append-nil, append_assoc, codes, map, sum, refl, sym, ◌∙◌, ap, subst, arith, Bool, true, false, if◌then◌else◌}
use mathlib.Core.Bool.{false≢true}
use Rattle.std.specs.List.{range_with_len, fold}
use Rattle.std.proofs.lemmas.List.{length-map}
use Rattle.std.proofs.lemmas.List.Sums.{sum_by-cons}
use Rattle.std.proofs.lemmas.Nat.{mul-le}
use Rattle.std.proofs.Math.Nat.{suc-mul}
use Rattle.std.proofs.lemmas.List.FromFn.{length-range_with_len}
use Rattle.std.specs.Fmt.{decimal}
use Rattle.stabby_tables.specs.Lines.{ended}
use Rattle.stabby_tables.specs.Tables.{Table}
use Rattle.stabby_tables.specs.Lists.{has, with_table, distinct, place, increasing, ordered, entry_place, IsDistinct, HoldsEachOnce, AppendsAbsent, AppendsSome}
use Rattle.stabby_tables.specs.Shares.{IsFirstInShare}
use Rattle.stabby_tables.proofs.Growing.{has_distinct, distinct_more}
use Rattle.stabby_tables.proofs.Sorted.{increasing_unique}
use Rattle.stabby_registry.specs.Interned.{InternedValue}
use Rattle.stabby_registry.proofs.Numbering.{length-ordered}
use Rattle.stabby_intern.specs.Generated.{generated, generated_tables, count_lines, generated_report}
use Rattle.stabby_intern.specs.Printing.{counts_of}
use Rattle.stabby_intern.specs.Runs.{CountsReported}
use Rattle.stabby_intern.proofs.Reporting.{holds_from_empty, ranks_part}

-- ---- the distinct members of a list
distinct_by : (b : Bool) (ds : List Table) (t : Table) → has ds t ≡ b → IsDistinct ds → IsDistinct (if b then ds else ds ++ t ∷ [])
distinct_by true ds t is once = once
distinct_by false ds t is once = distinct_more ds t once is

fold_distinct : (ds ts : List Table) → IsDistinct ds → IsDistinct (fold with_table ds ts)
fold_distinct ds [] once = once
fold_distinct ds (t ∷ ts) once = fold_distinct (with_table ds t) ts (distinct_by (has ds t) ds t refl once)

distinct_once : (ts : List Table) → IsDistinct (distinct ts)
distinct_once ts = fold_distinct [] ts refl

one_more_by : (b : Bool) (ds : List Table) (t : Table) → length (if b then ds else ds ++ t ∷ []) ≤ length ds + 1
one_more_by true ds t = omega arith
one_more_by false ds t = omega (arith, length-append ds (t ∷ []))

fold_few : (ds ts : List Table) → length (fold with_table ds ts) ≤ length ds + length ts
fold_few ds [] = omega arith
fold_few ds (t ∷ ts) = omega (arith, fold_few (with_table ds t) ts, one_more_by (has ds t) ds t)

-- ---- the list of a registry that holds the tables
pub length_held : (ts f : List Table) → HoldsEachOnce ts f → length f ≡ length (distinct ts)
length_held ts f holds =
    let members : (t : Table) → has f t ≡ has (distinct ts) t = λ t. holds.members t ∙ sym (has_distinct ts t) in
    let same : increasing f ≡ increasing (distinct ts) = increasing_unique f (distinct ts) members in
    let front : length (ordered f) ≡ length (increasing f) = length-map (increasing f) (λ t. (t, place f t)) in
    let back : length (ordered (distinct ts)) ≡ length (increasing (distinct ts)) = length-map (increasing (distinct ts)) (λ t. (t, place (distinct ts) t)) in
    omega (arith, ap length same, front, back, length-ordered f holds.once, length-ordered (distinct ts) (distinct_once ts))

pub few_held : (ts f : List Table) → HoldsEachOnce ts f → length f ≤ length ts
few_held ts f holds = omega (arith, length_held ts f holds, fold_few [] ts)

-- ---- ranks
place_low_by : (b : Bool) (n m : ℕ) → n ≤ m → (if b then 0 else suc n) ≤ suc m
place_low_by true n m le = omega arith
place_low_by false n m le = omega (arith, le)

place_low : (es : List (Table × ℕ)) (n : ℕ) → entry_place es n ≤ length es
place_low [] n = omega arith
place_low (e ∷ es) n = place_low_by (e.1 == n) (entry_place es n) (length es) (place_low es n)

-- the places of so many numbers add up to no more than the product
places_sum : (es : List (Table × ℕ)) (ns : List ℕ) → sum (map (entry_place es) ns) ≤ length ns * length es
places_sum es [] = omega arith
places_sum es (n ∷ ns) =
    let more : sum (map (entry_place es) (n ∷ ns)) ≡ entry_place es n + sum (map (entry_place es) ns) = sum_by-cons (λ x. x) (entry_place es n) (map (entry_place es) ns) in
    let product : length (n ∷ ns) * length es ≡ length ns * length es + length es = suc-mul (length ns) (length es) in
    omega (arith, more, product, place_low es n, places_sum es ns)

-- the ranks of so few tables add up to less than 2 ^ 64
pub ranks_fit : (es : List (Table × ℕ)) (ns : List ℕ) → length ns ≤ 1000000 → length es ≤ 1000000 → sum (map (entry_place es) ns) < 2 ^ 64
ranks_fit es ns few_tables few_entries = omega (arith, places_sum es ns, mul-le (length ns) (length es) 1000000 1000000 few_tables few_entries)

-- ---- the report
joined_lines : (a b c : List ℕ) → (ended (a ∷ []) ++ ended (b ∷ [])) ++ ended (c ∷ []) ≡ ended (a ∷ b ∷ c ∷ [])
joined_lines a b c = rw (append-nil (a ++ 10 ∷ []), append-nil (b ++ 10 ∷ [])) (append_assoc (a ++ 10 ∷ []) (b ++ 10 ∷ []) (ended (c ∷ [])))

-- a text that grew by three lines
pub three_lines : (tables distinct_ones ranksum : ℕ) (first second third : List ℕ) → first ≡ ended ((codes "tables " ++ decimal tables) ∷ [])
    → second ≡ first ++ ended ((codes "distinct " ++ decimal distinct_ones) ∷ []) → third ≡ second ++ ended ((codes "ranksum " ++ decimal ranksum) ∷ [])
    → third ≡ count_lines tables distinct_ones ranksum
three_lines tables distinct_ones ranksum first second third p q r =
    rw (r, q, p) (joined_lines (codes "tables " ++ decimal tables) (codes "distinct " ++ decimal distinct_ones) (codes "ranksum " ++ decimal ranksum))

-- ---- generated tables
pub length_generated : (count divisor : ℕ) → length (generated_tables count divisor) ≡ count
length_generated count divisor = length-map (range_with_len 0 count) (generated divisor) ∙ length-range_with_len 0 count

counts_are : (count divisor : ℕ) (f : List Table) (interned : InternedValue) → HoldsEachOnce (generated_tables count divisor) f → interned.numbers ≡ map (place f) (generated_tables count divisor) → interned.entries ≡ ordered f
    → counts_of interned ≡ generated_report count divisor
counts_are count divisor f interned holds numbered in_order =
    let ts = generated_tables count divisor in
    let many : length (map (place f) ts) ≡ count = length-map ts (place f) ∙ length_generated count divisor in
    let distinct_ones : length (ordered f) ≡ length (distinct ts) = length-ordered f holds.once ∙ length_held ts f holds in
    rw (numbered, in_order, many, distinct_ones, ranks_part ts f ts holds (λ u m. m)) refl

pub counts_reported : (count divisor workers : ℕ) (ts old f : List Table) (interned : InternedValue) (report : List ℕ) → ts ≡ generated_tables count divisor → old ≡ [] → AppendsAbsent old ts f
    → interned.numbers ≡ map (place f) ts → interned.entries ≡ ordered f → IsFirstInShare interned.numbers workers (length old)
    → report ≡ counts_of interned → CountsReported count divisor workers f report
counts_reported count divisor workers ts old f interned report made empty appends numbered in_order first is =
    let from_empty : AppendsAbsent [] ts f = subst (λ o. AppendsAbsent o ts f) empty appends in
    let holds : HoldsEachOnce (generated_tables count divisor) f = subst (λ l. HoldsEachOnce l f) made (holds_from_empty ts f from_empty) in
    let numbers : interned.numbers ≡ map (place f) (generated_tables count divisor) = numbered ∙ ap (map (place f)) made in
    record {
      is_report = is ∙ counts_are count divisor f interned holds numbers in_order;
      holds = holds;
      first = subst (λ n. IsFirstInShare n workers 0) numbers (subst (λ o. IsFirstInShare interned.numbers workers (length o)) empty first);
    }

-- there are as many numbers as tables were to be made, and no more entries
pub many_numbers : (count divisor : ℕ) (ts f : List Table) (numbers : List ℕ) → ts ≡ generated_tables count divisor → numbers ≡ map (place f) ts → length numbers ≡ count
many_numbers count divisor ts f numbers made numbered = rw (numbered, made) (length-map (generated_tables count divisor) (place f) ∙ length_generated count divisor)

pub few_entries : (count divisor : ℕ) (ts old f : List Table) (entries : List (Table × ℕ)) → ts ≡ generated_tables count divisor → old ≡ [] → AppendsAbsent old ts f → entries ≡ ordered f → length entries ≤ count
few_entries count divisor ts old f entries made empty appends in_order =
    let holds : HoldsEachOnce ts f = holds_from_empty ts f (subst (λ o. AppendsAbsent o ts f) empty appends) in
    let size : length ts ≡ count = ap length made ∙ length_generated count divisor in
    rw in_order (omega (arith, length-ordered f holds.once, few_held ts f holds, size))

-- what an interning of them that gave up leaves
pub none_added : (ts f : List Table) → f ≡ [] → AppendsSome [] ts f
none_added ts f empty = record { added = []; appended = empty; once = rw empty refl; from = λ t member. absurd (false≢true member) }

pub some_generated : (count divisor : ℕ) (ts old f : List Table) → ts ≡ generated_tables count divisor → old ≡ [] → AppendsSome old ts f → AppendsSome [] (generated_tables count divisor) f
some_generated count divisor ts old f made empty some = subst (λ l. AppendsSome [] l f) made (subst (λ o. AppendsSome o ts f) empty some)
