-- The entries of a catalog and the list of tables that they stand for.
use Rattle.std.proofs.Common.{◌≡◌, ℕ, zero, suc, ◌+◌, ◌<◌, ◌≤◌, List, [], ◌∷◌, ◌++◌, length, map, refl, sym, ◌∙◌, ap, subst, arith, Bool, true, false, ◌==◌, if◌then◌else◌, add-one, length-append, Option, Some, None, min, ◌^◌, ◌-◌}
use mathlib.Core.Bool.{false≢true}
use Rattle.std.specs.List.{AllByRecursion}
use Rattle.std.specs.Cmp.Lexicographic.{slice_cmp}
use Rattle.std.specs.Ordering.{nat_cmp, is_eq, is_lt, match_ordering}
use Rattle.std.specs.declared.cmp.Ordering.{Ordering}
use Rattle.std.specs.declared.cmp.Ordering.TheVariants.{Less, Equal, Greater}
use Rattle.std.proofs.lemmas.Bool.Decides.{nat_tests}
use Rattle.stabby_tables.specs.Tables.{Table, is_before, is_same}
use Rattle.stabby_tables.specs.Lists.{has, place, placed, increasing, ordered}
use Rattle.stabby_tables.proofs.Order.{before_is_less, same_is_equal}
use Rattle.stabby_tables.proofs.Growing.{same_itself, equal_from_same, other_than_member, place_old, place_last, place_below, increasing_push, distinct_more, has_increasing}
use Rattle.stabby_tree.specs.Sets.{found, put, inserted}
use Rattle.stabby_registry.specs.Catalog.{table_at, tables_below, listed, IsCatalog}
use Rattle.stabby_registry.specs.Work.{AreIn}

abbrev pub Entry : Type 0
Entry = Table × ℕ

abbrev pub table_of : Entry → Table
table_of e = e.0

-- no entry has the table, and each number is below n
abbrev pub Lacks : List Entry → Table → Type 0
Lacks es t = AllByRecursion (λ e. is_same e.0 t ≡ false) es

abbrev pub NumberedBelow : List Entry → ℕ → Type 0
NumberedBelow es n = AllByRecursion (λ e. e.1 < n) es

order_of : (u t : Table) (o : Ordering) → slice_cmp nat_cmp u t ≡ o → record { before : is_before u t ≡ is_lt o; same : is_same u t ≡ is_eq o }
order_of u t o e = record { before = sym (before_is_less u t) ∙ ap is_lt e; same = sym (same_is_equal u t) ∙ ap is_eq e }

module _ (t : Table) (n : ℕ) where
  table_at_by : (o : Ordering) (e : Entry) (es : List Entry) (i : ℕ) → slice_cmp nat_cmp e.0 t ≡ o → is_same e.0 t ≡ false → e.1 < n
      → table_at (put table_of (slice_cmp nat_cmp) es (t, n)) i ≡ (if n == i then t else table_at es i)
      → table_at (match_ordering o (e ∷ put table_of (slice_cmp nat_cmp) es (t, n)) ((t, n) ∷ es) ((t, n) ∷ e ∷ es)) i ≡ (if n == i then t else table_at (e ∷ es) i)
  table_at_by Less e es i o other low rest = rw rest (grind (arith, nat_tests))
  table_at_by Equal e es i o other low rest = absurd (false≢true (sym other ∙ (order_of e.0 t Equal o).same))
  table_at_by Greater e es i o other low rest = refl

  -- where each table is after one more
  pub table_at-put : (es : List Entry) (i : ℕ) → Lacks es t → NumberedBelow es n → table_at (put table_of (slice_cmp nat_cmp) es (t, n)) i ≡ (if n == i then t else table_at es i)
  table_at-put [] i lacks low = refl
  table_at-put (e ∷ es) i lacks low = table_at_by (slice_cmp nat_cmp e.0 t) e es i refl lacks.0 low.0 (table_at-put es i lacks.1 low.1)

  length_by : (o : Ordering) (e : Entry) (es : List Entry) → slice_cmp nat_cmp e.0 t ≡ o → is_same e.0 t ≡ false
      → length (put table_of (slice_cmp nat_cmp) es (t, n)) ≡ length es + 1
      → length (match_ordering o (e ∷ put table_of (slice_cmp nat_cmp) es (t, n)) ((t, n) ∷ es) ((t, n) ∷ e ∷ es)) ≡ length (e ∷ es) + 1
  length_by Less e es o other rest = omega (arith, rest)
  length_by Equal e es o other rest = absurd (false≢true (sym other ∙ (order_of e.0 t Equal o).same))
  length_by Greater e es o other rest = omega arith

  pub length-put : (es : List Entry) → Lacks es t → length (put table_of (slice_cmp nat_cmp) es (t, n)) ≡ length es + 1
  length-put [] lacks = refl
  length-put (e ∷ es) lacks = length_by (slice_cmp nat_cmp e.0 t) e es refl lacks.0 (length-put es lacks.1)

  below-put : (es : List Entry) (k : ℕ) → k ≤ n → Lacks es t → NumberedBelow es n → tables_below (put table_of (slice_cmp nat_cmp) es (t, n)) k ≡ tables_below es k
  below-put es zero le lacks low = refl
  below-put es (suc k) le lacks low =
      let other : (n == k) ≡ false = grind (arith, nat_tests) in
      rw (table_at-put es k lacks low, other, below-put es k (omega arith) lacks low) refl

  -- the list that the entries stand for grows by the table
  pub listed-put : (es : List Entry) → n ≡ length es → Lacks es t → NumberedBelow es n → listed (put table_of (slice_cmp nat_cmp) es (t, n)) ≡ listed es ++ t ∷ []
  listed-put es e lacks low =
      let here : (n == n) ≡ true = grind (arith, nat_tests) in
      rw (length-put es lacks, ← e, add-one, table_at-put es n lacks low, here, below-put es n (omega arith) lacks low) refl

length-below : (es : List Entry) (k : ℕ) → length (tables_below es k) ≡ k
length-below es zero = refl
length-below es (suc k) = omega (arith, length-below es k, length-append (tables_below es k) (table_at es k ∷ []))

pub length-listed : (es : List Entry) → length (listed es) ≡ length es
length-listed es = length-below es (length es)

-- ---- the ordered pairs of a list
module _ (f : List Table) where
  abbrev pub pairs : List Table → List Entry
  pairs s = map (λ u. (u, place f u)) s

  pub pairs_lack : (s : List Table) (t : Table) → AreIn f s → has f t ≡ false → Lacks (pairs s) t
  pairs_lack [] t all absent = tt
  pairs_lack (u ∷ s) t all absent = (other_than_member f u t all.0 absent, pairs_lack s t all.1 absent)

  pub pairs_below : (s : List Table) → AreIn f s → NumberedBelow (pairs s) (length f)
  pairs_below [] all = tt
  pairs_below (u ∷ s) all = (place_below f u all.0, pairs_below s all.1)

  -- what is found among the pairs
  pub found_pair : (s : List Table) (t : Table) → found table_of (slice_cmp nat_cmp) (pairs s) t ≡ (if has s t then Some (t, place f t) else None)
  found_pair [] t = refl
  found_pair (u ∷ s) t = rw (same_is_equal u t) (by (is_same u t) refl (found_pair s t))
    where
      by : (b : Bool) → is_same u t ≡ b → found table_of (slice_cmp nat_cmp) (pairs s) t ≡ (if has s t then Some (t, place f t) else None) → (if b then Some (u, place f u) else found table_of (slice_cmp nat_cmp) (pairs s) t) ≡ (if (if b then true else has s t) then Some (t, place f t) else None)
      by true same rest = ap (λ v. Some (v, place f v)) (equal_from_same u t same)
      by false other rest = rest

  module _ (t : Table) (absent : has f t ≡ false) where
    pairs_same : (s : List Table) → AreIn f s → map (λ u. (u, place (f ++ t ∷ []) u)) s ≡ pairs s
    pairs_same [] all = refl
    pairs_same (u ∷ s) all = rw (place_old f (t ∷ []) u all.0, pairs_same s all.1) refl

    push_by : (o : Ordering) (u : Table) (s : List Table) → slice_cmp nat_cmp u t ≡ o → has f u ≡ true → AreIn f s
        → map (λ u. (u, place (f ++ t ∷ []) u)) (placed t s) ≡ put table_of (slice_cmp nat_cmp) (pairs s) (t, length f)
        → map (λ u. (u, place (f ++ t ∷ []) u)) (if is_before u t then u ∷ placed t s else (if is_same u t then u ∷ s else t ∷ u ∷ s))
        ≡ match_ordering o ((u, place f u) ∷ put table_of (slice_cmp nat_cmp) (pairs s) (t, length f)) ((t, length f) ∷ pairs s) ((t, length f) ∷ (u, place f u) ∷ pairs s)
    push_by Less u s e member all rest = rw ((order_of u t Less e).before, place_old f (t ∷ []) u member, rest) refl
    push_by Equal u s e member all rest = absurd (false≢true (sym (other_than_member f u t member absent) ∙ (order_of u t Equal e).same))
    push_by Greater u s e member all rest = rw ((order_of u t Greater e).before, (order_of u t Greater e).same, place_last f t absent, place_old f (t ∷ []) u member, pairs_same s all) refl

    pub pairs_push : (s : List Table) → AreIn f s → map (λ u. (u, place (f ++ t ∷ []) u)) (placed t s) ≡ put table_of (slice_cmp nat_cmp) (pairs s) (t, length f)
    pairs_push [] all = rw (place_last f t absent) refl
    pairs_push (u ∷ s) all = push_by (slice_cmp nat_cmp u t) u s refl all.0 all.1 (pairs_push s all.1)

pub all_in_from : (f s : List Table) → ((u : Table) → has s u ≡ true → has f u ≡ true) → AreIn f s
all_in_from f [] h = tt
all_in_from f (u ∷ s) h = (h u (rw (same_itself u) refl), all_in_from f s (λ v member. h v (elim (is_same u v) as (λ b. (if b then true else has s v) ≡ true) [ true ↦ refl | false ↦ member ])))

pub all_in_order : (f : List Table) → AreIn f (increasing f)
all_in_order f = all_in_from f (increasing f) (λ u member. sym (has_increasing f u) ∙ member)

-- the ordered pairs of a list with one table more
pub ordered_push : (f : List Table) (t : Table) → has f t ≡ false → ordered (f ++ t ∷ []) ≡ put table_of (slice_cmp nat_cmp) (ordered f) (t, length f)
ordered_push f t absent = rw (increasing_push f t) (pairs_push f t absent (increasing f) (all_in_order f))

-- a catalog's entries after an absent table is put in
module _ (es : List Entry) (is : IsCatalog es) (t : Table) where
  pub catalog_found : found table_of (slice_cmp nat_cmp) es t ≡ (if has (listed es) t then Some (t, place (listed es) t) else None)
  catalog_found = ap (λ l. found table_of (slice_cmp nat_cmp) l t) (sym is.ordered_pairs) ∙ found_pair (listed es) (increasing (listed es)) t ∙ ap (λ b. if b then Some (t, place (listed es) t) else None) (has_increasing (listed es) t)

  module _ (absent : has (listed es) t ≡ false) where
    lacks : Lacks es t
    lacks = subst (λ l. Lacks l t) is.ordered_pairs (pairs_lack (listed es) (increasing (listed es)) t (all_in_order (listed es)) absent)

    low : NumberedBelow es (length es)
    low = subst (λ l. NumberedBelow l (length es)) is.ordered_pairs (subst (λ n. NumberedBelow (ordered (listed es)) n) (length-listed es) (pairs_below (listed es) (increasing (listed es)) (all_in_order (listed es))))

    pub catalog_listed : listed (put table_of (slice_cmp nat_cmp) es (t, length es)) ≡ listed es ++ t ∷ []
    catalog_listed = listed-put t (length es) es refl lacks low

    pub catalog_grown : length es < 2 ^ 63 - 1 → IsCatalog (put table_of (slice_cmp nat_cmp) es (t, length es))
    catalog_grown room = record {
      ordered_pairs = rw catalog_listed (ordered_push (listed es) t absent ∙ rw (length-listed es, is.ordered_pairs) refl);
      distinct_tables = rw catalog_listed (distinct_more (listed es) t is.distinct_tables absent);
      countable = omega (arith, room, length-put t (length es) es lacks);
    }

-- what the found entry says of the number
pub number_from_found : (b : Bool) (e : Entry) (t : Table) (p : ℕ) → Some e ≡ (if b then Some (t, p) else None) → Some e.1 ≡ (if b then Some p else None)
number_from_found true e t p h = let same : e ≡ (t, p) = cc in ap (λ (x : Entry). Some x.1) same
number_from_found false e t p h = absurd (cc)

pub none_from_found : (b : Bool) (t : Table) (p : ℕ) (o : Option Entry) → o ≡ None → o ≡ (if b then Some (t, p) else None) → (if b then Some p else None) ≡ None
none_from_found true t p o none h = absurd (cc)
none_from_found false t p o none h = refl

-- an absent table is put in
inserted_absent : (es : List Entry) → IsCatalog es → (t : Table) (n : ℕ) → has (listed es) t ≡ false → inserted table_of (slice_cmp nat_cmp) false es (t, n) ≡ put table_of (slice_cmp nat_cmp) es (t, n)
inserted_absent es is t n absent =
    let none : found table_of (slice_cmp nat_cmp) es t ≡ None = catalog_found es is t ∙ rw absent refl in
    rw none refl

-- a catalog's entries after the code has put an absent table in
pub catalog_after : (es new : List Entry) (t : Table) (n : ℕ) (x : Entry) → IsCatalog es → x ≡ (t, n) → n ≡ min (length es) (2 ^ 64 - 1) → length (listed es) < 2 ^ 63 - 1 → has (listed es) t ≡ false
    → new ≡ inserted table_of (slice_cmp nat_cmp) false es x → record { catalog : IsCatalog new; list : listed new ≡ listed es ++ t ∷ [] }
catalog_after es new t n x is pair number room absent set =
    let n_is : n ≡ length es = omega (arith, length-listed es) in
    let new_is : new ≡ put table_of (slice_cmp nat_cmp) es (t, length es) =
    set ∙ ap (inserted table_of (slice_cmp nat_cmp) false es) (pair ∙ ap (λ (k : ℕ). (t, k)) n_is) ∙ inserted_absent es is t (length es) absent in
    record { catalog = rw new_is (catalog_grown es is t absent (omega (arith, room, length-listed es))); list = rw new_is (catalog_listed es is t absent) }
