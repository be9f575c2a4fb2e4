-- The place of a table's entry is its rank.
use Rattle.std.proofs.Common.{◌≡◌, ℕ, zero, suc, ◌+◌, ◌<◌, ◌≤◌, ◌==◌, List, [], ◌∷◌, ◌++◌, length, map, refl, sym, ◌∙◌, ap, subst, arith, Bool, true, false, ◌||◌, if◌then◌else◌}
use mathlib.Core.Bool.{false≢true}
use Rattle.std.proofs.lemmas.Bool.Decides.{nat_tests}
use Rattle.stabby_tables.specs.Tables.{Table, is_before, is_same}
use Rattle.stabby_tables.specs.Lists.{has, distinct, place, increasing, ordered, rank, entry_place, HoldsEachOnce, AppendsAbsent}
use Rattle.stabby_tables.proofs.Growing.{same_itself, equal_from_same, has_increasing}
use Rattle.stabby_tables.proofs.Sorted.{rising_increasing, increasing_unique, place_is_rank, rank_distinct}

apart_by : (a b : Bool) (v u t : Table) (f : List Table) → is_same v u ≡ a → is_same v t ≡ b → (has f u ≡ true → has f t ≡ true → place f u ≡ place f t → is_same u t ≡ true)
    → (if a then true else has f u) ≡ true → (if b then true else has f t) ≡ true → (if a then 0 else suc (place f u)) ≡ (if b then 0 else suc (place f t)) → is_same u t ≡ true
apart_by true true v u t f p q rest mu mt e = subst (λ w. is_same w t ≡ true) (equal_from_same v u p) q
apart_by true false v u t f p q rest mu mt e = absurd (omega (arith, e))
apart_by false true v u t f p q rest mu mt e = absurd (omega (arith, e))
apart_by false false v u t f p q rest mu mt e = rest mu mt (omega (arith, e))

-- members with one place are the same
pub place_injective : (f : List Table) (u t : Table) → has f u ≡ true → has f t ≡ true → place f u ≡ place f t → is_same u t ≡ true
place_injective [] u t mu mt e = absurd (false≢true mu)
place_injective (v ∷ f) u t mu mt e = apart_by (is_same v u) (is_same v t) v u t f refl refl (place_injective f u t) mu mt e

places_test : (b : Bool) (f : List Table) (u t : Table) → is_same u t ≡ b → has f u ≡ true → has f t ≡ true → (place f u == place f t) ≡ b
places_test true f u t same mu mt = let e : place f u ≡ place f t = ap (place f) (equal_from_same u t same) in grind (arith, nat_tests)
places_test false f u t other mu mt = test_by (place f u == place f t) refl
  where
    test_by : (b : Bool) → (place f u == place f t) ≡ b → b ≡ false
    test_by true e = absurd (false≢true (sym other ∙ place_injective f u t mu mt (grind (arith, nat_tests))))
    test_by false e = refl

entry_place_pairs : (f s : List Table) (t : Table) → ((u : Table) → has s u ≡ true → has f u ≡ true) → has f t ≡ true → entry_place (map (λ u. (u, place f u)) s) (place f t) ≡ place s t
entry_place_pairs f [] t in_f mt = refl
entry_place_pairs f (u ∷ s) t in_f mt =
    let mu : has f u ≡ true = in_f u (rw (same_itself u) refl) in
    let rest : (w : Table) → has s w ≡ true → has f w ≡ true = λ w m. in_f w (elim (is_same u w) as (λ b. (if b then true else has s w) ≡ true) [ true ↦ refl | false ↦ m ]) in
    rw (places_test (is_same u t) f u t refl mu mt, entry_place_pairs f s t rest mt) refl

-- the report's number for a table
pub rank_by_entries : (ts f : List Table) (t : Table) → HoldsEachOnce ts f → has ts t ≡ true → entry_place (ordered f) (place f t) ≡ rank (distinct ts) t
rank_by_entries ts f t holds member =
    let in_f : has f t ≡ true = holds.members t ∙ member in
    let in_order : has (increasing f) t ≡ true = has_increasing f t ∙ in_f in
    entry_place_pairs f (increasing f) t (λ u m. sym (has_increasing f u) ∙ m) in_f
    ∙ place_is_rank (increasing f) t (rising_increasing f) in_order
    ∙ ap (λ l. rank l t) (increasing_unique f ts holds.members)
    ∙ sym (rank_distinct ts t)

-- functions that agree on the members agree on the list
map_on_members : (F G : Table → ℕ) (ts : List Table) → ((t : Table) → has ts t ≡ true → F t ≡ G t) → map F ts ≡ map G ts
map_on_members F G [] same = refl
map_on_members F G (t ∷ ts) same =
    let rest : (u : Table) → has ts u ≡ true → F u ≡ G u = λ u m. same u (elim (is_same t u) as (λ b. (if b then true else has ts u) ≡ true) [ true ↦ refl | false ↦ m ]) in
    ap (λ n. n ∷ map F ts) (same t (rw (same_itself t) refl)) ∙ ap (λ l. G t ∷ l) (map_on_members F G ts rest)

map_first : (f s : List Table) → map (λ (e : Table × ℕ). e.0) (map (λ t. (t, place f t)) s) ≡ s
map_first f [] = refl
map_first f (t ∷ s) = ap (λ l. t ∷ l) (map_first f s)

pub tables_of_ordered : (f : List Table) → map (λ (e : Table × ℕ). e.0) (ordered f) ≡ increasing f
tables_of_ordered f = map_first f (increasing f)

-- a list to which exactly the members of ts were added, from nothing
pub holds_from_appends : (ts f : List Table) → AppendsAbsent [] ts f → HoldsEachOnce ts f
holds_from_appends ts f a = record { once = a.some.once; members = λ t. by t (has f t) (has ts t) refl refl }
  where
    by : (t : Table) (x y : Bool) → has f t ≡ x → has ts t ≡ y → x ≡ y
    by t true true p q = refl
    by t true false p q = absurd (false≢true (sym q ∙ a.some.from t (subst (λ l. has l t ≡ true) a.some.appended p)))
    by t false true p q = absurd (false≢true (sym p ∙ a.every t q))
    by t false false p q = refl

pub same_ranks : (ts f g : List Table) → AppendsAbsent [] ts f → AppendsAbsent [] ts g → map (λ t. entry_place (ordered f) (place f t)) ts ≡ map (λ t. entry_place (ordered g) (place g t)) ts
same_ranks ts f g a b = map_on_members (λ t. entry_place (ordered f) (place f t)) (λ t. entry_place (ordered g) (place g t)) ts
    (λ t m. rank_by_entries ts f t (holds_from_appends ts f a) m ∙ sym (rank_by_entries ts g t (holds_from_appends ts g b) m))

pub same_tables : (ts f g : List Table) → AppendsAbsent [] ts f → AppendsAbsent [] ts g → map (λ (e : Table × ℕ). e.0) (ordered f) ≡ map (λ e. e.0) (ordered g)
same_tables ts f g a b = tables_of_ordered f ∙ increasing_unique f g (λ t. (holds_from_appends ts f a).members t ∙ sym ((holds_from_appends ts g b).members t)) ∙ sym (tables_of_ordered g)
