-- How lists of tables grow by one table at the end.
use Rattle.std.proofs.Common.{◌≡◌, ℕ, zero, suc, ◌+◌, ◌<◌, ◌≤◌, List, [], ◌∷◌, ◌++◌, length, map, refl, sym, ◌∙◌, ap, subst, arith, Bool, true, false, ◌||◌, ◌==◌, if◌then◌else◌, add-one, length-append, eqb}
use mathlib.Core.Bool.{false≢true}
use Rattle.std.specs.List.{fold}
use Rattle.std.proofs.lemmas.Bool.Decides.{nat_tests}
use Rattle.std.proofs.lemmas.Grind.{fold-append}
use Rattle.stabby_tables.specs.Tables.{Table, is_before, is_same}
use Rattle.stabby_tables.specs.Lists.{has, with_table, distinct, place, placed, increasing, ordered, IsDistinct}

-- `is_same` decides equality
pub same_itself : (t : Table) → is_same t t ≡ true
same_itself [] = refl
same_itself (x ∷ t) = grind (arith, nat_tests, same_itself t)

pub equal_from_same : (a b : Table) → is_same a b ≡ true → a ≡ b
equal_from_same [] [] h = refl
equal_from_same [] (y ∷ b) h = absurd (false≢true h)
equal_from_same (x ∷ a) [] h = absurd (false≢true h)
equal_from_same (x ∷ a) (y ∷ b) h = grind (arith, nat_tests, equal_from_same a b)

pub same_back : (a b : Table) → is_same a b ≡ is_same b a
same_back [] [] = refl
same_back [] (y ∷ b) = refl
same_back (x ∷ a) [] = refl
same_back (x ∷ a) (y ∷ b) = grind (arith, nat_tests, same_back a b)

-- a member and a table that is none are not the same
pub other_than_member : (f : List Table) (u t : Table) → has f u ≡ true → has f t ≡ false → is_same u t ≡ false
other_than_member f u t member absent = by (is_same u t) refl
  where
    by : (b : Bool) → is_same u t ≡ b → b ≡ false
    by true same = absurd (false≢true (sym absent ∙ subst (λ v. has f v ≡ true) (equal_from_same u t same) member))
    by false other = refl

pub has-append : (f g : List Table) (t : Table) → has (f ++ g) t ≡ (has f t || has g t)
has-append [] g t = refl
has-append (u ∷ f) g t = elim (is_same u t) as (λ b. (if b then true else has (f ++ g) t) ≡ ((if b then true else has f t) || has g t)) [
  | true ↦ refl
  | false ↦ has-append f g t
]

pub has_old : (f g : List Table) (t : Table) → has f t ≡ true → has (f ++ g) t ≡ true
has_old f g t h = has-append f g t ∙ rw h refl

pub has_last : (f : List Table) (t : Table) → has (f ++ t ∷ []) t ≡ true
has_last [] t = rw (same_itself t) refl
has_last (u ∷ f) t = elim (is_same u t) as (λ b. (if b then true else has (f ++ t ∷ []) t) ≡ true) [ true ↦ refl | false ↦ has_last f t ]

-- places of members stay
pub place_old : (f g : List Table) (t : Table) → has f t ≡ true → place (f ++ g) t ≡ place f t
place_old [] g t h = absurd (false≢true h)
place_old (u ∷ f) g t h = grind (arith, place_old f g t)

pub place_last : (f : List Table) (t : Table) → has f t ≡ false → place (f ++ t ∷ []) t ≡ length f
place_last [] t h = rw (same_itself t) refl
place_last (u ∷ f) t h = grind (arith, place_last f t)

pub place_below : (f : List Table) (t : Table) → has f t ≡ true → place f t < length f
place_below [] t h = absurd (false≢true h)
place_below (u ∷ f) t h = grind (arith, place_below f t)

-- one table more, in each of the derived lists
pub distinct_push : (f : List Table) (t : Table) → distinct (f ++ t ∷ []) ≡ (if has (distinct f) t then distinct f else distinct f ++ t ∷ [])
distinct_push f t = fold-append _ [] f (t ∷ [])

pub increasing_push : (f : List Table) (t : Table) → increasing (f ++ t ∷ []) ≡ placed t (increasing f)
increasing_push f t = fold-append _ [] f (t ∷ [])

pub distinct_more : (f : List Table) (t : Table) → IsDistinct f → has f t ≡ false → IsDistinct (f ++ t ∷ [])
distinct_more f t once absent = distinct_push f t ∙ rw (once, absent) refl

pub has_with_table : (ds : List Table) (u t : Table) → has (with_table ds u) t ≡ (has ds t || is_same u t)
has_with_table ds u t = by (has ds u) refl (is_same u t) refl
  where
    by : (b : Bool) → has ds u ≡ b → (s : Bool) → is_same u t ≡ s → has (if b then ds else ds ++ u ∷ []) t ≡ (has ds t || s)
    by true h true same = rw (subst (λ v. has ds v ≡ true) (equal_from_same u t same) h) refl
    by true h false other = elim (has ds t) as (λ b. b ≡ (b || false)) [ true ↦ refl | false ↦ refl ]
    by false h s same = has-append ds (u ∷ []) t ∙ rw same (elim s as (λ b. (has ds t || (if b then true else false)) ≡ (has ds t || b)) [ true ↦ refl | false ↦ refl ])

pub has_fold : (ds ts : List Table) (t : Table) → has (fold with_table ds ts) t ≡ (has ds t || has ts t)
has_fold ds [] t = elim (has ds t) as (λ b. b ≡ (b || false)) [ true ↦ refl | false ↦ refl ]
has_fold ds (u ∷ ts) t = has_fold (with_table ds u) ts t ∙ rw (has_with_table ds u t) (elim (has ds t) as (λ b. ((b || is_same u t) || has ts t) ≡ (b || (if is_same u t then true else has ts t))) [
  | true ↦ refl
  | false ↦ elim (is_same u t) as (λ s. (s || has ts t) ≡ (if s then true else has ts t)) [ true ↦ refl | false ↦ refl ]
])

pub has_distinct : (ts : List Table) (t : Table) → has (distinct ts) t ≡ has ts t
has_distinct ts t = has_fold [] ts t

swap_or : (a b c : Bool) → (if a then true else (b || c)) ≡ (b || (if a then true else c))
swap_or true true c = refl
swap_or true false c = refl
swap_or false b c = refl

has_placed_by : (b e : Bool) (s : List Table) (t v u : Table) → is_same v t ≡ e → has (placed t s) u ≡ (is_same t u || has s u) → has (if b then v ∷ placed t s else (if e then v ∷ s else t ∷ v ∷ s)) u ≡ (is_same t u || has (v ∷ s) u)
has_placed_by true e s t v u same rest = rw rest (swap_or (is_same v u) (is_same t u) (has s u))
has_placed_by false true s t v u same rest = rw (← equal_from_same v t same) (elim (is_same v u) as (λ b. (if b then true else has s u) ≡ (b || (if b then true else has s u))) [ true ↦ refl | false ↦ refl ])
has_placed_by false false s t v u same rest = elim (is_same t u) as (λ b. (if b then true else has (v ∷ s) u) ≡ (b || has (v ∷ s) u)) [ true ↦ refl | false ↦ refl ]

pub has_placed : (s : List Table) (t u : Table) → has (placed t s) u ≡ (is_same t u || has s u)
has_placed [] t u = elim (is_same t u) as (λ b. (if b then true else false) ≡ (b || false)) [ true ↦ refl | false ↦ refl ]
has_placed (v ∷ s) t u = has_placed_by (is_before v t) (is_same v t) s t v u refl (has_placed s t u)

has_placed_fold : (s f : List Table) (u : Table) → has (fold (λ sorted t. placed t sorted) s f) u ≡ (has s u || has f u)
has_placed_fold s [] u = elim (has s u) as (λ b. b ≡ (b || false)) [ true ↦ refl | false ↦ refl ]
has_placed_fold s (t ∷ f) u = has_placed_fold (placed t s) f u ∙ rw (has_placed s t u) (elim (is_same t u) as (λ b. ((b || has s u) || has f u) ≡ (has s u || (if b then true else has f u))) [
  | true ↦ elim (has s u) as (λ b. true ≡ (b || true)) [ true ↦ refl | false ↦ refl ]
  | false ↦ refl
])

pub has_increasing : (f : List Table) (u : Table) → has (increasing f) u ≡ has f u
has_increasing f u = has_placed_fold [] f u
