-- Lists without repeats: their parts, and the places of their members.
use Rattle.std.proofs.Common.{◌≡◌, ℕ, zero, suc, ◌+◌, ◌<◌, ◌≤◌, List, [], ◌∷◌, ◌++◌, length, refl, sym, ◌∙◌, ap, subst, arith, Bool, true, false, ◌||◌, if◌then◌else◌, append_assoc, append-nil, length-append, Option, Some, None, slice_get}
use mathlib.Core.Bool.{false≢true}
use Rattle.std.specs.List.{fold}
use Rattle.stabby_tables.specs.Tables.{Table, is_same}
use Rattle.stabby_tables.specs.Lists.{has, with_table, distinct, place, IsDistinct}
use Rattle.stabby_tables.proofs.Growing.{same_itself, has-append, place_old, place_last, has_last}

-- no table of ts stands in acc or earlier in ts
abbrev pub Fresh : List Table → List Table → Type 0
Fresh acc [] = Unit {0}
Fresh acc (t ∷ ts) = (has acc t ≡ false) × Fresh (acc ++ t ∷ []) ts

fold_short : (acc ts : List Table) → length (fold with_table acc ts) ≤ length acc + length ts
fold_short acc [] = omega arith
fold_short acc (t ∷ ts) = by (has acc t) (fold_short acc ts) (fold_short (acc ++ t ∷ []) ts)
  where
    by : (b : Bool) → length (fold with_table acc ts) ≤ length acc + length ts → length (fold with_table (acc ++ t ∷ []) ts) ≤ length (acc ++ t ∷ []) + length ts
        → length (fold with_table (if b then acc else acc ++ t ∷ []) ts) ≤ length acc + suc (length ts)
    by true same longer = omega (arith, same)
    by false same longer = omega (arith, longer, length-append acc (t ∷ []))

fresh_by : (b : Bool) (acc ts : List Table) (t : Table) → has acc t ≡ b → (fold with_table (acc ++ t ∷ []) ts ≡ (acc ++ t ∷ []) ++ ts → Fresh (acc ++ t ∷ []) ts)
    → fold with_table (if b then acc else acc ++ t ∷ []) ts ≡ acc ++ t ∷ ts → Fresh acc (t ∷ ts)
fresh_by true acc ts t there rest e = absurd (omega (arith, fold_short acc ts, ap length e, length-append acc (t ∷ ts)))
fresh_by false acc ts t absent rest e = (absent, rest (e ∙ sym (append_assoc acc (t ∷ []) ts)))

pub fresh_from_fold : (acc ts : List Table) → fold with_table acc ts ≡ acc ++ ts → Fresh acc ts
fresh_from_fold acc [] e = tt
fresh_from_fold acc (t ∷ ts) e = fresh_by (has acc t) acc ts t refl (fresh_from_fold (acc ++ t ∷ []) ts) e

pub fold_from_fresh : (acc ts : List Table) → Fresh acc ts → fold with_table acc ts ≡ acc ++ ts
fold_from_fresh acc [] fresh = sym (append-nil acc)
fold_from_fresh acc (t ∷ ts) (absent, rest) = rw absent (fold_from_fresh (acc ++ t ∷ []) ts rest ∙ append_assoc acc (t ∷ []) ts)

fresh_front : (acc xs ys : List Table) → Fresh acc (xs ++ ys) → Fresh acc xs
fresh_front acc [] ys fresh = tt
fresh_front acc (x ∷ xs) ys (absent, rest) = (absent, fresh_front (acc ++ x ∷ []) xs ys rest)

-- a prefix of a list without repeats has none
pub distinct_front : (xs ys : List Table) → IsDistinct (xs ++ ys) → IsDistinct xs
distinct_front xs ys once = fold_from_fresh [] xs (fresh_front [] xs ys (fresh_from_fold [] (xs ++ ys) once))

place_within : (acc ts : List Table) (t : Table) (n : ℕ) → Fresh acc ts → slice_get ts n ≡ Some t → place (acc ++ ts) t ≡ length acc + n
place_within acc [] t n fresh at = absurd (cc)
place_within acc (u ∷ ts) t zero (absent, rest) at =
    let same : u ≡ t = cc in
    let away : has acc t ≡ false = subst (λ v. has acc v ≡ false) same absent in
    let there : has (acc ++ t ∷ []) t ≡ true = has_last acc t in
    ap (λ v. place (acc ++ v ∷ ts) t) same
    ∙ ap (λ l. place l t) (sym (append_assoc acc (t ∷ []) ts))
    ∙ place_old (acc ++ t ∷ []) ts t there
    ∙ place_last acc t away
    ∙ (omega arith)
place_within acc (u ∷ ts) t (suc n) (absent, rest) at =
    ap (λ l. place l t) (sym (append_assoc acc (u ∷ []) ts)) ∙ place_within (acc ++ u ∷ []) ts t n rest at ∙ (omega (arith, length-append acc (u ∷ [])))

-- the place of a table is where it stands
pub place_is : (f : List Table) (t : Table) (n : ℕ) → IsDistinct f → slice_get f n ≡ Some t → place f t ≡ n
place_is f t n once at = let e = place_within [] f t n (fresh_from_fold [] f once) at in omega (arith, e)
