-- What an insert by a whole pass does to a shelf's tables.
use Rattle.std.proofs.Common.{◌+◌, ◌≤◌, true, false, List, [], ◌∷◌, ◌++◌, length, refl, arith, if◌then◌else◌, append-nil}
use mathlib.Core.List.{IsPrefix}
use Rattle.std.proofs.lemmas.List.{length_push}
use Rattle.stabby_tables.specs.Lists.{has, with_table}
use Rattle.stabby_tables.specs.Tables.{Table}

-- a table more at most
pub few_more : (f : List Table) (t : Table) → length (with_table f t) ≤ length f + 1
few_more f t = elim (has f t) as (λ b. length (if b then f else f ++ t ∷ []) ≤ length f + 1) [
  | true ↦ omega arith
  | false ↦ omega (arith, length_push f t)
]

-- the tables that were there keep their numbers
pub front_of_more : (f : List Table) (t : Table) → IsPrefix f (with_table f t)
front_of_more f t = elim (has f t) as (λ b. IsPrefix f (if b then f else f ++ t ∷ [])) [
  | true ↦ ([], append-nil f)
  | false ↦ (t ∷ [], refl)
]
