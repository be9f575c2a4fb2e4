-- What the numbers of a registry's callers say of their tables, from the clauses of an insert alone.
use Rattle.std.specs.Prelude.{◌≡◌, ℕ, List}
use mathlib.Core.List.{IsPrefix}
use Rattle.stabby_tables.specs.Tables.{Table}
use Rattle.stabby_tables.specs.Lists.{IsDistinct}
use Rattle.stabby_registry.specs.Inserts.{IsNumber}

-- In each later front a table keeps its number: it has no other there, and no other table has it.
pub record NumbersStay : Type 0 where
  pub kept : (front later : List Table) (t : Table) (n : ℕ) → IsPrefix front later → IsNumber front t n → IsNumber later t n
  pub one_number : (front later : List Table) (t : Table) (n m : ℕ) → IsPrefix front later → IsDistinct later
      → IsNumber front t n → IsNumber later t m → n ≡ m
  pub one_table : (front later : List Table) (t u : Table) (n : ℕ) → IsPrefix front later
      → IsNumber front t n → IsNumber later u n → t ≡ u

-- Two callers, whichever was first, whose fronts are prefixes of one list: equal tables have equal numbers, and different
-- tables different ones.
pub record CallersAgree : Type 0 where
  pub equal : (one other both : List Table) (t : Table) (n m : ℕ) → IsPrefix one both → IsPrefix other both → IsDistinct both
      → IsNumber one t n → IsNumber other t m → n ≡ m
  pub different : (one other both : List Table) (t u : Table) (n : ℕ) → IsPrefix one both → IsPrefix other both
      → IsNumber one t n → IsNumber other u n → t ≡ u
