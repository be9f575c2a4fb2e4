-- What the reading of a text says, line by line.
use Rattle.std.specs.Prelude.{◌≡◌, ℕ, ◌+◌, List, ◌∷◌, ◌++◌, length}
use Rattle.std.specs.List.{AllZip}
use Rattle.stabby_tables.specs.Tables.{Table}
use Rattle.stabby_tables.specs.Lines.{Spells, SpellsNone}

-- the lines before the k-th spell tables, and the k-th spells none
pub record IsBadAt (lines : List (List ℕ)) (k : ℕ) : Type 0 where
  pub front : List (List ℕ)
  pub line : List ℕ
  pub after : List (List ℕ)
  pub split : lines ≡ front ++ line ∷ after
  pub place : k ≡ length front + 1
  pub tables : List Table
  pub good : AllZip Spells front tables
  pub bad : SpellsNone line
