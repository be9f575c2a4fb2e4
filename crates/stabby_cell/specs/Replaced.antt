-- What contracts say of a cell whose commits replace the version whole.
use Rattle.std.specs.Prelude.{ℕ, List}
use Rattle.stabby_cell.specs.declared.chronicle.Chronicle.{Ghosts}
use Rattle.stabby_cell.specs.declared.pass.Pass.{Pass}
use Rattle.stabby_cell.specs.declared.replaced.ReplacedCell.{ReplacedCell}
use Rattle.stabby_cell.specs.Values.{last_of}
use Rattle.stabby_cell.specs.Passes as cell

module _ {V : Type 0} where
  -- the version that the cell was made with
  abbrev pub first_contents_of : ReplacedCell V → V
  first_contents_of c = cell.first_version_of c.cell

  -- how many of its last versions the cell keeps
  abbrev pub keep_of : ReplacedCell V → ℕ
  keep_of c = cell.keep_of c.cell

  -- the version once these have been committed: the last of them, or the first version
  abbrev pub contents_of : ReplacedCell V → List V → V
  contents_of c entries = last_of (first_contents_of c) entries

  -- of the stamp t, where these have been committed
  abbrev pub contents_at : ReplacedCell V → List V → ℕ → V
  contents_at c entries t = contents_of c (cell.entries_before c.cell entries t)

module _ {V : Type 0} {g : Ghosts V V} where
  -- The pass belongs to the cell, and its turn isn't out. Each call that takes a pass asks it and keeps it.
  abbrev pub IsPassOf : ReplacedCell V → Pass V V g → Type 0
  IsPassOf c p = cell.IsPassOf c.cell p

  -- at the end of the front, the cell keeps the version of the stamp t
  abbrev pub KeepsAt : ReplacedCell V → Pass V V g → ℕ → Type 0
  KeepsAt c p t = cell.IsKept c.cell (cell.stamp_of p) t
