-- What contracts say of an index's passes.
use Rattle.std.specs.Prelude.{◌≤◌, ◌<◌, ◌+◌, ℕ, List}
use Rattle.stabby_cell.specs.declared.chronicle.Chronicle.{Ghosts}
use Rattle.stabby_cell.specs.declared.pass.Pass.{Pass}
use Rattle.stabby_cell.specs.Passes as cell
use Rattle.stabby_index.specs.declared.row.Change.{Change}
use Rattle.stabby_index.specs.declared.version.Version.{Version}
use Rattle.stabby_index.specs.declared.index.Index.{Index}

-- how many versions the index keeps
abbrev pub kept_by : Index → ℕ
kept_by index = cell.keep_of index.cell

-- at the stamp `now`, the index keeps the version of the stamp s
abbrev pub IsKeptBy : Index → ℕ → ℕ → Type 0
IsKeptBy index now s = (s ≤ now) × (now < s + kept_by index)

module _ {g : Ghosts Version (List Change)} where
  -- The pass belongs to the index, and its turn isn't out. Each call that takes a pass asks it and keeps it.
  abbrev pub IsPassOf : Index → Pass Version (List Change) g → Type 0
  IsPassOf index p = cell.IsPassOf index.cell p
