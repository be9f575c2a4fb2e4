-- What a turn of an index's cell says of its versions.
use Rattle.std.specs.Prelude.{◌≡◌, ℕ, List}
use Rattle.stabby_cell.specs.declared.chronicle.Chronicle.{Ghosts}
use Rattle.stabby_cell.specs.declared.turn.Turn.{Turn}
use Rattle.stabby_cell.specs.Passes.{IsVersion, entries_before, front_of}
use Rattle.stabby_cell.specs.Turns.{cell_of, pass_of}
use Rattle.stabby_index.specs.declared.row.Row.{Row}
use Rattle.stabby_index.specs.declared.row.Change.{Change}
use Rattle.stabby_index.specs.declared.version.Version.{Version}
use Rattle.stabby_index.specs.Versions.{Follows}

-- a version, the changes of the next one, and the next one
abbrev pub Next : Version → List Change → Version → Type 0
Next old changes new = Follows old.view changes new.view

module _ {g : Ghosts Version (List Change)} where
  -- the rows are those of the version of the stamp
  abbrev pub HasRowsAt : Turn Version (List Change) g → ℕ → List Row → Type 0
  HasRowsAt turn stamp rows = (v : Version) × IsVersion Next (cell_of turn) (entries_before (cell_of turn) (front_of (pass_of turn)) stamp) v × (rows ≡ v.view)
