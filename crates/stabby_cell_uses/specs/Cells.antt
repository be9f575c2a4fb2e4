-- What contracts say of a cell of counters.
use Rattle.std.specs.Prelude.{ℕ, List}
use Rattle.stabby_cell_uses.specs.declared.counter.Counter.{Counter}
use Rattle.stabby_cell_uses.specs.Counting.{RaisesByOne}
use Rattle.stabby_cell.specs.declared.cell.TurnCell.{TurnCell}
use Rattle.stabby_cell.specs.Passes.{IsVersion, first_version_of, entries_before}

-- the counter shows this number once the entries are committed
abbrev pub Shows : TurnCell Counter ℕ → List ℕ → ℕ → Type 0
Shows cell entries n = IsVersion (λ old e new. RaisesByOne old.number e new.number) cell entries (record { number = n })

-- of the stamp t, it showed this number
abbrev pub ShowsAt : TurnCell Counter ℕ → List ℕ → ℕ → ℕ → Type 0
ShowsAt cell entries t n = Shows cell (entries_before cell entries t) n

-- the number that the cell was made with
abbrev pub first_number_of : TurnCell Counter ℕ → ℕ
first_number_of cell = (first_version_of cell).number
