-- Adding a row whose key had none.
use Rattle.std.specs.Prelude.{◌≡◌, ◌+◌, ℕ, List, None}
use Rattle.stabby_index.specs.declared.row.Row.{Row}
use Rattle.stabby_index.specs.declared.row.Change.{Change}
use Rattle.stabby_index.specs.Rows.{row_at, rows_at, with_row}

-- at the stamp before, the row's key had none, and this stamp has the rows of that one with it
pub record AddsRow (front : List (List Change)) (row : Row) (stamp : ℕ) : Type 0 where
  pub before : ℕ
  pub next : stamp ≡ before + 1
  pub absent : row_at (rows_at front before) row.key ≡ None
  pub rows : rows_at front stamp ≡ with_row (rows_at front before) row
