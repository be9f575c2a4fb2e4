-- The list of tables that a catalog stands for.
use Rattle.std.specs.Prelude.{◌≡◌, ℕ, zero, suc, false, ◌<◌, ◌^◌, List, [], ◌∷◌, ◌++◌, length, ◌==◌, if◌then◌else◌}
use Rattle.stabby_tables.specs.Tables.{Table}
use Rattle.stabby_tables.specs.Lists.{has, ordered, IsDistinct}

-- the table with the number i
abbrev pub table_at : List (Table × ℕ) → ℕ → Table
table_at [] i = []
table_at (e ∷ es) i = if e.1 == i then e.0 else table_at es i

-- the tables with the first n numbers
abbrev pub tables_below : List (Table × ℕ) → ℕ → List Table
tables_below es zero = []
tables_below es (suc n) = tables_below es n ++ table_at es n ∷ []

-- the tables in the order of their numbers
abbrev pub listed : List (Table × ℕ) → List Table
listed es = tables_below es (length es)

-- the entries are the ordered pairs of a list of distinct tables, and can be counted
pub record IsCatalog (es : List (Table × ℕ)) : Type 0 where
  pub ordered_pairs : ordered (listed es) ≡ es
  pub distinct_tables : IsDistinct (listed es)
  pub countable : length es < 2 ^ 63

-- the last table of a list, and the empty table for the empty list
abbrev pub last_table : List Table → Table
last_table [] = []
last_table (t ∷ []) = t
last_table (t ∷ u ∷ f) = last_table (u ∷ f)

-- new is old with the absent table t at its end
pub record AppendsTable (old : List Table) (t : Table) (new : List Table) : Type 0 where
  pub absent : has old t ≡ false
  pub appended : new ≡ old ++ t ∷ []
