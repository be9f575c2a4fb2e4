-- What a task's report has of the numbers and the entries of interned tables.
use Rattle.std.specs.Prelude.{ℕ, List, [], ◌++◌, length, map, sum}
use Rattle.std.specs.List.{slice_index_or}
use Rattle.std.specs.Fmt.{decimal}
use Rattle.stabby_tables.specs.Tables.{Table}
use Rattle.stabby_tables.specs.Lists.{entry_place}
use Rattle.stabby_tables.specs.Lines.{ended}
use Rattle.stabby_tables.specs.Reports.{spelled}
use Rattle.stabby_registry.specs.Catalog.{listed}
use Rattle.stabby_registry.specs.Interned.{InternedValue}
use Rattle.stabby_intern.specs.Generated.{count_lines}
use Rattle.stabby_intern.specs.declared.command.Task.{Task}
use Rattle.stabby_intern.specs.declared.command.Task.TheVariants as tasks

-- the ranks, and the tables as they are ordered; or the numbers, and the tables in the order of their numbers
abbrev pub text_of : Task → InternedValue → List ℕ
text_of tasks.Ranks interned = ended (map decimal (map (entry_place interned.entries) interned.numbers)) ++ ended (map (λ e. spelled e.0) interned.entries)
text_of tasks.Numbers interned = ended (map decimal interned.numbers) ++ ended (map spelled (listed interned.entries))

-- how many tables were interned, how many entries there are, and the sum of the places of all
abbrev pub counts_of : InternedValue → List ℕ
counts_of interned = count_lines (length interned.numbers) (length interned.entries) (sum (map (entry_place interned.entries) interned.numbers))

-- the table of the entry at a place
abbrev pub table_in : List (Table × ℕ) → ℕ → Table
table_in entries place = (slice_index_or entries place ([], 0)).0
