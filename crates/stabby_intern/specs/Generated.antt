-- The tables that a generation makes, and what is counted of them.
use Rattle.std.specs.Prelude.{ℕ, ◌*◌, ◌%◌, List, [], ◌∷◌, ◌++◌, length, map, sum, codes}
use Rattle.std.specs.List.{range_with_len}
use Rattle.std.specs.Fmt.{decimal}
use Rattle.stabby_tables.specs.Tables.{Table}
use Rattle.stabby_tables.specs.Lists.{distinct, rank}
use Rattle.stabby_tables.specs.Lines.{ended}

-- the table at place i: what 7 * i and i leave when they are divided
abbrev pub generated : ℕ → ℕ → Table
generated divisor i = (7 * i) % divisor ∷ i % divisor ∷ []

-- the tables at the first so many places
abbrev pub generated_tables : ℕ → ℕ → List Table
generated_tables count divisor = map (generated divisor) (range_with_len 0 count)

-- the sum of the ranks of all tables of a list, each among the distinct ones
abbrev pub rank_sum : List Table → ℕ
rank_sum tables = sum (map (rank (distinct tables)) tables)

-- a line for each of three counts
abbrev pub count_lines : ℕ → ℕ → ℕ → List ℕ
count_lines tables distinct ranksum = ended (
    (codes "tables " ++ decimal tables)
    ∷ (codes "distinct " ++ decimal distinct)
    ∷ (codes "ranksum " ++ decimal ranksum)
    ∷ [])

-- how many tables were made, how many of them are distinct, and the sum of their ranks
abbrev pub generated_report : ℕ → ℕ → List ℕ
generated_report count divisor = count_lines count (length (distinct (generated_tables count divisor))) (rank_sum (generated_tables count divisor))
