-- What the program writes.
use Rattle.std.specs.Prelude.{ℕ, List, ◌++◌, map}
use Rattle.std.specs.Fmt.{decimal}
use Rattle.stabby_tables.specs.Tables.{Table}
use Rattle.stabby_tables.specs.Lists.{distinct, place, increasing, rank}
use Rattle.stabby_tables.specs.Lines.{joined, ended}

-- a table as a line prints it: its words in decimal, one space between two
abbrev pub spelled : Table → List ℕ
spelled t = joined (map decimal t)

-- for each table a line with how many distinct ones are less, and then the distinct ones in increasing order
abbrev pub rank_report : List Table → List ℕ
rank_report ts = ended (map (λ t. decimal (rank (distinct ts) t)) ts) ++ ended (map spelled (increasing (distinct ts)))

-- for each table a line with its place in f, and then the tables of f in order
abbrev pub number_report : List Table → List Table → List ℕ
number_report ts f = ended (map (λ t. decimal (place f t)) ts) ++ ended (map spelled f)
