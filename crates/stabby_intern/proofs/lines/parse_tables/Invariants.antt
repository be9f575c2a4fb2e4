use Rattle.std.proofs.Common.{◌≡◌, ◌++◌, ℕ, List, length}
use Rattle.std.specs.List.{AllZip}
use Rattle.stabby_tables.specs.Pieces.{lines_of}
use Rattle.stabby_tables.specs.Lines.{Spells}
use Rattle.stabby_intern.proofs.lines.parse_tables.Given as goal

-- the lines so far spell the tables so far
abbrev pub invariant-loop-rest : goal.invariant-loop-rest
invariant-loop-rest l = (done : List (List ℕ)) × AllZip Spells done l.tables.items × (lines_of l.text ≡ done ++ lines_of l.rest)

abbrev pub decreases-loop-rest : goal.decreases-loop-rest
decreases-loop-rest l = length l.rest
