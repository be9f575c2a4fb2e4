use Rattle.std.proofs.Common.{◌≡◌, ◌++◌, map, take}
use Rattle.stabby_tables.specs.Lines.{ended}
use Rattle.stabby_tables.specs.Reports.{spelled}
use Rattle.stabby_intern.specs.Printing.{table_in}
use Rattle.stabby_intern.proofs.report.push_at_places.Given as goal

abbrev pub invariant-loop-place : goal.invariant-loop-place
invariant-loop-place l = l.report.items ≡ l.fn.report.items ++ ended (map (λ place. spelled (table_in l.entries place)) (take l.place-index l.places))
