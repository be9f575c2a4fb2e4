use Rattle.std.proofs.Common.{take}
use Rattle.stabby_intern.proofs.Scanning.{Scanned}
use Rattle.stabby_intern.proofs.lines.parse_table.Given as goal

abbrev pub invariant-loop-b : goal.invariant-loop-b
invariant-loop-b l = Scanned (take l.b-index l.line) l.words.items l.value l.begun
