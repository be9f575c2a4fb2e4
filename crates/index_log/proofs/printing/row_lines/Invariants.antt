use Rattle.std.proofs.Common.{◌≡◌, map, take}
use Rattle.index_log.specs.Printed.{row_lines}
use Rattle.index_log.proofs.printing.row_lines.Given as goal

-- the lines so far are those of the rows so far
abbrev pub invariant-loop-row : goal.invariant-loop-row
invariant-loop-row l = l.out.items ≡ row_lines (map (λ r. r.now) (take l.row-index l.rows))
