use Rattle.std.proofs.Common.{◌≡◌, flat_map, take}
use Rattle.index_log.specs.Printed.{count_line}
use Rattle.index_log.proofs.printing.group_lines.Given as goal

-- the lines so far are those of the counts so far
abbrev pub invariant-loop-count : goal.invariant-loop-count
invariant-loop-count l = l.out.items ≡ flat_map count_line (take l.count-index l.counts)
