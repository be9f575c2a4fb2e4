use Rattle.std.proofs.Common.{◌≡◌, ◌++◌, map, take}
use Rattle.std.specs.List.{slice_index}
use Rattle.std.specs.Fmt.{decimal}
use Rattle.stabby_tables.specs.Lines.{ended}
use Rattle.stabby_intern.proofs.report.push_ranks.Given as goal

abbrev pub invariant-loop-number : goal.invariant-loop-number
invariant-loop-number l = l.report.items ≡ l.fn.report.items ++ ended (map (λ n. decimal (slice_index l.places n)) (take l.number-index l.numbers))
