use Rattle.std.proofs.Common.{◌≡◌, ◌+◌, take}
use Rattle.std.specs.List.{sum}
use Rattle.stabby_c.proofs.batch.add_up.Given as goal

abbrev pub invariant-loop-length : goal.invariant-loop-length
invariant-loop-length l = l.left + sum (take l.length-index l.lengths) ≡ l.words
