use Rattle.std.proofs.Common.{◌≡◌, ◌++◌, length, List, ℕ}
use Rattle.stabby_intern.specs.Devices.{Took}
use Rattle.stabby_intern.proofs.transfer.write_all.Given as goal

-- what was taken, and then what is left
abbrev pub invariant-loop-rest : goal.invariant-loop-rest
invariant-loop-rest g l = (done : List ℕ) × (l.text ≡ done ++ l.rest) × Took (g.K.Sink.taken l.fn.out) (g.K.Sink.taken l.out) done × (g.K.Sink.faults l.out ≡ g.K.Sink.faults l.fn.out)

abbrev pub decreases-loop-rest : goal.decreases-loop-rest
decreases-loop-rest g l = length l.rest
