use Rattle.std.proofs.Common.{◌≡◌}
use Rattle.stabby_vec.specs.Sequence.{pushed}
use Rattle.stabby_vec.proofs.vec.sequence.Vec.extend.Given as goal

abbrev pub invariant-loop-item : goal.invariant-loop-item
invariant-loop-item g l = (goal.iterator-loop-item g).can_next l.item-iterator
    × (goal.iterator-loop-item g).is_finite l.item-iterator
    × (l.self ≡ pushed l.initial.self l.yielded)
