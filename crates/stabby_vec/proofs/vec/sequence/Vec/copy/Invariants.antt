use Rattle.std.proofs.Common.{◌≡◌, take}
use Rattle.stabby_vec.proofs.vec.sequence.Vec.copy.Given as goal

abbrev pub invariant-loop-item : goal.invariant-loop-item
invariant-loop-item g l = l.list ≡ record { items = take l.item-index l.item-items; capacity = l.initial.list.capacity }
