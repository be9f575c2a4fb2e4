use Rattle.std.proofs.Common.{◌≡◌, ◌++◌, take}
use Rattle.stabby_vec.proofs.vec.sequence.Vec.from_slice.Given as goal

abbrev pub invariant-loop-item : goal.invariant-loop-item
invariant-loop-item g l = l.list ≡ record { items = l.initial.list.items ++ take l.item-index l.value; capacity = l.initial.list.capacity }
