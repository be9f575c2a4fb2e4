use Rattle.std.proofs.Common.{◌≡◌, ◌++◌, take}
use Rattle.stabby_vec.proofs.vec.sequence.Vec.try_copy_extend.Given as goal

abbrev pub invariant-loop-item : goal.invariant-loop-item
invariant-loop-item g l = l.self ≡ record { items = l.initial.self.items ++ take l.item-index l.slice; capacity = l.initial.self.capacity }
