use Rattle.std.proofs.Common.{◌≡◌}
use Rattle.stabby_vec.specs.Singles.{single_pushed_all}
use Rattle.stabby_vec.proofs.single.list.SingleOrVec.extend.Given as goal

abbrev pub invariant-loop-item : goal.invariant-loop-item
invariant-loop-item g l = (goal.iterator-loop-item g).can_next l.item-iterator
    × (goal.iterator-loop-item g).is_finite l.item-iterator
    × (l.self ≡ single_pushed_all l.initial.self l.yielded)
