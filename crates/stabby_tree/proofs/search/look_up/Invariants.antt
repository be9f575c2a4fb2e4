use Rattle.std.proofs.Common.{◌≡◌}
use Rattle.stabby_tree.specs.Order.{IsRising, find}
use Rattle.stabby_tree.proofs.search.look_up.Given as goal

abbrev pub decreases-levels : goal.decreases-levels
decreases-levels g l = l.node.1

abbrev pub invariant-levels : goal.invariant-levels
invariant-levels g l = record {
  rises : IsRising g.T.Keyed.key_of g.T.Key.Ord.cmp l.node.0;
  same : find g.T.Keyed.key_of g.T.Key.Ord.cmp l.fn.key l.node.0 ≡ find g.T.Keyed.key_of g.T.Key.Ord.cmp l.fn.key l.fn.node.0;
  asked : l.asked ≡ l.fn.key;
}
