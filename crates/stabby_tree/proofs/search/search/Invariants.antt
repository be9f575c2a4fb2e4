use Rattle.std.proofs.Common.{◌≡◌, ◌+◌, ◌*◌, ◌-◌, ◌≤◌}
use Rattle.stabby_tree.specs.Order.{IsRising, find}
use Rattle.stabby_tree.proofs.search.search.Given as goal

abbrev pub decreases-levels : goal.decreases-levels
decreases-levels g l = l.node.1

abbrev pub invariant-levels : goal.invariant-levels
invariant-levels g l = record {
  rises : IsRising g.T.Keyed.key_of g.T.Key.Ord.cmp l.node.0;
  same : find g.T.Keyed.key_of g.T.Key.Ord.cmp (g.Q.Probe.sought l.fn.probe) l.node.0 ≡ find g.T.Keyed.key_of g.T.Key.Ord.cmp (g.Q.Probe.sought l.fn.probe) l.fn.node.0;
  sought : g.Q.Probe.sought l.probe ≡ g.Q.Probe.sought l.fn.probe;
  count : g.Q.Probe.count l.probe + (g.P.Limit.limit - 1) * (l.node.1 + 1) ≤ g.Q.Probe.count l.fn.probe + (g.P.Limit.limit - 1) * (l.fn.node.1 + 1);
}
