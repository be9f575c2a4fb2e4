use Rattle.std.proofs.Common.{◌≡◌, ◌+◌, ◌-◌, ◌*◌, ◌<◌, ◌≤◌, length, take, None}
use Rattle.std.specs.declared.cmp.Ordering.TheVariants.{Less, Greater}
use Rattle.stabby_tree.specs.Order.{AllByRecursion}
use Rattle.stabby_tree.specs.Shape.{flat, KeyAt}
use Rattle.stabby_tree.proofs.spot.seek_many.Given as goal

abbrev pub decreases-loop-low : goal.decreases-loop-low
decreases-loop-low g l = l.high - l.low

abbrev pub invariant-loop-low : goal.invariant-loop-low
invariant-loop-low g l = record {
  order : l.low ≤ l.high;
  within : l.high ≤ length l.values;
  less : AllByRecursion (λ y. g.T.Key.Ord.cmp (g.T.Keyed.key_of y) (g.S.Asks.sought l.fn.asked) ≡ Less) (flat (take l.low l.values) None);
  greater : l.high < length l.values → KeyAt g.T.Keyed.key_of g.T.Key.Ord.cmp l.values l.high (g.S.Asks.sought l.fn.asked) Greater;
  sought : g.S.Asks.sought l.asked ≡ g.S.Asks.sought l.fn.asked;
  count : g.S.Asks.count l.asked + g.S.Asks.cost * (l.high - l.low) ≤ g.S.Asks.count l.fn.asked + g.S.Asks.cost * length l.values;
}
