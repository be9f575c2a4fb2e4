use Rattle.std.proofs.Common.{◌≡◌, ◌+◌, ◌*◌, ◌-◌, ◌/◌, ◌<◌, ◌≤◌, length, slice_index_or, ap, ◌∙◌, arith}
use Rattle.stabby_tree.proofs.Gap.{get_same}
use Rattle.stabby_tree.proofs.Spots.{cheaper, front_less, key_greater, hits_at, leads_at, leads_last}
use Rattle.stabby_tree.proofs.spot.seek_many.Goals as goal

pub loop-low-preserved-in-Less : goal.loop-low-preserved-in-Less
loop-low-preserved-in-Less g c =
    let i = c.loop-low.invariant in
    let by = c.order.ensures.order ∙ ap (λ q. g.T.Key.Ord.cmp (g.T.Keyed.key_of c.index-values-middle.result.value) q) i.sought in
    let under : (c.loop-low.low + (c.loop-low.high - c.loop-low.low) / 2) < c.loop-low.high = omega (arith, c.loop-low-test.true) in
    let inside : (c.loop-low.low + (c.loop-low.high - c.loop-low.low) / 2) < length c.args.values.now = omega (arith, under, i.within) in
    let less : g.S.Asks.cost * (c.loop-low.high - ((c.loop-low.low + (c.loop-low.high - c.loop-low.low) / 2) + 1)) + g.S.Asks.cost ≤ g.S.Asks.cost * (c.loop-low.high - c.loop-low.low) = cheaper g.S.Asks.cost _ _ (omega (arith, under)) in
    record {
      order = omega (arith, under);
      within = i.within;
      less = front_less g.T.Keyed.key_of g.T.Key.Ord.cmp g.met.T.Key.Ord.total (g.S.Asks.sought c.args.asked.now) c.args.values.now (c.loop-low.low + (c.loop-low.high - c.loop-low.low) / 2) c.index-values-middle.result c.args.last.now _ c.requires.rising inside c.index-values-middle.is by c.in-Less.is;
      greater = i.greater;
      sought = c.order.ensures.key ∙ i.sought;
      count = omega (arith, c.order.ensures.count, i.count, less);
    }

pub returns-in-Equal-clause-spot : goal.returns-in-Equal-clause-spot
returns-in-Equal-clause-spot g c =
    let i = c.loop-low.invariant in
    let by = c.order.ensures.order ∙ ap (λ q. g.T.Key.Ord.cmp (g.T.Keyed.key_of c.index-values-middle.result.value) q) i.sought in
    let under : (c.loop-low.low + (c.loop-low.high - c.loop-low.low) / 2) < c.loop-low.high = omega (arith, c.loop-low-test.true) in
    let inside : (c.loop-low.low + (c.loop-low.high - c.loop-low.low) / 2) < length c.args.values.now = omega (arith, under, i.within) in
    hits_at g.T.Keyed.key_of g.T.Key.Ord.cmp g.met.T.Key.Ord.total (g.S.Asks.sought c.args.asked.now) c.args.values.now (c.loop-low.low + (c.loop-low.high - c.loop-low.low) / 2) c.index-values-middle.result c.args.last.now _ c.requires.rising inside c.index-values-middle.is by c.in-Equal.is

pub loop-low-preserved : goal.loop-low-preserved
loop-low-preserved g c =
    let i = c.loop-low.invariant in
    let by = c.order.ensures.order ∙ ap (λ q. g.T.Key.Ord.cmp (g.T.Keyed.key_of c.index-values-middle.result.value) q) i.sought in
    let under : (c.loop-low.low + (c.loop-low.high - c.loop-low.low) / 2) < c.loop-low.high = omega (arith, c.loop-low-test.true) in
    let inside : (c.loop-low.low + (c.loop-low.high - c.loop-low.low) / 2) < length c.args.values.now = omega (arith, under, i.within) in
    let less : g.S.Asks.cost * ((c.loop-low.low + (c.loop-low.high - c.loop-low.low) / 2) - c.loop-low.low) + g.S.Asks.cost ≤ g.S.Asks.cost * (c.loop-low.high - c.loop-low.low) = cheaper g.S.Asks.cost _ _ (omega (arith, under, i.order)) in
    record {
      order = omega arith;
      within = omega (arith, inside);
      less = i.less;
      greater = λ p. key_greater g.T.Keyed.key_of g.T.Key.Ord.cmp g.met.T.Key.Ord.total (g.S.Asks.sought c.args.asked.now) c.args.values.now (c.loop-low.low + (c.loop-low.high - c.loop-low.low) / 2) c.index-values-middle.result _ p c.index-values-middle.is by c.in-Greater.is;
      sought = c.order.ensures.key ∙ i.sought;
      count = omega (arith, c.order.ensures.count, i.count, less);
    }

pub returns-then-low-values-clause-spot : goal.returns-then-low-values-clause-spot
returns-then-low-values-clause-spot g c =
    let i = c.loop-low.invariant in
    let end : c.loop-low.high ≡ c.loop-low.low = omega (arith, i.order, c.loop-low-test.false) in
    leads_at g.T.Keyed.key_of g.T.Key.Ord.cmp g.met.T.Key.Ord.total (g.S.Asks.sought c.args.asked.now) c.args.values.now c.loop-low.low (slice_index_or c.args.values.now c.loop-low.low c.index-values-low.result) c.args.last.now c.requires.rising c.if-low-values.true (get_same c.args.values.now c.loop-low.low c.index-values-low.result c.if-low-values.true) i.less (rw end at i.greater)

pub returns-else-low-values-clause-spot : goal.returns-else-low-values-clause-spot
returns-else-low-values-clause-spot g c =
    let i = c.loop-low.invariant in
    leads_last g.T.Keyed.key_of g.T.Key.Ord.cmp g.met.T.Key.Ord.total (g.S.Asks.sought c.args.asked.now) c.args.values.now c.loop-low.low c.args.last.now c.requires.rising (omega (arith, i.order, i.within)) (omega (arith, c.if-low-values.false)) i.less
