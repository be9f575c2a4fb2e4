use Rattle.std.proofs.Common.{◌+◌, [], ◌∷◌, subst}
use Rattle.stabby_tree.specs.Spot.{IsSpot}
use Rattle.stabby_tree.proofs.Spots.{rest_rises, hits_first, leads_first, spot_past}
use Rattle.stabby_tree.proofs.spot.seek_three.Goals as goal

pub seek_two-requires-clause-rising : goal.seek_two-requires-clause-rising
seek_two-requires-clause-rising g c = rest_rises g.T.Keyed.key_of g.T.Key.Ord.cmp g.met.T.Key.Ord.total c.args.a.now (c.args.b.now ∷ c.args.c.now ∷ []) c.args.last.now c.requires.rising

pub returns-in-Less-clause-spot : goal.returns-in-Less-clause-spot
returns-in-Less-clause-spot g c =
    spot_past g.T.Keyed.key_of g.T.Key.Ord.cmp g.met.T.Key.Ord.total (g.S.Asks.sought c.args.asked.now) c.args.a.now (c.args.b.now ∷ c.args.c.now ∷ []) c.args.last.now c.args.at _ c.seek_two.result c.requires.rising c.order.ensures.order c.in-Less.is
    (subst (λ q. IsSpot g.T.Keyed.key_of g.T.Key.Ord.cmp q (c.args.b.now ∷ c.args.c.now ∷ []) c.args.last.now (c.args.at + 1) c.seek_two.result) c.order.ensures.key c.seek_two.ensures.spot)

pub returns-in-Equal-clause-spot : goal.returns-in-Equal-clause-spot
returns-in-Equal-clause-spot g c = hits_first g.T.Keyed.key_of g.T.Key.Ord.cmp g.met.T.Key.Ord.total (g.S.Asks.sought c.args.asked.now) c.args.a.now (c.args.b.now ∷ c.args.c.now ∷ []) c.args.last.now c.args.at _ c.requires.rising c.order.ensures.order c.in-Equal.is

pub returns-in-Greater-clause-spot : goal.returns-in-Greater-clause-spot
returns-in-Greater-clause-spot g c = leads_first g.T.Keyed.key_of g.T.Key.Ord.cmp g.met.T.Key.Ord.total (g.S.Asks.sought c.args.asked.now) c.args.a.now (c.args.b.now ∷ c.args.c.now ∷ []) c.args.last.now c.args.at _ c.requires.rising c.order.ensures.order c.in-Greater.is
