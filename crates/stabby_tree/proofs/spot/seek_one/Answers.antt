use Rattle.std.proofs.Common.{[]}
use Rattle.stabby_tree.proofs.Spots.{hits_first, leads_first, leads_past}
use Rattle.stabby_tree.proofs.spot.seek_one.Goals as goal

pub returns-in-Less-clause-spot : goal.returns-in-Less-clause-spot
returns-in-Less-clause-spot g c = leads_past g.T.Keyed.key_of g.T.Key.Ord.cmp g.met.T.Key.Ord.total (g.S.Asks.sought c.args.asked.now) c.args.a.now c.args.last.now c.args.at _ c.requires.rising c.order.ensures.order c.in-Less.is

pub returns-in-Equal-clause-spot : goal.returns-in-Equal-clause-spot
returns-in-Equal-clause-spot g c = hits_first g.T.Keyed.key_of g.T.Key.Ord.cmp g.met.T.Key.Ord.total (g.S.Asks.sought c.args.asked.now) c.args.a.now [] c.args.last.now c.args.at _ c.requires.rising c.order.ensures.order c.in-Equal.is

pub returns-in-Greater-clause-spot : goal.returns-in-Greater-clause-spot
returns-in-Greater-clause-spot g c = leads_first g.T.Keyed.key_of g.T.Key.Ord.cmp g.met.T.Key.Ord.total (g.S.Asks.sought c.args.asked.now) c.args.a.now [] c.args.last.now c.args.at _ c.requires.rising c.order.ensures.order c.in-Greater.is
