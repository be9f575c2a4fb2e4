use Rattle.std.proofs.Common.{refl, rules}
use Rattle.stabby_count.proofs.SliceLoans.{own_items_are}
use Rattle.stabby_count.proofs.slice_loan.Arc+Vec+T+Global.own_items.Goals as goal

pub returns : goal.returns
returns g c = ((refl, λ w. own_items_are c.args.self.now w _), record { writes_back = tt; value = Prim.search rules })
