use Rattle.std.proofs.Common.{rules}
use Rattle.stabby_count.proofs.Kept.{keeps_look}
use Rattle.stabby_count.proofs.Raises.{may_look}
use Rattle.stabby_count.proofs.raise.try_raise.Goals as goal

pub give_back-found-requires-clause-view : goal.give_back-found-requires-clause-view
give_back-found-requires-clause-view g c = keeps_look _ _

pub give_back-found-requires-clause-kind : goal.give_back-found-requires-clause-kind
give_back-found-requires-clause-kind g c = may_look c.args.raise _ (search rules)
