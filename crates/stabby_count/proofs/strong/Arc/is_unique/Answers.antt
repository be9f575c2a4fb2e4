use Rattle.std.proofs.Common.{arith}
use Rattle.std.proofs.lemmas.Grind.{common_steps}
use Rattle.stabby_count.proofs.Kept.{keeps_look_sole}
use Rattle.stabby_count.proofs.strong.Arc.is_unique.Goals as goal

pub look-requires-clause-view : goal.look-requires-clause-view
look-requires-clause-view g c = keeps_look_sole _ _ (grind (arith, common_steps))
