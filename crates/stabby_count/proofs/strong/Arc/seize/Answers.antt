use Rattle.std.proofs.Common.{arith}
use Rattle.std.proofs.lemmas.Grind.{common_steps}
use Rattle.stabby_count.proofs.Kept.{keeps_look_sole}
use Rattle.stabby_count.proofs.strong.Arc.seize.Goals as goal

pub seize-requires-clause-view : goal.seize-requires-clause-view
seize-requires-clause-view g c = keeps_look_sole _ _ (grind (arith, common_steps))
