use Rattle.std.proofs.Common.{arith}
use Rattle.std.proofs.lemmas.Grind.{common_steps}
use Rattle.stabby_count.proofs.Kept.{cuts_strong, cuts_weak}
use Rattle.stabby_count.proofs.Raises.{two_weak}
use Rattle.stabby_count.proofs.raise.cut.Goals as goal

pub split-requires-clause-view : goal.split-requires-clause-view
split-requires-clause-view g c = cuts_strong _ _ (grind (arith, common_steps)) (grind (arith, common_steps))

pub split-requires-in-Downgrade-clause-view : goal.split-requires-in-Downgrade-clause-view
split-requires-in-Downgrade-clause-view g c = let w = two_weak c.args.raise c.args.share.now.view c.in-Downgrade.is c.requires.view in cuts_weak _ _ w.0 w.1

pub split-weak-requires-clause-view : goal.split-weak-requires-clause-view
split-weak-requires-clause-view g c = cuts_weak _ _ (grind (arith, common_steps)) (grind (arith, common_steps))
