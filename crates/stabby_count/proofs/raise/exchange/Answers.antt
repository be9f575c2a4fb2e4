use Rattle.std.proofs.Common.{arith}
use Rattle.std.proofs.lemmas.Grind.{common_steps}
use Rattle.stabby_count.proofs.Kept.{keeps_clone, keeps_downgrade, keeps_upgrade}
use Rattle.stabby_count.proofs.raise.exchange.Goals as goal

pub exchange-requires-clause-view : goal.exchange-requires-clause-view
exchange-requires-clause-view g c = keeps_clone _ _ _ _ (grind (arith, common_steps)) (grind (arith, common_steps)) (grind (arith, common_steps))

pub exchange-requires-in-Downgrade-clause-view : goal.exchange-requires-in-Downgrade-clause-view
exchange-requires-in-Downgrade-clause-view g c = keeps_downgrade _ _ _ _ (grind (arith, common_steps)) (grind (arith, common_steps)) (grind (arith, common_steps))

pub exchange-requires-in-WeakClone-clause-view : goal.exchange-requires-in-WeakClone-clause-view
exchange-requires-in-WeakClone-clause-view g c = keeps_downgrade _ _ _ _ (grind (arith, common_steps)) (grind (arith, common_steps)) (grind (arith, common_steps))

pub exchange-requires-in-Upgrade-clause-view : goal.exchange-requires-in-Upgrade-clause-view
exchange-requires-in-Upgrade-clause-view g c = keeps_upgrade _ _ _ _ (grind (arith, common_steps)) (grind (arith, common_steps)) (grind (arith, common_steps)) (grind (arith, common_steps))
