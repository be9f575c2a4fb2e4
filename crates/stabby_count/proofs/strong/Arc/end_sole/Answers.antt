use Rattle.std.proofs.Common.{arith, refl}
use Rattle.std.proofs.lemmas.Grind.{common_steps}
use Rattle.stabby_count.proofs.Kept.{keeps_rest, keeps_end_sole, due_after}
use Rattle.stabby_count.proofs.strong.Arc.end_sole.Goals as goal

pub give_back-requires-clause-view : goal.give_back-requires-clause-view
give_back-requires-clause-view g c = keeps_rest _ _

pub exchange-word-requires-clause-view : goal.exchange-word-requires-clause-view
exchange-word-requires-clause-view g c = keeps_end_sole _ _ _ _ (grind (arith, common_steps)) (grind (arith, common_steps)) refl refl

pub take_value-requires-clause-due : goal.take_value-requires-clause-due
take_value-requires-clause-due g c = due_after c.exchange-word.new.self.view c.give_back.new.self.view c.exchange-word.result (grind (arith, common_steps)) (grind (arith, common_steps))
