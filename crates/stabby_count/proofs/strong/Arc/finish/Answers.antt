use Rattle.std.proofs.Common.{rules, arith}
use Rattle.std.proofs.lemmas.Grind.{common_steps}
use Rattle.stabby_count.proofs.Kept.{keeps_end_strong, due_after}
use Rattle.stabby_count.proofs.strong.Arc.finish.Goals as goal

pub end_strong-word-requires-clause-view : goal.end_strong-word-requires-clause-view
end_strong-word-requires-clause-view g c = keeps_end_strong _ _ (search rules) (search rules)

pub take_value-requires-clause-due : goal.take_value-requires-clause-due
take_value-requires-clause-due g c = due_after c.end_strong-word.new.self.view c.args.self.share.view c.end_strong-word.result (search rules) (grind (arith, common_steps))
