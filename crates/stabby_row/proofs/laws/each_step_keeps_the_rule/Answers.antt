use Rattle.stabby_row.proofs.LawLemmas.{each_step}
use Rattle.stabby_row.proofs.laws.each_step_keeps_the_rule.Goals as goal

pub returns : goal.returns
returns c = each_step
