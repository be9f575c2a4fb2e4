use Rattle.stabby_count.proofs.Rows.{end_weak_row}
use Rattle.stabby_count.proofs.laws.end_weak_keeps_the_rule.Goals as goal

pub returns : goal.returns
returns c = λ n place views v rule at may. end_weak_row n place views v rule at may.0 may.1
