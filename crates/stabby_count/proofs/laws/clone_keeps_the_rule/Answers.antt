use Rattle.stabby_count.proofs.Rows.{clone_row}
use Rattle.stabby_count.proofs.laws.clone_keeps_the_rule.Goals as goal

pub returns : goal.returns
returns c = λ n place views v rule at may. clone_row n place views v rule at may.0 may.1
