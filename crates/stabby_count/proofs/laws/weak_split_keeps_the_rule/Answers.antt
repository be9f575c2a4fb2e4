use Rattle.stabby_count.proofs.Rows.{weak_split_row}
use Rattle.stabby_count.proofs.laws.weak_split_keeps_the_rule.Goals as goal

pub returns : goal.returns
returns c = λ n place views v rule at may. weak_split_row n place views v rule at may.0 may.1
