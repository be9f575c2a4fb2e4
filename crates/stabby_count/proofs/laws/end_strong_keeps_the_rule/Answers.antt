use Rattle.stabby_count.proofs.Rows.{end_strong_row}
use Rattle.stabby_count.proofs.laws.end_strong_keeps_the_rule.Goals as goal

pub returns : goal.returns
returns c = λ n place views v rule at may. end_strong_row n place views v rule at may.0 may.1
