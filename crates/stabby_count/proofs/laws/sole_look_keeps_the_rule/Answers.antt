use Rattle.stabby_count.proofs.Rows.{sole_look_row}
use Rattle.stabby_count.proofs.laws.sole_look_keeps_the_rule.Goals as goal

pub returns : goal.returns
returns c = λ n place views v rule at may. sole_look_row n place views v rule at may.0 may.1
