use Rattle.stabby_count.proofs.Rows.{look_row}
use Rattle.stabby_count.proofs.laws.look_keeps_the_rule.Goals as goal

pub returns : goal.returns
returns c = λ n place views v rule at has. look_row n place views v rule at has
