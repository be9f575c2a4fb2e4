use Rattle.stabby_count.proofs.Rows.{take_row}
use Rattle.stabby_count.proofs.laws.take_keeps_the_rule.Goals as goal

pub returns : goal.returns
returns c = λ n place views v rule at may. take_row n place views v rule at may
