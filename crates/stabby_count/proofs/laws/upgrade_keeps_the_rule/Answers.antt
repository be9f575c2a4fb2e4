use Rattle.stabby_count.proofs.Rows.{upgrade_row}
use Rattle.stabby_count.proofs.laws.upgrade_keeps_the_rule.Goals as goal

pub returns : goal.returns
returns c = λ n place views v rule at may. upgrade_row n place views v rule at may.0 may.1 may.2
