use Rattle.std.proofs.Common.{arith}
use Rattle.stabby_count.proofs.Rows.{downgrade_row}
use Rattle.stabby_count.proofs.laws.weak_clone_keeps_the_rule.Goals as goal

pub returns : goal.returns
returns c = λ n place views v rule at may. let has = may.0 in downgrade_row n place views v rule at (omega arith) may.1
