use Rattle.stabby_count.proofs.Rows.{opens}
use Rattle.stabby_count.proofs.laws.opening_meets_the_rule.Goals as goal

pub returns : goal.returns
returns c = opens
