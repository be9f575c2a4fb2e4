use Rattle.stabby_count.proofs.Sums.{sum_replaced}
use Rattle.stabby_count.proofs.laws.replacing_changes_the_sum.Goals as goal

pub returns : goal.returns
returns c = sum_replaced
