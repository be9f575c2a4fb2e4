use Rattle.stabby_count.proofs.Rows.{alone}
use Rattle.stabby_count.proofs.laws.one_and_one_is_alone.Goals as goal

pub returns : goal.returns
returns c = alone
