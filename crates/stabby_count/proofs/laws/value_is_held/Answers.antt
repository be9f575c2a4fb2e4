use Rattle.stabby_count.proofs.Rows.{held}
use Rattle.stabby_count.proofs.laws.value_is_held.Goals as goal

pub returns : goal.returns
returns c = held
