use Rattle.stabby_row.proofs.LawLemmas.{lie_apart}
use Rattle.stabby_row.proofs.laws.ranges_lie_apart.Goals as goal

pub returns : goal.returns
returns c = lie_apart
