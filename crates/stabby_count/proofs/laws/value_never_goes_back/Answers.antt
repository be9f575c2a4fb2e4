use Rattle.stabby_count.proofs.Steps.{never_back}
use Rattle.stabby_count.proofs.laws.value_never_goes_back.Goals as goal

pub returns : goal.returns
returns c = never_back
