use Rattle.stabby_count.proofs.Steps.{taken_once}
use Rattle.stabby_count.proofs.laws.value_is_taken_once.Goals as goal

pub returns : goal.returns
returns c = taken_once
