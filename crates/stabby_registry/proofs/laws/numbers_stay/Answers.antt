use Rattle.stabby_registry.proofs.Agreeing.{numbers_stay}
use Rattle.stabby_registry.proofs.laws.numbers_stay.Goals as goal

pub returns : goal.returns
returns c = numbers_stay
