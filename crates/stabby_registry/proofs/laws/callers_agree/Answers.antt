use Rattle.stabby_registry.proofs.Agreeing.{callers_agree}
use Rattle.stabby_registry.proofs.laws.callers_agree.Goals as goal

pub returns : goal.returns
returns c = callers_agree
