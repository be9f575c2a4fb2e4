use Rattle.std.proofs.Common.{ap, refl, Err}
use Rattle.stabby_layout.specs.declared.error.AllocationError.TheVariants.{Range}
use Rattle.stabby_vec.proofs.Pushing.{error_is}
use Rattle.stabby_vec.proofs.single.list.SingleOrVec.push.Goals as goal

pub returns-in-Err-clause-range : goal.returns-in-Err-clause-range
returns-in-Err-clause-range g c = (
  (λ is. c.in-Err.ensures.range.0 (error_is (Err c.in-Err.error) c.in-Err.error Range refl is)),
  (λ past. ap Err (c.in-Err.ensures.range.1 past)),
)
