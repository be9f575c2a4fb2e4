use Rattle.stabby_count.proofs.Steps.{all_ended}
use Rattle.stabby_count.proofs.laws.ended_handles_leave_nothing.Goals as goal

pub returns : goal.returns
returns c = all_ended
