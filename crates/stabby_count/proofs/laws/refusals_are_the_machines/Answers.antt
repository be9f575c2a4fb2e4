use Rattle.stabby_count.proofs.Rows.{refused}
use Rattle.stabby_count.proofs.laws.refusals_are_the_machines.Goals as goal

pub returns : goal.returns
returns c = refused
