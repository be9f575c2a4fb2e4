use Rattle.stabby_count.proofs.Steps.{freed_once}
use Rattle.stabby_count.proofs.laws.block_is_freed_once.Goals as goal

pub returns : goal.returns
returns c = freed_once
