use Rattle.stabby_block.specs.KeptLemmas.{is_kept, kept_is}
use Rattle.stabby_block.proofs.laws.kept_is_keeps.Goals as goal

pub returns : goal.returns
returns c below h = (is_kept below h, kept_is below h)
