use Rattle.stabby_layout.proofs.LayoutLemmas.{joined_as_c}
use Rattle.stabby_layout.proofs.laws.concat_is_c_struct.Goals as goal

pub returns : goal.returns
returns c a b this next = joined_as_c a b this next
