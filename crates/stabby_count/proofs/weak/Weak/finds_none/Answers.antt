use Rattle.stabby_count.proofs.Kept.{keeps_glance}
use Rattle.stabby_count.proofs.weak.Weak.finds_none.Goals as goal

pub look-requires-clause-view : goal.look-requires-clause-view
look-requires-clause-view g c = keeps_glance _ _
