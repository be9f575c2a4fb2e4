use Rattle.stabby_count.proofs.Kept.{keeps_look}
use Rattle.stabby_count.proofs.strong.Arc.strong_count.Goals as goal

pub look-requires-clause-view : goal.look-requires-clause-view
look-requires-clause-view g c = keeps_look _ _
