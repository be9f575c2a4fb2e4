use Rattle.std.proofs.Common.{rules}
use Rattle.stabby_count.proofs.Kept.{keeps_end_weak}
use Rattle.stabby_count.proofs.weak.Weak.end.Goals as goal

pub end_weak-word-requires-clause-view : goal.end_weak-word-requires-clause-view
end_weak-word-requires-clause-view g c = keeps_end_weak _ _ (search rules) (search rules)
