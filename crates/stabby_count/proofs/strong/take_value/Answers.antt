use Rattle.std.proofs.Common.{rules}
use Rattle.stabby_count.proofs.Kept.{keeps_take}
use Rattle.stabby_count.proofs.strong.take_value.Goals as goal

pub end_weak-word-requires-clause-view : goal.end_weak-word-requires-clause-view
end_weak-word-requires-clause-view g c = keeps_take _ _ (search rules)
