use Rattle.std.proofs.Common.{◌≡◌}
use Rattle.stabby_count.specs.Shared.{arc_value}
use Rattle.stabby_count_uses.proofs.one_thread.take_back.Given as goal

abbrev pub invariant-loop : goal.invariant-loop
invariant-loop g l =
    (goal.iterator-loop g).can_next l.iterator' × (goal.iterator-loop g).is_finite l.iterator' × (arc_value l.kept ≡ arc_value l.initial.kept)
