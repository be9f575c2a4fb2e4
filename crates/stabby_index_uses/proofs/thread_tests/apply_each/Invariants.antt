use Rattle.stabby_index.specs.Passes.{IsPassOf}
use Rattle.stabby_index_uses.proofs.thread_tests.apply_each.Given as goal

abbrev pub invariant-loop : goal.invariant-loop
invariant-loop g l = IsPassOf l.index l.pass
