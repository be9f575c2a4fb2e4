use Rattle.stabby_index.specs.Passes.{IsPassOf}
use Rattle.stabby_index_uses.proofs.random_tests.apply_lists.Given as goal

abbrev pub invariant-loop : goal.invariant-loop
invariant-loop g l = IsPassOf l.index l.pass
