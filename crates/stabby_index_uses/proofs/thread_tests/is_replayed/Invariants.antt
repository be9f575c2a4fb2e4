use Rattle.stabby_index.specs.Passes.{IsPassOf}
use Rattle.stabby_index_uses.proofs.thread_tests.is_replayed.Given as goal

abbrev pub invariant-loop-stamp : goal.invariant-loop-stamp
invariant-loop-stamp g l = IsPassOf l.index l.pass
