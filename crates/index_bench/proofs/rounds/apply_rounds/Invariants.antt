use Rattle.stabby_index.specs.Passes.{IsPassOf}
use Rattle.index_bench.proofs.rounds.apply_rounds.Given as goal

abbrev pub invariant-loop : goal.invariant-loop
invariant-loop g l = IsPassOf l.index l.pass
