use Rattle.stabby_index.specs.Passes.{IsPassOf}
use Rattle.index_bench.proofs.readers.write_on.Given as goal

abbrev pub invariant-loop-i : goal.invariant-loop-i
invariant-loop-i g l = IsPassOf l.index l.pass
