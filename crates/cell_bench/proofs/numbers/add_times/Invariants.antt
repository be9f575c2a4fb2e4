use Rattle.stabby_cell.specs.Passes.{IsPassOf}
use Rattle.cell_bench.proofs.numbers.add_times.Given as goal

abbrev pub invariant-loop : goal.invariant-loop
invariant-loop g l = IsPassOf l.cell l.pass
