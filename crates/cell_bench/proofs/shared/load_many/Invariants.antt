use Rattle.stabby_cell.specs.Shared.{IsPassOf}
use Rattle.cell_bench.proofs.shared.load_many.Given as goal

abbrev pub invariant-loop : goal.invariant-loop
invariant-loop g l = IsPassOf l.cell l.pass
