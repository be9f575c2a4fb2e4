use Rattle.stabby_cell.specs.Shared.{IsPassOf}
use Rattle.cell_bench.proofs.shared.store_many.Given as goal

abbrev pub invariant-loop-number : goal.invariant-loop-number
invariant-loop-number g l = IsPassOf l.cell l.pass
