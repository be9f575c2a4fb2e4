use Rattle.stabby_cell.specs.Shared.{IsPassOf}
use Rattle.stabby_cell_uses.proofs.kept_tests.store_and_read_many.Given as goal

abbrev pub invariant-loop-round : goal.invariant-loop-round
invariant-loop-round g l = IsPassOf l.cell l.pass
