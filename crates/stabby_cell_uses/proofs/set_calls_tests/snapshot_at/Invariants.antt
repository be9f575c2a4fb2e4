use Rattle.stabby_cell.specs.Replaced.{IsPassOf}
use Rattle.stabby_cell_uses.proofs.set_calls_tests.snapshot_at.Given as goal

abbrev pub invariant-loop-number : goal.invariant-loop-number
invariant-loop-number g l = IsPassOf l.set l.pass
