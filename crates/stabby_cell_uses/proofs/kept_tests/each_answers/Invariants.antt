use Rattle.stabby_cell.specs.Shared.{IsPassOf}
use Rattle.stabby_cell_uses.proofs.kept_tests.each_answers.Given as goal

abbrev pub invariant-loop-store : goal.invariant-loop-store
invariant-loop-store g l = IsPassOf l.cell l.pass
