use Rattle.std.proofs.Common.{length, ◌-◌}
use Rattle.stabby_row.specs.Passes.{IsPassOf}
use Rattle.stabby_row.proofs.tests.stand.Given as goal

abbrev pub invariant-loop-i : goal.invariant-loop-i
invariant-loop-i l = IsPassOf l.row l.pass

abbrev pub decreases-loop-i : goal.decreases-loop-i
decreases-loop-i l = length l.numbers - l.i
