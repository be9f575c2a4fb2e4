use Rattle.std.proofs.Common.{length, ◌-◌, ◌≡◌}
use Rattle.stabby_row.specs.Passes.{IsPassOf, weight_of}
use Rattle.stabby_row.proofs.tests.fill.Given as goal

abbrev pub invariant-loop-i : goal.invariant-loop-i
invariant-loop-i l = IsPassOf l.row l.pass × (weight_of l.pass ≡ weight_of l.fn.pass)

abbrev pub decreases-loop-i : goal.decreases-loop-i
decreases-loop-i l = length l.initial.numbers - l.i
