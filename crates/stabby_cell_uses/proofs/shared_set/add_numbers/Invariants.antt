use Rattle.std.proofs.Common.{◌≡◌}
use mathlib.Core.List.{IsPrefix}
use Rattle.stabby_cell.specs.Passes.{front_of, weight_of}
use Rattle.stabby_cell.specs.Replaced.{IsPassOf}
use Rattle.stabby_cell_uses.specs.Fills.{AddedOnly}
use Rattle.stabby_cell_uses.proofs.shared_set.add_numbers.Given as goal

abbrev pub invariant-loop-round : goal.invariant-loop-round
invariant-loop-round g l = record {
  pass : IsPassOf l.set l.pass;
  added : AddedOnly l.set l.pass;
  weight : weight_of l.pass ≡ weight_of l.initial.pass;
  front : IsPrefix (front_of l.initial.pass) (front_of l.pass);
}
