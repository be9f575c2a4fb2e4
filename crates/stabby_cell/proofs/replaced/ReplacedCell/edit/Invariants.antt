use Rattle.std.proofs.Common.{◌≡◌, ◌<◌}
use Rattle.stabby_cell.specs.Passes.{front_of}
use Rattle.stabby_cell.specs.Replaced.{IsPassOf, contents_of}
use Rattle.stabby_cell.proofs.EditLemmas.{Reading}
use Rattle.stabby_cell.proofs.replaced.ReplacedCell.edit.Given as goal

abbrev pub invariant-loop-round : goal.invariant-loop-round
invariant-loop-round g l = record {
  callable : goal.F-IsAlwaysCallable g l.f;
  pass : IsPassOf l.self l.pass;
  contents : l.contents ≡ contents_of l.self (front_of l.pass);
  reading : Reading g.F.FnMut l.self l.initial.f l.fn.pass l.f l.pass l.round;
  left : l.round < l.tries;
}
