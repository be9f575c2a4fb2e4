use Rattle.std.proofs.Common.{◌≡◌}
use mathlib.Core.List.{IsPrefix}
use Rattle.stabby_cell.specs.Passes.{front_of, weight_of}
use Rattle.stabby_index.specs.Passes.{IsPassOf}
use Rattle.stabby_index_uses.proofs.two_threads.put_keys.Given as goal

abbrev pub invariant-loop-i : goal.invariant-loop-i
invariant-loop-i g l = record {
  pass : IsPassOf l.index l.pass;
  weight : weight_of l.pass ≡ weight_of l.initial.pass;
  front : IsPrefix (front_of l.initial.pass) (front_of l.pass);
}
