use Rattle.std.proofs.Common.{◌≡◌, take, length, vec_capacity}
use mathlib.Core.List.{IsPrefix}
use Rattle.stabby_registry.specs.Passes.{IsPassOf, front_of, weight_of}
use Rattle.stabby_registry.specs.Work.{HasWorked}
use Rattle.stabby_registry.proofs.worker.number_share.Given as goal

abbrev pub invariant-loop-at : goal.invariant-loop-at
invariant-loop-at g l = record {
  own : IsPassOf l.registry l.pass;
  weight : weight_of l.pass ≡ weight_of l.initial.pass;
  worked : HasWorked l.pass (take l.at l.tables) l.numbers.items;
  behind : IsPrefix l.known (front_of l.pass);
  room : vec_capacity l.numbers ≡ length l.tables;
}
