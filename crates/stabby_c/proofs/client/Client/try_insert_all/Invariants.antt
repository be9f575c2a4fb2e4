use Rattle.std.proofs.Common.{◌≡◌, ◌≤◌, length, take}
use mathlib.Core.List.{IsPrefix}
use Rattle.std.specs.List.{sum}
use Rattle.stabby_c.specs.Clients.{home_of, front_of, TriedEach}
use Rattle.stabby_c.specs.Batches.{AreNumbered}
use Rattle.stabby_c.proofs.client.Client.try_insert_all.Given as goal

abbrev pub invariant-loop-at : goal.invariant-loop-at
invariant-loop-at l = record {
  same : home_of l.self ≡ home_of l.initial.self;
  front : IsPrefix (front_of l.initial.self) (front_of l.self);
  from : l.from ≡ sum (take l.at l.lengths);
  done : l.done ≡ l.at;
  room : length l.lengths ≤ length l.numbers;
  each : TriedEach l.initial.self l.at l.self;
  numbered : AreNumbered (front_of l.self) l.words l.lengths l.numbers l.at;
}
