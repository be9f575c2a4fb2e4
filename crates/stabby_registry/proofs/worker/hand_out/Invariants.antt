use Rattle.std.proofs.Common.{◌≡◌, ◌≤◌, ◌+◌, All, length, vec_capacity}
use Rattle.stabby_registry.specs.Passes.{IsPassOf, GoesOn, front_of, weight_of, commits_of}
use Rattle.stabby_registry.specs.Work.{IsReady}
use Rattle.stabby_registry.proofs.worker.hand_out.Given as goal

abbrev pub invariant-loop : goal.invariant-loop
invariant-loop l = record {
  own : IsPassOf l.registry l.pass;
  weight : weight_of l.pass + l.counter ≡ weight_of l.initial.pass;
  front : front_of l.pass ≡ front_of l.initial.pass;
  commits : commits_of l.pass ≡ commits_of l.initial.pass;
  goes_on : GoesOn l.initial.pass l.pass;
  ready : All (IsReady l.registry) l.jobs.items;
  count : length l.jobs.items ≡ l.counter;
  below : l.counter ≤ l.workers;
  room : vec_capacity l.jobs ≡ vec_capacity l.initial.jobs;
}
