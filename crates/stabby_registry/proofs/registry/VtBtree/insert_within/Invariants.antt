use Rattle.std.proofs.Common.{◌≡◌, ◌<◌, ◌-◌, ◌^◌, false, length}
use Rattle.stabby_tables.specs.Lists.{has, IsDistinct}
use Rattle.stabby_registry.specs.Passes.{IsPassOf, front_of}
use Rattle.stabby_registry.proofs.Outrunning.{Outrun}
use Rattle.stabby_registry.proofs.registry.VtBtree.insert_within.Given as goal

-- others came before each of the rounds so far, and the version is the one that the last of them found
abbrev pub invariant-loop-round : goal.invariant-loop-round
invariant-loop-round g l = record {
  own : IsPassOf l.self l.pass;
  version : l.version ≡ front_of l.pass;
  absent : has (front_of l.pass) l.table ≡ false;
  room : length (front_of l.pass) < 2 ^ 63 - 1;
  distinct : IsDistinct (front_of l.pass);
  outrun : Outrun l.fn.pass l.pass l.round;
  left : l.round < l.tries;
}
