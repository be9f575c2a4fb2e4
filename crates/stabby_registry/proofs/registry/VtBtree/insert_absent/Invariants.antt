use Rattle.std.proofs.Common.{◌≡◌, false}
use Rattle.stabby_tables.specs.Lists.{has, IsDistinct}
use Rattle.stabby_registry.specs.Passes.{IsPassOf, Looked, front_of}
use Rattle.stabby_registry.proofs.registry.VtBtree.insert_absent.Given as goal

-- the steps so far committed nothing, and the version is that of the last of them, which lacks the table
abbrev pub invariant-loop : goal.invariant-loop
invariant-loop g l = record {
  own : IsPassOf l.self l.pass;
  looked : Looked l.fn.pass l.pass;
  version : l.known ≡ front_of l.pass;
  absent : has (front_of l.pass) l.table ≡ false;
  distinct : IsDistinct (front_of l.pass);
}
