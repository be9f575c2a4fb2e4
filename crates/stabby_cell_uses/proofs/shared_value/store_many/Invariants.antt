use Rattle.std.proofs.Common.{◌≡◌}
use mathlib.Core.List.{IsPrefix}
use Rattle.stabby_cell.specs.Passes.{front_of, weight_of}
use Rattle.stabby_cell.specs.Shared.{IsPassOf}
use Rattle.stabby_cell_uses.specs.Stores.{StoredOnly}
use Rattle.stabby_cell_uses.proofs.shared_value.store_many.Given as goal

abbrev pub invariant-loop : goal.invariant-loop
invariant-loop g l = record {
  pass : IsPassOf l.cell l.pass;
  stored : StoredOnly l.number l.pass;
  weight : weight_of l.pass ≡ weight_of l.initial.pass;
  front : IsPrefix (front_of l.initial.pass) (front_of l.pass);
}
