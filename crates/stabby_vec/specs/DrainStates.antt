-- The state of a `Drain` and of a `DoubleEndedDrain` as a contract sees it.
use Rattle.std.specs.Prelude.{take, drop}
use Rattle.std.specs.Borrow.{GName}
use Rattle.stabby_vec.specs.Drains.{Draining, reverse_if}
use Rattle.stabby_vec.specs.declared.vec.drains.Drain.{Drain}
use Rattle.stabby_vec.specs.declared.vec.double_ended.DoubleEndedDrain.{DoubleEndedDrain}

module _ {T A : Type 0} where
  -- what a drain leaves and has left to read
  abbrev pub draining : Drain T A → Draining T
  draining d = record {
    outside = take d.keep d.list.now.items;
    from = d.from;
    left = reverse_if d.reversed (drop d.keep d.list.now.items);
    capacity = d.list.now.capacity;
  }

  -- the reference to the list: two drains with one name are of the same borrow
  abbrev pub drain_lender : Drain T A → GName
  drain_lender d = d.list.ghost_name

  abbrev pub both_draining : DoubleEndedDrain T A → Draining T
  both_draining d = draining d.drain

  abbrev pub both_lender : DoubleEndedDrain T A → GName
  both_lender d = drain_lender d.drain
