-- What a `Vec` ends as, where a `&mut` to its items is returned.
use Rattle.std.specs.Prelude.{ℕ, List}
use Rattle.std.specs.Borrow.{Lends, Fml, RattleType, MutBor, Array}
use Rattle.std.specs.declared.alloc.Allocator.{Ghosts}
use Rattle.stabby_vec.specs.Sequence.{Sequence, with_item, with_items}
use Rattle.stabby_vec.specs.contracts.vec.sequence.Vec.{the_row}

module _ (T A : RattleType) (alloc : Ghosts A.Denot) (v : MutBor (Sequence T.Denot)) where
  -- once the borrow r ends, the items are those that r shows last
  abbrev pub lends_slice : MutBor (List T.Denot) → Fml
  lends_slice r = Lends (the_row T A alloc) (Array T 0) v r (with_items v.now)

  -- once the borrow r ends, the index has the last value written through r
  abbrev pub lends_item : ℕ → MutBor T.Denot → Fml
  lends_item index r = Lends (the_row T A alloc) T v r (with_item v.now index)
