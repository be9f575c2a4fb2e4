-- What a `BoxedSlice` ends as, where a `&mut` to its items is returned.
use Rattle.std.specs.Prelude.{List}
use Rattle.std.specs.Borrow.{Lends, Fml, RattleType, MutBor, Array}
use Rattle.std.specs.declared.alloc.Allocator.{Ghosts}
use Rattle.stabby_vec.specs.Sequence.{Sequence, with_items}
use Rattle.stabby_vec.specs.contracts.boxed.slice.BoxedSlice.{the_row}

module _ (T A : RattleType) (alloc : Ghosts A.Denot) (v : MutBor (Sequence T.Denot)) where
  -- once the borrow r ends, the items are those that r shows last
  abbrev pub boxed_lends_slice : MutBor (List T.Denot) → Fml
  boxed_lends_slice r = Lends (the_row T A alloc) (Array T 0) v r (with_items v.now)
