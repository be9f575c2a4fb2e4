-- What a `Box` ends as, where a `&mut` to its value is returned.
use Rattle.std.specs.Borrow.{Lends, Fml, RattleType, MutBor}
use Rattle.std.specs.declared.alloc.Allocator.{Ghosts}
use Rattle.stabby_text.specs.contracts.boxed.Box.{the_row}

module _ (T A : RattleType) (alloc : Ghosts A.Denot) (b : MutBor T.Denot) where
  -- once the borrow r ends, the box holds the last value written through r
  abbrev pub box_lends : MutBor T.Denot → Fml
  box_lends r = Lends (the_row T A alloc) T b r (λ value. value)
