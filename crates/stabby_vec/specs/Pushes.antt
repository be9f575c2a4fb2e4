-- What pushing the items of an iterator does.
use Rattle.std.specs.Prelude.{◌≡◌, List, Option, Some, ◌↔◌}
use Rattle.std.specs.Iterator.{Drains, YieldsThen}
use Rattle.stabby_layout.specs.declared.error.AllocationError.{AllocationError}
use Rattle.stabby_layout.specs.declared.error.AllocationError.TheVariants.{Range}
use Rattle.stabby_vec.specs.Sequence.{Sequence, pushed, IsFull, PushPastBound}

module _ {T I : Type 0} (steps : I → Option T → I → Type 0) (iter : I) where
  -- every item was pushed, up to the end of the iterator
  pub record PushedAll (old new : Sequence T) : Type 0 where
    pub items : List T
    pub drained : Drains steps iter items
    pub pushed_all : new ≡ pushed old items

  -- the items before the first refused one were pushed; that one found the sequence full, and
  -- `Range` says exactly that the capacity its push asked for is past the greatest
  pub record PushedUntil (old new : Sequence T) (error : AllocationError) : Type 0 where
    pub items : List T
    pub refused : T
    pub rest : I
    pub yielded : YieldsThen steps iter items (Some refused) rest
    pub pushed_before : new ≡ pushed old items
    pub full : IsFull new
    pub range : error ≡ Range ↔ PushPastBound new

  -- some item was refused, with those before it pushed
  abbrev pub RefusesFrom : Sequence T → AllocationError → Type 0
  RefusesFrom old error = (reached : Sequence T) × PushedUntil old reached error
