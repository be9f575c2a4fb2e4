-- What a contract sees of a `SingleOrVec`.
use Rattle.std.specs.Prelude.{◌≡◌, ℕ, ◌+◌, ◌<◌, List, [], ◌∷◌, ◌++◌, length, take, Option, Some, Bool, true, false, refl, if◌then◌else◌, ◌==◌, ◌↔◌}
use Rattle.std.specs.List.{refill}
use Rattle.std.specs.Coded.{Coded, code_by, coded×, coded_ℕ, coded_bool, coded_list}
use Rattle.std.specs.Iterator.{Drains, YieldsThen}
use Rattle.stabby_layout.specs.declared.error.AllocationError.{AllocationError}
use Rattle.stabby_layout.specs.declared.error.AllocationError.TheVariants.{Range}
use Rattle.stabby_vec.specs.Sequence.{Sequence, empty_with, with_pushed, with_room, IsFull, PushPastBound}

-- the items, the capacity, and whether the one item lies in the value itself
pub record Single (T : Type 0) : Type 0 where
  pub items : List T
  pub capacity : ℕ
  pub inline : Bool

-- it is stored as the tuple of its fields
abbrev pub single_code : {T : Type 0} → Coded T → Coded (Single T)
single_code {T} of_item =
    code_by (List T × (ℕ × Bool)) (coded× (coded_list of_item) (coded× coded_ℕ coded_bool)) (λ s. (s.items, (s.capacity, s.inline)))
    (λ p. record { items = p.0; capacity = p.1.0; inline = p.1.1 }) (λ _. refl)

module _ {T : Type 0} where
  -- the form that is a `Vec`
  abbrev pub listed : Sequence T → Single T
  listed s = record { items = s.items; capacity = s.capacity; inline = false }

  -- the form with one item in the value itself
  abbrev pub alone : T → Single T
  alone x = record { items = x ∷ []; capacity = 1; inline = true }

  -- the list and the capacity, whichever the form
  abbrev pub sequence_of : Single T → Sequence T
  sequence_of s = record { items = s.items; capacity = s.capacity }

  -- after a push of x: capacity 0 becomes inline, inline becomes a `Vec` of capacity 8
  abbrev pub single_pushed : Single T → T → Single T
  single_pushed s x =
      if s.inline then record { items = s.items ++ x ∷ []; capacity = 8; inline = false }
      else (if s.capacity == 0 then alone x else listed (with_pushed (sequence_of s) x))

  -- after a push of each item of xs
  unfoldable pub single_pushed_all : Single T → List T → Single T
  single_pushed_all s [] = s
  single_pushed_all s (x ∷ xs) = single_pushed_all (single_pushed s x) xs

  -- once there is room for so many more items: inline becomes a `Vec` of exactly that capacity
  abbrev pub single_with_room : Single T → ℕ → Single T
  single_with_room s more =
      if s.inline then record { items = s.items; capacity = more + 1; inline = false } else listed (with_room (sequence_of s) more)

  -- after `truncate`: inline cut to nothing is a `Vec` of capacity 0
  abbrev pub single_truncated : Single T → ℕ → Single T
  single_truncated s len =
      if s.inline then (if len == 0 then listed (empty_with 0) else s) else record s { items = take len s.items }

  -- a copy: the same form, and as a `Vec` a capacity of the length
  abbrev pub single_copied : Single T → Single T
  single_copied s = record { items = s.items; capacity = length s.items; inline = s.inline }

  -- as a `Vec`: an inline item goes into one of capacity 8
  abbrev pub single_as_vec : Single T → Sequence T
  single_as_vec s = if s.inline then record { items = s.items; capacity = 8 } else sequence_of s

  -- the items are now those of xs, as a mutable slice can leave them
  abbrev pub single_with_items : Single T → List T → Single T
  single_with_items s xs = record s { items = refill (length s.items) s.items xs }

module _ {T I : Type 0} (steps : I → Option T → I → Type 0) (iter : I) where
  -- every item was pushed, up to the end of the iterator
  pub record SinglePushedAll (old new : Single T) : Type 0 where
    pub items : List T
    pub drained : Drains steps iter items
    pub pushed_all : new ≡ single_pushed_all old items

  -- the items before the first refused one were pushed, and `Range` says exactly that the
  -- capacity its push asked for is past the greatest; at capacity 0 no item is refused
  pub record SinglePushedUntil (old new : Single T) (error : AllocationError) : Type 0 where
    pub items : List T
    pub refused : T
    pub rest : I
    pub yielded : YieldsThen steps iter items (Some refused) rest
    pub pushed_before : new ≡ single_pushed_all old items
    pub full : IsFull (sequence_of new)
    pub above_zero : 0 < new.capacity
    pub range : error ≡ Range ↔ PushPastBound (sequence_of new)
