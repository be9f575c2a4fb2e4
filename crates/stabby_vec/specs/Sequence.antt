-- What a contract sees of a sequence: a list with a capacity.
use Rattle.std.specs.Prelude.{◌≡◌, ℕ, ◌+◌, ◌-◌, ◌/◌, ◌<◌, ◌≤◌, ◌^◌, max, List, [], ◌∷◌, ◌++◌, length, slice_set, refl, if◌then◌else◌, ◌==◌}
use Rattle.std.specs.List.{refill}
use Rattle.std.specs.Coded.{Coded, code_by, coded×, coded_ℕ, coded_list}

-- the items in order, and how many fit before the next growth
pub record Sequence (T : Type 0) : Type 0 where
  pub items : List T
  pub capacity : ℕ

-- a sequence is stored as the pair of its fields
abbrev pub sequence_code : {T : Type 0} → Coded T → Coded (Sequence T)
sequence_code {T} of_item =
    code_by (List T × ℕ) (coded× (coded_list of_item) coded_ℕ) (λ s. (s.items, s.capacity))
    (λ p. record { items = p.0; capacity = p.1 }) (λ _. refl)

-- the greatest capacity that a sequence can have
abbrev pub GREATEST_CAPACITY : ℕ
GREATEST_CAPACITY = 2 ^ 64 - 2

-- every value has a clone that is never refused, as `is_infallible` of its type says
abbrev pub ClonesAlways : {X : Type 0} → (X → Type 0) → Type 0
ClonesAlways {X} is_infallible = (x : X) → is_infallible x

module _ {T : Type 0} where
  -- no items, and room for so many
  abbrev pub empty_with : ℕ → Sequence T
  empty_with capacity = record { items = []; capacity = capacity }

  -- the number of items
  abbrev pub sequence_len : Sequence T → ℕ
  sequence_len s = length s.items

  -- how many more items fit before the next growth
  abbrev pub spare : Sequence T → ℕ
  spare s = s.capacity - length s.items

  -- so many more items fit without a growth
  abbrev pub HasRoomFor : Sequence T → ℕ → Type 0
  HasRoomFor s more = length s.items + more ≤ s.capacity

  -- the next item needs a growth
  abbrev pub IsFull : Sequence T → Type 0
  IsFull s = length s.items ≡ s.capacity

  -- so many more items need a growth, and the capacity that would hold them is past the greatest
  abbrev pub AsksPastBound : Sequence T → ℕ → Type 0
  AsksPastBound s more = (s.capacity < length s.items + more) × (GREATEST_CAPACITY < length s.items + more)

  -- the sequence once it has room for so many more items: nothing changes where they fit
  abbrev pub with_room : Sequence T → ℕ → Sequence T
  with_room s more = record s { capacity = max s.capacity (length s.items + more) }

  -- the room that a full sequence makes before it takes one more item: 8, and later half of what it has
  abbrev pub growth : Sequence T → ℕ
  growth s = if s.capacity == 0 then 8 else max (s.capacity / 2) 1

  -- the room that a push asks for
  abbrev pub push_room : Sequence T → ℕ
  push_room s = if length s.items == s.capacity then growth s else 0

  -- the room that its next push asks for is past the greatest capacity
  abbrev pub PushPastBound : Sequence T → Type 0
  PushPastBound s = AsksPastBound s (push_room s)

  -- the sequence with x behind its items
  abbrev pub with_last : Sequence T → T → Sequence T
  with_last s x = record s { items = s.items ++ x ∷ [] }

  -- the sequence after a push of x
  abbrev pub with_pushed : Sequence T → T → Sequence T
  with_pushed s x = record { items = s.items ++ x ∷ []; capacity = s.capacity + push_room s }

  -- the sequence after a push of each item of xs
  unfoldable pub pushed : Sequence T → List T → Sequence T
  pushed s [] = s
  pushed s (x ∷ xs) = pushed (with_pushed s x) xs

  -- the sequence with the items xs in room made for all of them at once
  abbrev pub with_extended : Sequence T → List T → Sequence T
  with_extended s xs = record { items = s.items ++ xs; capacity = max s.capacity (length s.items + length xs) }

  -- the items are now those of xs, as a mutable slice can leave them
  abbrev pub with_items : Sequence T → List T → Sequence T
  with_items s xs = record s { items = refill (length s.items) s.items xs }

  -- the item at the index i is now x
  abbrev pub with_item : Sequence T → ℕ → T → Sequence T
  with_item s i x = record s { items = slice_set s.items i x }
