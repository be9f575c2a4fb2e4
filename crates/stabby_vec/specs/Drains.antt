-- What a contract sees of a drain.
use Rattle.std.specs.Prelude.{◌≡◌, ℕ, List, [], ◌∷◌, ◌++◌, reverse, take, drop, slice_range, Bool, if◌then◌else◌, Option, MatchOption}
use Rattle.std.specs.List.{remove_range}
use Rattle.stabby_vec.specs.Sequence.{Sequence}

-- the list without the whole range, the place where the range was, the items of the range that
-- are left to read, and the capacity of the list
pub record Draining (T : Type 0) : Type 0 where
  pub outside : List T
  pub from : ℕ
  pub left : List T
  pub capacity : ℕ

module _ {T : Type 0} where
  -- xs, the last first where b
  abbrev pub reverse_if : Bool → List T → List T
  reverse_if b xs = if b then reverse xs else xs

  -- the drain of the places from `from` to below `to`, with nothing read
  abbrev pub begun : Sequence T → ℕ → ℕ → Draining T
  begun s from to = record { outside = remove_range s.items from to; from = from; left = slice_range s.items from to; capacity = s.capacity }

  -- the list once the drain was dropped
  abbrev pub dropped : Draining T → Sequence T
  dropped d = record { items = d.outside; capacity = d.capacity }

  -- the list once the drain was stopped: the items that were not read stand where they were
  abbrev pub stopped : Draining T → Sequence T
  stopped d = record { items = take d.from d.outside ++ (d.left ++ drop d.from d.outside); capacity = d.capacity }

  -- the drain is of the same range: no read changes more than what is left to read
  pub record SameRange (old new : Draining T) : Type 0 where
    pub outside : new.outside ≡ old.outside
    pub from : new.from ≡ old.from
    pub capacity : new.capacity ≡ old.capacity

  -- the first item left was answered, and `None` exactly where nothing is left
  abbrev pub GivesFirst : Draining T → Option T → Draining T → Type 0
  GivesFirst old item new = MatchOption item ((old.left ≡ []) × (new.left ≡ [])) (λ x. old.left ≡ x ∷ new.left)

  -- the last item left was answered, and `None` exactly where nothing is left
  abbrev pub GivesLast : Draining T → Option T → Draining T → Type 0
  GivesLast old item new = MatchOption item ((old.left ≡ []) × (new.left ≡ [])) (λ x. old.left ≡ new.left ++ x ∷ [])
