-- The value behind a version of a shared value.
use Rattle.std.specs.Prelude.{◌≡◌, List, [], ◌∷◌, Option, Some, None}
use Rattle.std.specs.Arc.{arc_value}
use Rattle.std.specs.declared.sync.Arc.{Arc}

-- the last of the values, and v where there is none
abbrev pub last_of : {V : Type 0} → V → List V → V
last_of v [] = v
last_of v (w ∷ ws) = last_of w ws

module _ {T A : Type 0} where
  abbrev pub value_of : Option (Arc T A) → Option T
  value_of (Some a) = Some (arc_value a)
  value_of None = None

  -- any value may follow
  abbrev pub AnyNext : Option (Arc T A) → Option T → Option (Arc T A) → Type 0
  AnyNext old e new = e ≡ value_of new
