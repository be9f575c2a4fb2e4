-- What a lookup in a set gives to a closure.
use Rattle.std.specs.Prelude.{◌≡◌, option_copied, Option}
use Rattle.std.specs.Borrow.{Bor}
use Rattle.std.specs.declared.cmp.Ordering.{Ordering}
use Rattle.stabby_tree.specs.Sets.{SetValue, found}

-- P holds of what the set has with the key
abbrev pub Finds : {T K : Type 0} → (T → K) → (K → K → Ordering) → SetValue T → K → (Option (Bor T) → Type 0) → Type 0
Finds {T} key cmp contents k P = (x : Option (Bor T)) × (option_copied x ≡ found key cmp contents.items k) × P x
