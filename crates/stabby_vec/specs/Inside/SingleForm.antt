-- How a `SingleOrVec` is stored. No public clause cites this module.
use Rattle.std.specs.Prelude.{◌≡◌, List, length, Bool, true, false}
use Rattle.arrayvec.specs.ArrayVec as inline
use Rattle.stabby_vec.specs.Sequence.{Sequence, empty_with}
use Rattle.stabby_vec.specs.Singles.{Single, listed}
use Rattle.stabby_vec.specs.declared.single.parts.Slot.{Slot}
use Rattle.stabby_vec.specs.declared.single.parts.Slot.TheVariants.{Filled, Vacant}

module _ {T : Type 0} where
  -- there is an item in the value itself
  abbrev pub is_filled : Slot T → Bool
  is_filled (Filled one) = true
  is_filled Vacant = false

  -- an item in the value itself stands before the list
  abbrev pub single_view : Slot T → Sequence T → Single T
  single_view (Filled one) list = record { items = one.items; capacity = 1; inline = true }
  single_view Vacant list = listed list

  -- beside an item in the value itself no room is held
  abbrev pub IsSound : Slot T → Sequence T → Type 0
  IsSound (Filled one) list = (list ≡ empty_with 0) × (length one.items ≡ 1)
  IsSound Vacant list = Unit {0}

  -- the item in the value itself is now that of xs
  abbrev pub slot_with_items : Slot T → List T → Slot T
  slot_with_items (Filled one) xs = Filled (inline.with_items one xs)
  slot_with_items Vacant xs = Vacant
