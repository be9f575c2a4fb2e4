-- Items that go from the front of a row behind the others, the last first.
use Rattle.std.specs.Prelude.{◌≡◌, ℕ, ◌+◌, ◌-◌, ◌<◌, ◌≤◌, slice_index_or}
use Rattle.std.specs.Mem.Slots.{slots_items, slots_len, slots_filled, SamePlaces}
use Rattle.std.specs.Mem.Slots.Ownership.{Filled}
use Rattle.core.specs.declared.slots.Slots.{Slots}

-- the items from `count` on stand first, and those from `at` on to below `count` behind them, the last first
pub record TurnedFrom {T : Type 0} (old new : Slots T) (at count : ℕ) : Type 0 where
  pub places : SamePlaces old new
  pub filled : Filled (slots_filled new) 0 (slots_len old - at)
  pub rest : (k : ℕ) (d : T) → k < slots_len old - count → slice_index_or (slots_items new) k d ≡ slice_index_or (slots_items old) (count + k) d
  pub held : (k : ℕ) (d : T) → at ≤ k → k < count → slice_index_or (slots_items new) (slots_len old - 1 - k) d ≡ slice_index_or (slots_items old) k d
