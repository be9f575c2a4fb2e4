-- The prefix of an array, and the block that has one.
use Rattle.std.specs.Prelude.{ℕ, ◌+◌, ◌-◌, ◌*◌, ◌^◌, ◌<◌, ◌≤◌, max, List, ◌++◌, replicate, ◌⊎◌}
use Rattle.std.specs.Int.{to_le_bytes, w64}
use Rattle.stabby_layout.specs.declared.layout.Layout.{Layout}
use Rattle.stabby_block.specs.declared.array.AllocPrefix.{AllocPrefix}
use Rattle.stabby_block.specs.declared.block.BlockFault.{BlockFault}
use Rattle.stabby_block.specs.declared.block.BlockFault.TheVariants.{ZeroSize, Range, OverLimit, Exhausted, Memory}
use Rattle.stabby_block.specs.Blocks.{Held, Due}
use Rattle.stabby_block.specs.Prefix.{skip_of, number_at}

-- the four numbers, in order
abbrev pub prefix_bytes : AllocPrefix → List ℕ
prefix_bytes p = to_le_bytes w64 p.strong ++ (to_le_bytes w64 p.weak ++ (to_le_bytes w64 p.capacity ++ to_le_bytes w64 p.origin))

abbrev pub prefix_of : List ℕ → AllocPrefix
prefix_of bytes = record { strong = number_at bytes 0; weak = number_at bytes 8; capacity = number_at bytes 16; origin = number_at bytes 24 }

abbrev pub PrefixFits : AllocPrefix → Type 0
PrefixFits p = (p.strong < 2 ^ 64) × (p.weak < 2 ^ 64) × (p.capacity < 2 ^ 64) × (p.origin < 2 ^ 64)

-- the layout of an array of n items of this layout behind a prefix
abbrev pub array_layout : Layout → ℕ → Layout
array_layout item n = record { size = skip_of item.align + item.size * n; align = max 8 item.align }

-- one strong and one weak handle, n items, in the block of that number
abbrev pub first_prefix : ℕ → ℕ → AllocPrefix
first_prefix n number = record { strong = 1; weak = 1; capacity = n; origin = number }

-- a new block of this layout that begins with the prefix, and is zero behind it
abbrev pub prefixed : Layout → AllocPrefix → Held
prefixed l p = record { layout = l; bytes = prefix_bytes p ++ replicate (l.size - 32) 0 }

-- `Range` where the size is beyond `usize::MAX`, else what the heap refuses of the array's layout
abbrev pub array_due : Due → Layout → BlockFault → Type 0
array_due due whole Range = (2 ^ 64 ≤ whole.size) ⊎ ((whole.size < 2 ^ 64) × due whole Range)
array_due due whole ZeroSize = (whole.size < 2 ^ 64) × due whole ZeroSize
array_due due whole (OverLimit wanted left) = (whole.size < 2 ^ 64) × due whole (OverLimit wanted left)
array_due due whole Exhausted = (whole.size < 2 ^ 64) × due whole Exhausted
array_due due whole Memory = ⊥
