-- How the blocks of a `RustAlloc` stand in those of the heap below.
use Rattle.std.specs.Prelude.{◌≡◌, ℕ, zero, suc, ◌+◌, ◌-◌, ◌^◌, ◌≤◌, ◌<◌, max, List, drop, slice_range, Option, Some, None, Bool, ◌&&◌, if◌then◌else◌, nat_eq, ◌⊎◌}
use Rattle.std.specs.Option.{option_and_then}
use Rattle.std.specs.Cmp.Lexicographic.{pointwise}
use Rattle.stabby_layout.specs.declared.layout.Layout.{Layout}
use Rattle.stabby_block.specs.declared.block.BlockFault.{BlockFault}
use Rattle.stabby_block.specs.declared.block.BlockFault.TheVariants.{ZeroSize, Range, OverLimit, Exhausted, Memory}
use Rattle.stabby_block.specs.Blocks.{Held, Blocks, Due}
use Rattle.stabby_block.specs.Prefix.{skip_of, layout_bytes}

-- the layout of the block below: room for the prefix, and an alignment of at least 8
abbrev pub whole_layout : Layout → Layout
whole_layout l = record { size = skip_of l.align + l.size; align = max l.align 8 }

-- the 32 bytes before a block of this alignment
abbrev pub prefix_before : Held → ℕ → List ℕ
prefix_before below align = slice_range below.bytes (skip_of align - 32) (skip_of align)

-- the block below keeps this block: its layout in the prefix, and its bytes behind that
pub record Keeps (below : Held) (h : Held) : Type 0 where
  pub aligned : 1 ≤ h.layout.align
  pub whole : below.layout ≡ whole_layout h.layout
  pub prefix : prefix_before below h.layout.align ≡ layout_bytes h.layout
  pub bytes : drop (skip_of h.layout.align) below.bytes ≡ h.bytes

-- what it would keep at this alignment, and whether it does
abbrev pub held_at : Held → ℕ → Held
held_at below a = record { layout = record { size = below.layout.size - skip_of a; align = a }; bytes = drop (skip_of a) below.bytes }

abbrev pub keeps_at : Held → ℕ → Bool
keeps_at below a =
    let whole = whole_layout (held_at below a).layout in
    nat_eq below.layout.size whole.size && (nat_eq below.layout.align whole.align
    && pointwise nat_eq (prefix_before below a) (layout_bytes (held_at below a).layout))

abbrev pub kept_up_to : Held → ℕ → Option Held
kept_up_to below zero = None
kept_up_to below (suc a) = if keeps_at below (suc a) then Some (held_at below (suc a)) else kept_up_to below a

-- the block that a block below keeps: by a law, the one h with `Keeps below h`
unfoldable pub kept : Held → Option Held
kept below = kept_up_to below below.layout.align

abbrev pub kept_blocks : Blocks → Blocks
kept_blocks blocks n = option_and_then kept (blocks n)

-- each block below keeps a block
abbrev pub AllKept : Blocks → Type 0
AllKept blocks = (n : ℕ) → kept_blocks blocks n ≡ None → blocks n ≡ None

-- what the heap below refuses of the block below
abbrev pub passed_on : Due → Layout → BlockFault → Type 0
passed_on due l f = (0 < l.size) × ((whole_layout l).size < 2 ^ 64) × due (whole_layout l) f

-- size 0, then a whole size beyond `usize::MAX`, then what the heap below refuses
abbrev pub stored_due : Due → Due
stored_due due l ZeroSize = l.size ≡ 0
stored_due due l Range = ((0 < l.size) × (2 ^ 64 ≤ (whole_layout l).size)) ⊎ passed_on due l Range
stored_due due l (OverLimit wanted left) = passed_on due l (OverLimit wanted left)
stored_due due l Exhausted = passed_on due l Exhausted
stored_due due l Memory = ⊥
