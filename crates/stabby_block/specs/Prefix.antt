-- The 32 bytes before the bytes of a block.
use Rattle.std.specs.Prelude.{◌≡◌, ℕ, ◌+◌, ◌^◌, ◌<◌, List, ◌++◌, replicate, slice_range, EachIndex, slice_index}
use Rattle.std.specs.Int.{to_le_bytes, from_le_bytes, w64}
use Rattle.stabby_layout.specs.declared.layout.Layout.{Layout}
use Rattle.stabby_layout.specs.Layouts.{next_multiple}

-- where the bytes behind a prefix begin, at this alignment
abbrev pub skip_of : ℕ → ℕ
skip_of align = next_multiple align 32

abbrev pub AllZero : List ℕ → Type 0
AllZero bytes = EachIndex bytes (λ k. slice_index bytes k ≡ 0)

-- the number of 8 bytes from `at` on, the lowest first
abbrev pub number_at : List ℕ → ℕ → ℕ
number_at bytes at = from_le_bytes w64 (slice_range bytes at (at + 8))

-- size and alignment, and 16 zero bytes
abbrev pub layout_bytes : Layout → List ℕ
layout_bytes l = to_le_bytes w64 l.size ++ (to_le_bytes w64 l.align ++ replicate 16 0)

abbrev pub LayoutFits : Layout → Type 0
LayoutFits l = (l.size < 2 ^ 64) × (l.align < 2 ^ 64)
