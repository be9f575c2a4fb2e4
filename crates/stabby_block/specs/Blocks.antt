-- What a contract sees of a heap: a map from the number of a block to its layout and its bytes, and the faults that are due.
use Rattle.std.specs.Prelude.{◌≡◌, ℕ, ◌+◌, ◌-◌, ◌^◌, ◌≤◌, ◌<◌, List, ◌++◌, length, take, drop, replicate, Option, Some, None, ◌==◌, if◌then◌else◌, ◌↔◌}
use Rattle.stabby_layout.specs.declared.layout.Layout.{Layout}
use Rattle.stabby_block.specs.declared.block.Block.{Block}
use Rattle.stabby_block.specs.declared.block.BlockFault.{BlockFault}

-- what a heap holds of a live block
pub record Held : Type 0 where
  pub layout : Layout
  pub bytes : List ℕ

-- the live blocks by number
abbrev pub Blocks : Type 0
Blocks = ℕ → Option Held

-- whether a fault is due for a layout
abbrev pub Due : Type 1
Due = Layout → BlockFault → Type 0

pub record IsSound (h : Held) : Type 0 where
  pub aligned : 1 ≤ h.layout.align
  pub sized : length h.bytes ≡ h.layout.size
  pub size_fits : h.layout.size < 2 ^ 64
  pub align_fits : h.layout.align < 2 ^ 64

-- from some number on no block is live
pub record HasEnd (blocks : Blocks) : Type 0 where
  pub end : ℕ
  pub none : (n : ℕ) → end ≤ n → blocks n ≡ None

-- no block is live
abbrev pub HasNone : Blocks → Type 0
HasNone blocks = (n : ℕ) → blocks n ≡ None

-- the block is live and has these bytes
abbrev pub IsHeld : Blocks → Block → List ℕ → Type 0
IsHeld blocks b bytes = blocks b.number ≡ Some (record { layout = b.layout; bytes = bytes })

abbrev pub IsLive : Blocks → Block → Type 0
IsLive blocks b = (bytes : List ℕ) × IsHeld blocks b bytes

-- a block of zero bytes
abbrev pub zeroed : Layout → Held
zeroed l = record { layout = l; bytes = replicate l.size 0 }

-- bytes with those from `at` on written over
abbrev pub written : List ℕ → ℕ → List ℕ → List ℕ
written bytes at more = take at bytes ++ (more ++ drop (at + length more) bytes)

-- the first n bytes, and zero bytes where there are fewer
abbrev pub resized : List ℕ → ℕ → List ℕ
resized bytes n = take n bytes ++ replicate (n - length bytes) 0

abbrev pub resized_layout : Layout → ℕ → Layout
resized_layout l n = record { size = n; align = l.align }

-- new is old, but for the block n
abbrev pub ChangesAt : Blocks → Blocks → ℕ → Option Held → Type 0
ChangesAt old new n h = (q : ℕ) → new q ≡ (if q == n then h else old q)

-- new is old, but that the block n is gone and the block m is new
abbrev pub MovesTo : Blocks → Blocks → ℕ → ℕ → Held → Type 0
MovesTo old new n m h = (q : ℕ) → new q ≡ (if q == m then Some h else (if q == n then None else old q))

abbrev pub SameBlocks : Blocks → Blocks → Type 0
SameBlocks old new = (q : ℕ) → new q ≡ old q

abbrev pub SameDue : Due → Due → Type 0
SameDue old new = (l : Layout) (f : BlockFault) → new l f ↔ old l f
