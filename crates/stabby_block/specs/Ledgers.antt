-- What a contract sees of a `Ledger`: a finite map of blocks, the next number and the limit.
use Rattle.std.specs.Prelude.{◌≡◌, ℕ, ◌+◌, ◌-◌, ◌≤◌, ◌<◌, ◌^◌, length, sum_by}
use Rattle.std.specs.Option.{option_map}
use Rattle.std.specs.Ordering.{nat_cmp}
use Rattle.std.specs.BTreeMap.{get, values}
use Rattle.stabby_layout.specs.declared.layout.Layout.{Layout}
use Rattle.stabby_block.specs.declared.block.BlockFault.{BlockFault}
use Rattle.stabby_block.specs.declared.block.BlockFault.TheVariants.{ZeroSize, Range, OverLimit, Exhausted, Memory}
use Rattle.stabby_block.specs.declared.ledger.Slot.{Slot}
use Rattle.stabby_block.specs.declared.ledger.Ledger.{Ledger}
use Rattle.stabby_block.specs.Blocks.{Held, Blocks}

abbrev pub slot_held : Slot → Held
slot_held s = record { layout = s.layout; bytes = s.bytes.items }

abbrev pub ledger_blocks : Ledger → Blocks
ledger_blocks l n = option_map slot_held (get nat_cmp l.slots n)

-- the number that the next block gets
abbrev pub next_of : Ledger → ℕ
next_of l = l.next

abbrev pub limit_of : Ledger → ℕ
limit_of l = l.limit

-- the sum of the sizes of the live blocks
abbrev pub used_of : Ledger → ℕ
used_of l = sum_by (λ s. s.layout.size) (values l.slots)

-- how many blocks are live
abbrev pub live_count : Ledger → ℕ
live_count l = length (values l.slots)

-- the next number, the used bytes and the count of live blocks
pub record HasTally (l : Ledger) (next used live : ℕ) : Type 0 where
  pub next_is : next_of l ≡ next
  pub used_is : used_of l ≡ used
  pub live_is : live_count l ≡ live

-- the faults other than want of memory, each where the ones before it aren't due
abbrev pub due_at : ℕ → ℕ → ℕ → Layout → BlockFault → Type 0
due_at limit used next layout ZeroSize = layout.size ≡ 0
due_at limit used next layout Range = ⊥
due_at limit used next layout (OverLimit wanted left) =
    (0 < layout.size) × (limit < used + layout.size) × (wanted ≡ layout.size) × (left ≡ limit - used)
due_at limit used next layout Exhausted = (0 < layout.size) × (used + layout.size ≤ limit) × (next ≡ 2 ^ 64 - 1)
due_at limit used next layout Memory = ⊥

abbrev pub ledger_due : Ledger → Layout → BlockFault → Type 0
ledger_due l = due_at (limit_of l) (used_of l) (next_of l)
