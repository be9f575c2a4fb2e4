-- The statements of the crate's laws.
use Rattle.std.specs.Prelude.{◌≡◌, ◌↔◌, Some}
use Rattle.stabby_block.specs.Blocks.{Held}
use Rattle.stabby_block.specs.Stored.{kept, Keeps}

-- what a block below keeps is fixed by its bytes and layout
abbrev pub KeptIsKeeps : Type 0
KeptIsKeeps = (below h : Held) → (kept below ≡ Some h) ↔ Keeps below h
