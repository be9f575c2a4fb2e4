-- What contracts say of the holders of passes of a shared number.
use Rattle.std.specs.Prelude.{◌≡◌, ◌⊎◌, ℕ, ◌<◌, List, length, Option, Some, None}
use Rattle.std.specs.List.{slice_get}
use Rattle.std.specs.declared.sync.Arc.{Arc}
use Rattle.std.specs.declared.alloc.Global.{Global}
use Rattle.stabby_cell.specs.declared.chronicle.Chronicle.{Ghosts}
use Rattle.stabby_cell.specs.declared.pass.Pass.{Pass}
use Rattle.stabby_cell.specs.Passes.{stamp_of, Committed, AddedNoCommit}
use Rattle.stabby_cell_uses.specs.Commits.{EachCommit}

-- the entry at place i is this number
abbrev pub StoredAt : ℕ → List (Option ℕ) → ℕ → Type 0
StoredAt n entries i = slice_get entries i ≡ Some (Some n)

module _ {g : Ghosts (Option (Arc ℕ Global)) (Option ℕ)} where
  -- what a store of the number left: one commit and its stamp, or none
  abbrev pub StoresNumber : Pass (Option (Arc ℕ Global)) (Option ℕ) g → Pass (Option (Arc ℕ Global)) (Option ℕ) g → ℕ → Option ℕ → Type 0
  StoresNumber p q n (Some stamp) = ((before : List (Option ℕ)) × Committed p q before (Some n)) × (stamp ≡ stamp_of q)
  StoresNumber p q n None = AddedNoCommit p q

  -- each commit of the pass put this number into the history, at the place of its stamp
  abbrev pub StoredOnly : ℕ → Pass (Option (Arc ℕ Global)) (Option ℕ) g → Type 0
  StoredOnly n p = EachCommit (StoredAt n) p

-- every entry is one of the two numbers
abbrev pub HoldsOnly : ℕ → ℕ → List (Option ℕ) → Type 0
HoldsOnly a b entries = (i : ℕ) → i < length entries → StoredAt a entries i ⊎ StoredAt b entries i
