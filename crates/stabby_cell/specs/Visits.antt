-- What the crate's own functions say of a turn that was taken and given back, and of an offered version. No public clause
-- cites these.
use Rattle.std.specs.Prelude.{◌≡◌, ℕ, ◌-◌, ◌^◌, ◌<◌, List, [], ◌∷◌, ◌++◌}
use Rattle.stabby_cell.specs.declared.chronicle.Chronicle.{Ghosts}
use Rattle.stabby_cell.specs.declared.pass.Pass.{Pass}
use Rattle.stabby_cell.specs.declared.offer.Offered.{Offered}
use Rattle.stabby_cell.specs.declared.offer.Offered.TheVariants as offered
use Rattle.stabby_cell.specs.declared.replaced.ReplacedCell.{ReplacedCell}
use Rattle.stabby_cell.specs.declared.view.StepKind.TheVariants.{Take, Release}
use Rattle.stabby_cell.specs.Telling.{noted}
use Rattle.stabby_cell.specs.Recording.{misses_at}
use Rattle.stabby_cell.specs.declared.turn.Turn.{Turn}
use Rattle.stabby_cell.specs.Values.{last_of}
use Rattle.stabby_cell.specs.Turns.{cell_of, pass_of}
use Rattle.stabby_cell.specs.Passes.{Advances, Committed, front_of, stamp_of, first_version_of, entries_before}
use Rattle.stabby_cell.specs.Replaced.{contents_of}

module _ {V E : Type 0} {g : Ghosts V E} where
  -- the turn was found held some times, then taken, and given back with nothing changed
  pub record Visited (p q : Pass V E g) : Type 0 where
    pub found_held : List ℕ
    pub advances : Advances p q (misses_at found_held ++ noted Take (stamp_of q) ∷ noted Release (stamp_of q) ∷ [])

module _ {V : Type 0} {g : Ghosts V V} where
  -- of the stamp t, the contents that a turn may have
  abbrev pub contents_then : Turn V V g → ℕ → V
  contents_then turn t = last_of (first_version_of (cell_of turn)) (entries_before (cell_of turn) (front_of (pass_of turn)) t)

  -- a version with the entry e was offered on the front of p, with so many tries left
  abbrev pub HasOffered : ReplacedCell V → Pass V V g → Pass V V g → ℕ → V → Offered V → Type 0
  HasOffered c p q left e offered.Committed = Committed p q (front_of p) e
  HasOffered c p q left e (offered.Moved newer) = Visited p q × (stamp_of p < stamp_of q) × (0 < left) × (newer ≡ contents_of c (front_of q))
  HasOffered c p q left e offered.Lost = Visited p q × (stamp_of p < stamp_of q) × (left ≡ 0)
  HasOffered c p q left e offered.Full = Visited p q × (front_of q ≡ front_of p) × (stamp_of q ≡ 2 ^ 63 - 1)
  HasOffered c p q left e offered.Memory = Visited p q
