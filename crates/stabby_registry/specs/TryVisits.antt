-- What the crate's own functions say of one try at a registry's turn. No public clause cites these.
use Rattle.std.specs.Prelude.{◌≡◌, ◌<◌, List, [], ◌∷◌}
use Rattle.stabby_cell.specs.declared.chronicle.Chronicle.{Ghosts}
use Rattle.stabby_cell.specs.declared.pass.Pass.{Pass}
use Rattle.stabby_cell.specs.declared.view.StepKind.TheVariants.{Take, Release, Commit}
use Rattle.stabby_cell.specs.Telling.{noted}
use Rattle.stabby_tables.specs.Tables.{Table}
use Rattle.stabby_registry.specs.Passes.{stamp_of, Advances, MissedTurn}
use Rattle.stabby_registry.specs.declared.fault.TryFault.{TryFault}
use Rattle.stabby_registry.specs.declared.fault.TryFault.TheVariants.{Busy, Moved, Full, Memory}

module _ {g : Ghosts (List Table) Table} where
  -- the pass took the turn at once and gave it back
  abbrev pub VisitedOnce : Pass (List Table) Table g → Pass (List Table) Table g → Type 0
  VisitedOnce p q = Advances p q (noted Take (stamp_of q) ∷ noted Release (stamp_of q) ∷ [])

  -- the pass took the turn at once and committed by it
  abbrev pub CommittedOnce : Pass (List Table) Table g → Pass (List Table) Table g → Type 0
  CommittedOnce p q = Advances p q (noted Take (stamp_of p) ∷ noted Commit (stamp_of p) ∷ [])

  -- why a look-up by one try was refused
  abbrev pub IsFindFault : Pass (List Table) Table g → Pass (List Table) Table g → TryFault → Type 0
  IsFindFault p q Busy = MissedTurn p q
  IsFindFault p q (Moved from seen) = ⊥
  IsFindFault p q (Full front) = ⊥
  IsFindFault p q Memory = VisitedOnce p q

  -- why a version built on the front of p wasn't committed by one try
  abbrev pub IsOfferFault : Pass (List Table) Table g → Pass (List Table) Table g → TryFault → Type 0
  IsOfferFault p q Busy = MissedTurn p q
  IsOfferFault p q (Moved from seen) = (from ≡ stamp_of p) × (seen ≡ stamp_of q) × (from < seen) × VisitedOnce p q
  IsOfferFault p q (Full front) = ⊥
  IsOfferFault p q Memory = ⊥
