-- What one try says besides its answer: which steps it took, and whether another pass had a part in a refusal.
use Rattle.std.specs.Prelude.{◌≡◌, ℕ, ◌⊎◌, List, [], ◌∷◌, map, Result, Ok, Err}
use Rattle.stabby_cell.specs.declared.chronicle.Chronicle.{Ghosts}
use Rattle.stabby_cell.specs.declared.pass.Pass.{Pass}
use Rattle.stabby_cell.specs.declared.view.NotedStep.{NotedStep}
use Rattle.stabby_cell.specs.declared.view.StepKind.{StepKind}
use Rattle.stabby_cell.specs.declared.view.StepKind.TheVariants.{Take, Missed, Release, Commit}
use Rattle.stabby_cell.specs.declared.fault.CellFault.{CellFault}
use Rattle.stabby_cell.specs.declared.fault.CellFault.TheVariants as read
use Rattle.stabby_tables.specs.Tables.{Table}
use Rattle.stabby_registry.specs.Passes.{Advances}
use Rattle.stabby_registry.specs.declared.fault.TryFault.{TryFault}
use Rattle.stabby_registry.specs.declared.fault.TryFault.TheVariants.{Busy, Moved, Full, Memory}

-- no other pass had a part in the refusal
abbrev pub IsOwnFault : TryFault → Type 0
IsOwnFault Busy = ⊥
IsOwnFault (Moved from seen) = ⊥
IsOwnFault (Full front) = Unit {0}
IsOwnFault Memory = Unit {0}

module _ {g : Ghosts (List Table) Table} where
  -- from p to q the pass took steps of these kinds, in order, and no others
  pub record TookSteps (p q : Pass (List Table) Table g) (kinds : List StepKind) : Type 0 where
    pub steps : List NotedStep
    pub advances : Advances p q steps
    pub are : map (λ (s : NotedStep). s.kind) steps ≡ kinds

  -- The steps of one try to insert. The turn is tried once to look the table up and at most once more to commit; a missed
  -- turn is the last step, and nothing is split off, joined or tried again.
  abbrev pub HasTriedInsert : Pass (List Table) Table g → Pass (List Table) Table g → Result ℕ TryFault → Type 0
  HasTriedInsert p q (Ok number) = TookSteps p q (Take ∷ Release ∷ []) ⊎ TookSteps p q (Take ∷ Release ∷ Take ∷ Commit ∷ [])
  HasTriedInsert p q (Err Busy) = TookSteps p q (Missed ∷ []) ⊎ TookSteps p q (Take ∷ Release ∷ Missed ∷ [])
  HasTriedInsert p q (Err (Moved from seen)) = TookSteps p q (Take ∷ Release ∷ Take ∷ Release ∷ [])
  HasTriedInsert p q (Err (Full front)) = TookSteps p q (Take ∷ Release ∷ [])
  HasTriedInsert p q (Err Memory) = TookSteps p q (Take ∷ Release ∷ [])

  -- the steps of one try to read
  abbrev pub HasTriedRead : {A : Type 0} → Pass (List Table) Table g → Pass (List Table) Table g → Result A CellFault → Type 0
  HasTriedRead p q (Ok version) = TookSteps p q (Take ∷ Release ∷ [])
  HasTriedRead p q (Err read.Busy) = TookSteps p q (Missed ∷ [])
  HasTriedRead p q (Err read.Memory) = TookSteps p q (Take ∷ Release ∷ [])
