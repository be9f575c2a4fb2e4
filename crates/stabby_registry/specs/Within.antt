-- Why an insert by so many tries was refused, and what stands.
use Rattle.std.specs.Prelude.{◌≡◌, ℕ, ◌+◌, ◌≤◌, true, false, List, ◌∷◌, ◌++◌, length}
use Rattle.stabby_cell.specs.declared.chronicle.Chronicle.{Ghosts}
use Rattle.stabby_cell.specs.declared.pass.Pass.{Pass}
use Rattle.stabby_cell.specs.declared.view.NotedStep.{NotedStep}
use Rattle.stabby_cell.specs.Recording.{is_read, has_read}
use Rattle.stabby_tables.specs.Tables.{Table}
use Rattle.stabby_registry.specs.Passes.{front_of, Advances, AddedNoCommit}
use Rattle.stabby_registry.specs.Inserts.{HasMoved, IsFull}
use Rattle.stabby_registry.specs.declared.fault.TryFault.{TryFault}
use Rattle.stabby_registry.specs.declared.fault.TryFault.TheVariants.{Busy, Moved, Full, Memory}

module _ {g : Ghosts (List Table) Table} where
  -- the first of the call's takes and looks read the stamp
  pub record ReadFirst (p q : Pass (List Table) Table g) (stamp : ℕ) : Type 0 where
    pub before : List NotedStep
    pub one : NotedStep
    pub after : List NotedStep
    pub advances : Advances p q (before ++ one ∷ after)
    pub none_before : has_read before ≡ false
    pub reads : is_read one.kind ≡ true
    pub stamp_is : one.stamp ≡ stamp

  -- The last version was built on the first `from` tables, which lack t, and the registry has `seen` by now: at least as many
  -- more than the call read first as it had tries.
  pub record WasOutrun (p q : Pass (List Table) Table g) (t : Table) (tries from seen : ℕ) : Type 0 where
    pub moved : HasMoved p q t from seen
    pub first : ℕ
    pub first_read : ReadFirst p q first
    pub not_before : length (front_of p) ≤ first
    pub many : first + tries ≤ seen

  abbrev pub IsWithinFault : Pass (List Table) Table g → Pass (List Table) Table g → Table → ℕ → TryFault → Type 0
  IsWithinFault p q t tries Busy = ⊥
  IsWithinFault p q t tries (Moved from seen) = WasOutrun p q t tries from seen
  IsWithinFault p q t tries (Full front) = IsFull p q t front
  IsWithinFault p q t tries Memory = AddedNoCommit p q
