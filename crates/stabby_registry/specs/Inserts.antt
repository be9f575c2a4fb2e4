-- What an insert says of a pass: the table's number, whether the call added it, and why it was refused.
use Rattle.std.specs.Prelude.{◌≡◌, ℕ, ◌-◌, ◌^◌, ◌<◌, ◌≤◌, ◌⊎◌, true, false, List, [], ◌∷◌, ◌++◌, length, take, Some, slice_get}
use mathlib.Core.List.{IsPrefix}
use Rattle.stabby_cell.specs.declared.chronicle.Chronicle.{Ghosts}
use Rattle.stabby_cell.specs.declared.pass.Pass.{Pass}
use Rattle.stabby_cell.specs.declared.view.NotedStep.{NotedStep}
use Rattle.stabby_cell.specs.Recording.{is_read}
use Rattle.stabby_tables.specs.Tables.{Table}
use Rattle.stabby_tables.specs.Lists.{has}
use Rattle.stabby_registry.specs.declared.fault.RegistryFault.{RegistryFault}
use Rattle.stabby_registry.specs.declared.fault.RegistryFault.TheVariants as registry
use Rattle.stabby_registry.specs.declared.fault.TryFault.{TryFault}
use Rattle.stabby_registry.specs.declared.fault.TryFault.TheVariants as once
use Rattle.stabby_cell.specs.declared.fault.CellFault.{CellFault}
use Rattle.stabby_cell.specs.declared.fault.CellFault.TheVariants as read
use Rattle.stabby_registry.specs.Passes.{front_of, stamp_of, commits_of, Advances, Looked, AddedNoCommit, Committed, MissedTurn, MissedTurnAtLast}

-- the list has the table t at place n
abbrev pub IsNumber : List Table → Table → ℕ → Type 0
IsNumber front t n = slice_get front n ≡ Some t

module _ {g : Ghosts (List Table) Table} where
  -- the call added t, which was absent, at the end of the list, and n, its number, to the pass's commits
  pub record AddsTable (p q : Pass (List Table) Table g) (t : Table) (n : ℕ) : Type 0 where
    pub before : List Table
    pub grown : IsPrefix (front_of p) before
    pub committed : Committed p q before t
    pub absent : has before t ≡ false
    pub number : n ≡ length before
    pub commits : commits_of q ≡ commits_of p ++ n ∷ []

  -- the table was there and the call committed nothing, or it added the table
  abbrev pub InsertsTable : Pass (List Table) Table g → Pass (List Table) Table g → Table → ℕ → Type 0
  InsertsTable p q t n = Looked p q ⊎ AddsTable p q t n

  -- the list can't be counted further: t is absent, and the front has 2 ^ 63 - 1 tables
  pub record IsFull (p q : Pass (List Table) Table g) (t : Table) (front : ℕ) : Type 0 where
    pub absent : has (front_of q) t ≡ false
    pub length_is : front ≡ length (front_of q)
    pub last_stamp : stamp_of q ≡ 2 ^ 63 - 1
    pub looked : Looked p q

  -- why an insert was refused, and what stands
  abbrev pub IsInsertFault : Pass (List Table) Table g → Pass (List Table) Table g → Table → RegistryFault → Type 0
  IsInsertFault p q t (registry.Full front) = IsFull p q t front
  IsInsertFault p q t (registry.RowFull claimed needed) = ⊥
  IsInsertFault p q t registry.Memory = AddedNoCommit p q

  -- two steps of the call read these stamps, `first` before `second`
  pub record ReadBoth (p q : Pass (List Table) Table g) (first second : ℕ) : Type 0 where
    pub before : List NotedStep
    pub one : NotedStep
    pub between : List NotedStep
    pub other : NotedStep
    pub after : List NotedStep
    pub advances : Advances p q (before ++ one ∷ between ++ other ∷ after)
    pub one_reads : is_read one.kind ≡ true
    pub other_reads : is_read other.kind ≡ true
    pub one_stamp : one.stamp ≡ first
    pub other_stamp : other.stamp ≡ second

  -- the version was built on the first `from` tables, which lack t, and the registry has `seen` by now
  pub record HasMoved (p q : Pass (List Table) Table g) (t : Table) (from seen : ℕ) : Type 0 where
    pub not_before : length (front_of p) ≤ from
    pub longer : from < seen
    pub seen_is : seen ≡ length (front_of q)
    pub absent : has (take from (front_of q)) t ≡ false
    pub read : ReadBoth p q from seen
    pub looked : Looked p q

  -- why one try was refused, and what stands
  abbrev pub IsTryFault : Pass (List Table) Table g → Pass (List Table) Table g → Table → TryFault → Type 0
  IsTryFault p q t once.Busy = MissedTurnAtLast p q
  IsTryFault p q t (once.Moved from seen) = HasMoved p q t from seen
  IsTryFault p q t (once.Full front) = IsFull p q t front
  IsTryFault p q t once.Memory = AddedNoCommit p q

  -- why a read by one try was refused, and what stands
  abbrev pub IsReadFault : Pass (List Table) Table g → Pass (List Table) Table g → CellFault → Type 0
  IsReadFault p q read.Busy = MissedTurn p q
  IsReadFault p q read.Memory = Looked p q
