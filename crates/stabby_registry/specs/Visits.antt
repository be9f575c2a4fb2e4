-- What the crate's own functions say of a visit to a registry's version. No public clause cites these.
use Rattle.std.specs.Prelude.{◌≡◌, ℕ, ◌-◌, ◌^◌, ◌<◌, ◌≤◌, false, List, length, Option, Some, None}
use Rattle.stabby_cell.specs.declared.chronicle.Chronicle.{Ghosts}
use Rattle.stabby_cell.specs.declared.pass.Pass.{Pass}
use Rattle.stabby_tables.specs.Tables.{Table}
use Rattle.stabby_tables.specs.Lists.{has, IsDistinct}
use Rattle.stabby_registry.specs.Catalog.{last_table}
use Rattle.stabby_registry.specs.Inserts.{IsNumber, IsFull}
use Rattle.stabby_registry.specs.Passes.{front_of, stamp_of, Looked, AddedNoCommit, Committed}
use Rattle.stabby_cell.specs.Visits.{Visited}
use Rattle.stabby_registry.specs.declared.catalog.Found.{Found}
use Rattle.stabby_registry.specs.declared.catalog.Found.TheVariants.{Known, Absent, Full}
use Rattle.stabby_registry.specs.declared.fault.TryFault.{TryFault}
use Rattle.stabby_registry.specs.declared.fault.TryFault.TheVariants as once
use Rattle.stabby_registry.specs.declared.insert_within.Tried.{Tried}
use Rattle.stabby_registry.specs.declared.insert_within.Tried.TheVariants as tried

-- what the version has of the table
abbrev pub HasFound : {size : ℕ} → List Table → Table → Found size → Type 0
HasFound front t (Known n) = IsNumber front t n
HasFound front t (Absent version) = (has front t ≡ false) × (version ≡ front) × (length front < 2 ^ 63 - 1)
HasFound front t Full = (has front t ≡ false) × (2 ^ 63 - 1 ≤ length front)

-- the version was committed on the front of p, or another came between, of which this is a copy
abbrev pub HasOffered : {g : Ghosts (List Table) Table} → Pass (List Table) Table g → Pass (List Table) Table g → List Table → Option (List Table) → Type 0
HasOffered p q next None = Committed p q (front_of p) (last_table next)
HasOffered p q next (Some newer) = Visited p q × (stamp_of p < stamp_of q) × IsDistinct (front_of q) × (newer ≡ front_of q)

-- the table was committed on the front of p, or another came between, and the version now has the table or lacks it
abbrev pub HasTriedOn : {size : ℕ} {g : Ghosts (List Table) Table} → Pass (List Table) Table g → Pass (List Table) Table g → Table → Tried size → Type 0
HasTriedOn p q t (tried.Added n) = Committed p q (front_of p) t × (n ≡ length (front_of p))
HasTriedOn p q t (tried.Known n) = Looked p q × IsDistinct (front_of q) × IsNumber (front_of q) t n
HasTriedOn p q t (tried.Outrun version) = Visited p q × (stamp_of p < stamp_of q) × IsDistinct (front_of q) × (has (front_of q) t ≡ false) × (version ≡ front_of q) × (length (front_of q) < 2 ^ 63 - 1)

-- why one of several tries was refused
abbrev pub IsTriedFault : {g : Ghosts (List Table) Table} → Pass (List Table) Table g → Pass (List Table) Table g → Table → TryFault → Type 0
IsTriedFault p q t once.Busy = ⊥
IsTriedFault p q t (once.Moved from seen) = ⊥
IsTriedFault p q t (once.Full front) = IsFull p q t front
IsTriedFault p q t once.Memory = AddedNoCommit p q
