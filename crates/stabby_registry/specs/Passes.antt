-- What contracts say of a registry's passes.
use Rattle.std.specs.Prelude.{◌≡◌, ℕ, ◌≤◌, List, []}
use mathlib.Core.List.{IsPrefix}
use Rattle.stabby_cell.specs.declared.chronicle.Chronicle.{Ghosts}
use Rattle.stabby_cell.specs.declared.pass.Pass.{Pass}
use Rattle.stabby_cell.specs.Passes as cell
pub use Rattle.stabby_cell.specs.Passes.{IsWhole, front_of, stamp_of, weight_of, lost_of, commits_of, record_of, Advances, Looked, AddedNoCommit, Committed, MissedTurn, MissedTurnAtLast, SplitOff, Joined}
use Rattle.stabby_tables.specs.Tables.{Table}
use Rattle.stabby_registry.specs.declared.registry.VtBtree.{VtBtree}

module _ {size : ℕ} {g : Ghosts (List Table) Table} where
  -- The pass belongs to the registry, and its turn isn't out. Each call that takes a pass asks it and keeps it.
  abbrev pub IsPassOf : VtBtree size → Pass (List Table) Table g → Type 0
  IsPassOf registry p = cell.IsPassOf registry.cell p

  -- an empty registry and its whole pass
  pub record IsOpening (registry : VtBtree size) (p : Pass (List Table) Table g) : Type 0 where
    pub belongs : IsPassOf registry p
    pub whole : IsWhole p
    pub empty : front_of p ≡ []
    pub none_added : commits_of p ≡ []
    pub no_steps : record_of p ≡ []
    pub none_lost : lost_of p ≡ 0

module _ {g : Ghosts (List Table) Table} where
  -- q is p some steps later: its front, its record, its commits and its count of missed turns go on from those of p
  pub record GoesOn (p q : Pass (List Table) Table g) : Type 0 where
    pub front : IsPrefix (front_of p) (front_of q)
    pub steps : IsPrefix (record_of p) (record_of q)
    pub commits : IsPrefix (commits_of p) (commits_of q)
    pub lost : lost_of p ≤ lost_of q
