-- What contracts say of a registry in a row of words, of its passes, and of what a call did to a pass.
use Rattle.std.specs.Prelude.{◌≡◌, ℕ, ◌+◌, ◌≤◌}
use mathlib.Core.List.{IsPrefix}
use Rattle.stabby_row.specs.declared.pass.RowPass.{RowPass}
use Rattle.stabby_row.specs.declared.row.RowFull.{RowFull}
use Rattle.stabby_row.specs.Passes as row
pub use Rattle.stabby_row.specs.Passes.{IsWhole, front_of, weight_of, walked_of, ends_of, claims_of, marks_of, seen_at_claim_of, ends_at_claim_of, room_of, SplitOff, Joined, MadeNoClaim, MadeOneClaim, ClaimsAtMostOnce, IsClaimedBy, IsRowFull}
use Rattle.stabby_tables.specs.Tables.{Table}
use Rattle.stabby_registry.specs.declared.row.VtVec.{VtVec}
use Rattle.stabby_registry.specs.declared.fault.RegistryFault.{RegistryFault}
use Rattle.stabby_registry.specs.declared.fault.RegistryFault.TheVariants as registry

-- how many words the registry's row has
abbrev pub words_of : VtVec → ℕ
words_of registry = row.words_of registry.row

-- The pass belongs to the registry. Each call that takes a pass asks it and keeps it.
abbrev pub IsPassOf : VtVec → RowPass → Type 0
IsPassOf registry p = row.IsPassOf registry.row p

-- an empty registry of so many words, and its whole pass
abbrev pub IsOpening : ℕ → VtVec → RowPass → Type 0
IsOpening words registry p = row.IsOpening words registry.row p

-- the call read the row and claimed nothing
pub record WalksOnly (p q : RowPass) : Type 0 where
  pub weight : weight_of q ≡ weight_of p
  pub front : IsPrefix (front_of p) (front_of q)
  pub no_claim : MadeNoClaim p q

-- the call gave t the number n: it claimed words for it once at most, and loaded at most n + 1 links
pub record InsertsInRow (p q : RowPass) (t : Table) (n : ℕ) : Type 0 where
  pub weight : weight_of q ≡ weight_of p
  pub front : IsPrefix (front_of p) (front_of q)
  pub walked : walked_of q ≤ walked_of p + (n + 1)
  pub claims : ClaimsAtMostOnce p q t

-- the row has no room for t, and what stands
pub record IsRefusedByRow (p q : RowPass) (t : Table) (full : RowFull) : Type 0 where
  pub weight : weight_of q ≡ weight_of p
  pub front : IsPrefix (front_of p) (front_of q)
  pub cause : IsRowFull (room_of p) p q t full

-- why an insert was refused, and what stands
abbrev pub IsRowFault : RowPass → RowPass → Table → RegistryFault → Type 0
IsRowFault p q t (registry.Full front) = ⊥
IsRowFault p q t (registry.RowFull claimed needed) = IsRefusedByRow p q t (record { claimed = claimed; needed = needed })
IsRowFault p q t registry.Memory = q ≡ p

-- the fault of a full row
abbrev pub fault_of : RowFull → RegistryFault
fault_of full = registry.RowFull full.claimed full.needed

-- a pass knows how many words its registry's row has
abbrev pub PassesKnowTheirRoom : Type 0
PassesKnowTheirRoom = (registry : VtVec) (p : RowPass) → IsPassOf registry p → room_of p ≡ words_of registry
