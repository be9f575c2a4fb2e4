-- What contracts say of a client, and of what a call did to it.
use Rattle.std.specs.Prelude.{◌≡◌, ◌≢◌, ℕ, zero, suc, ◌+◌, ◌^◌, ◌<◌, ◌≤◌, ◌⊎◌, List, [], ◌∷◌, ◌++◌, length, take, drop, Result, Ok, Err}
use Rattle.std.specs.Arc.{arc_value}
use mathlib.Core.List.{IsPrefix}
use Rattle.stabby_cell.specs.declared.fault.CellFault.{CellFault}
use Rattle.stabby_tables.specs.Tables.{Table}
use Rattle.stabby_registry.specs.declared.fault.TryFault.{TryFault}
use Rattle.stabby_registry.specs.declared.fault.TryFault.TheVariants as once
use Rattle.stabby_cell.specs.Telling.{noted}
use Rattle.stabby_cell.specs.declared.view.StepKind.TheVariants.{Look}
use Rattle.stabby_registry.specs.Tries.{HasTriedInsert, HasTriedRead}
use Rattle.stabby_registry.specs.Passes as pass
use Rattle.stabby_registry.specs.Inserts.{IsNumber, InsertsTable, IsTryFault, IsReadFault}
use Rattle.stabby_c.specs.declared.answer.Answer.{Answer}
use Rattle.stabby_c.specs.declared.answer.Answer.TheVariants.{Done, Memory, Busy, Moved, Full, Absent, Foreign, Light, Malformed}
use Rattle.stabby_c.specs.declared.client.Home.{Home}
use Rattle.stabby_c.specs.declared.client.Client.{Client}

-- the registry of a client, with its number
abbrev pub home_of : Client → Home
home_of c = arc_value c.home

-- the number of a client's registry
abbrev pub number_of : Client → ℕ
number_of c = (arc_value c.home).number

-- the tables that the client has seen: a prefix of the registry's list
abbrev pub front_of : Client → List Table
front_of c = pass.front_of c.pass

-- the client's part of 2 ^ 32
abbrev pub weight_of : Client → ℕ
weight_of c = pass.weight_of c.pass

-- every client of the registry but this one has ended by being joined
abbrev pub IsAlone : Client → Type 0
IsAlone c = weight_of c ≡ 2 ^ 32

-- the one client of a new registry
pub record IsNewClient (number : ℕ) (c : Client) : Type 0 where
  pub named : number_of c ≡ number
  pub opening : pass.IsOpening (home_of c).registry c.pass

-- the weight k was cut off c: d is what is left of it, and part the new client of the same registry
pub record SplitsOff (c d part : Client) (k : ℕ) : Type 0 where
  pub same : home_of d ≡ home_of c
  pub new_same : home_of part ≡ home_of c
  pub split : pass.SplitOff c.pass d.pass part.pass k
  pub not_light : (0 < k) × (k < weight_of c)

-- the client's weight can't be cut so that this much comes off
abbrev pub IsTooLight : Client → ℕ → Type 0
IsTooLight c k = (k ≡ 0) ⊎ (weight_of c ≤ k)

-- why a split was refused
abbrev pub IsSplitRefusal : Client → ℕ → Answer → Type 0
IsSplitRefusal c k Light = IsTooLight c k
IsSplitRefusal c k Memory = (0 < k) × (k < weight_of c)
IsSplitRefusal c k Done = ⊥
IsSplitRefusal c k Busy = ⊥
IsSplitRefusal c k Moved = ⊥
IsSplitRefusal c k Full = ⊥
IsSplitRefusal c k Absent = ⊥
IsSplitRefusal c k Foreign = ⊥
IsSplitRefusal c k Malformed = ⊥

-- clients whose registries have one number are of one registry
abbrev pub TellsApart : Client → Client → Type 0
TellsApart c d = number_of c ≡ number_of d → home_of c ≡ home_of d

-- the registries have different numbers, or the clients weigh more than one registry has
abbrev pub IsForeign : Client → Client → Type 0
IsForeign c d = (number_of c ≢ number_of d) ⊎ (2 ^ 32 < weight_of c + weight_of d)

-- the client `other` went into c: d
pub record JoinsClient (c other d : Client) : Type 0 where
  pub same : home_of d ≡ home_of c
  pub number : number_of c ≡ number_of other
  pub joined : pass.Joined c.pass other.pass d.pass
  pub first : IsPrefix (front_of c) (front_of d)
  pub second : IsPrefix (front_of other) (front_of d)

-- the call read the registry and added nothing
abbrev pub OnlyLooked : Client → Client → Type 0
OnlyLooked c d = pass.Looked c.pass d.pass

-- the table was there, or the call added it, once and at the end
abbrev pub AddsOrKnows : Client → Client → Table → ℕ → Type 0
AddsOrKnows c d t n = InsertsTable c.pass d.pass t n

-- why one try to insert was refused, and what stands
abbrev pub InsertFault : Client → Client → Table → TryFault → Type 0
InsertFault c d t fault = IsTryFault c.pass d.pass t fault

-- why one try to read was refused, and what stands
abbrev pub ReadFault : Client → Client → CellFault → Type 0
ReadFault c d fault = IsReadFault c.pass d.pass fault

-- the steps of one try to insert, or none where memory was wanting before the try
abbrev pub TriesInsert : Client → Client → Result ℕ TryFault → Type 0
TriesInsert c d answer = HasTriedInsert c.pass d.pass answer ⊎ ((answer ≡ Err once.Memory) × (d.pass ≡ c.pass))

-- the steps of one try to read
abbrev pub TriesRead : {A : Type 0} → Client → Client → Result A CellFault → Type 0
TriesRead c d answer = HasTriedRead c.pass d.pass answer

-- the count was read once, and was n
abbrev pub ReadsCount : Client → Client → ℕ → Type 0
ReadsCount c d n = pass.Advances c.pass d.pass (noted Look n ∷ [])

-- n tables were tried, one after another and each once, and each has a number
abbrev pub TriedEach : Client → ℕ → Client → Type 0
TriedEach c zero d = d ≡ c
TriedEach c (suc n) d = (before : Client) × TriedEach c n before × ((number : ℕ) × TriesInsert before d (Ok number))

-- `after` is `before` with the words of the table with this number in front, as many as there is room for; it has n words
pub record HasCopied (front : List Table) (number : ℕ) (before after : List ℕ) (n : ℕ) : Type 0 where
  pub table : Table
  pub is_number : IsNumber front table number
  pub words : n ≡ length table
  pub copied : after ≡ take (length before) table ++ drop n before
