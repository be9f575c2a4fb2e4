-- What the workers of `intern_all` leave, each by a pass of its own. No public clause cites these.
use Rattle.std.specs.Prelude.{◌≡◌, ℕ, ◌+◌, ◌*◌, ◌-◌, ◌^◌, ◌<◌, ◌≤◌, ◌⊎◌, ◌++◌, true, List, [], length, map, take, drop, slice_index, Contains, Result, Ok, Err, Vec}
use Rattle.std.specs.List.{AllByRecursion}
use mathlib.Core.List.{IsPrefix}
use Rattle.stabby_cell.specs.declared.chronicle.Chronicle.{Ghosts}
use Rattle.stabby_cell.specs.declared.pass.Pass.{Pass}
use Rattle.stabby_tables.specs.Tables.{Table}
use Rattle.stabby_tables.specs.Lists.{has, place}
use Rattle.stabby_registry.specs.declared.fault.RegistryFault.{RegistryFault}
use Rattle.stabby_registry.specs.declared.fault.RegistryFault.TheVariants.{Full, RowFull, Memory}
use Rattle.stabby_registry.specs.declared.registry.VtBtree.{VtBtree}
use Rattle.stabby_registry.specs.declared.worker.Job.{Job}
use Rattle.stabby_registry.specs.Inserts.{IsNumber}
use Rattle.stabby_registry.specs.Passes.{IsPassOf, front_of, weight_of, commits_of}

-- each of ts is in the list
abbrev pub AreIn : List Table → List Table → Type 0
AreIn front ts = AllByRecursion (λ t. has front t ≡ true) ts

-- the tables of worker k, counted from 0, where each has so many
abbrev pub share_of : List Table → ℕ → ℕ → List Table
share_of tables size k = take size (drop (k * size) tables)

-- the numbers of both, or the fault of one of them, or want of memory
abbrev pub AreTogether : {A : Type 0} → Result (Vec ℕ A) RegistryFault → Result (Vec ℕ A) RegistryFault → Result (Vec ℕ A) RegistryFault → Type 0
AreTogether (Ok a) (Ok b) (Ok c) = c.items ≡ a.items ++ b.items
AreTogether (Ok a) (Err f) (Ok c) = ⊥
AreTogether (Err f) b (Ok c) = ⊥
AreTogether a b (Err f) = (f ≡ Memory) ⊎ ((a ≡ Err f) ⊎ (b ≡ Err f))

-- v stands at some place, and only smaller numbers stand before it
abbrev pub StandsFirst : List ℕ → ℕ → Type 0
StandsFirst numbers v = (p : ℕ) × (p < length numbers) × (slice_index numbers p ≡ v) × ((q : ℕ) → q < p → slice_index numbers q < v)

-- v stands at some place, and in the share of that place only smaller numbers stand before it
pub record StandsFirstInShare (size : ℕ) (numbers : List ℕ) (v : ℕ) : Type 0 where
  pub worker : ℕ
  pub at : ℕ
  pub from : worker * size ≤ at
  pub below : at < (worker + 1) * size
  pub within : at < length numbers
  pub reads : slice_index numbers at ≡ v
  pub first : (q : ℕ) → worker * size ≤ q → q < at → slice_index numbers q < v

module _ {g : Ghosts (List Table) Table} where
  -- by the pass, a new one, the tables ts were given these numbers
  pub record HasWorked (p : Pass (List Table) Table g) (ts : List Table) (numbers : List ℕ) : Type 0 where
    pub known : AreIn (front_of p) ts
    pub numbered : numbers ≡ map (place (front_of p)) ts
    pub first : (v : ℕ) → Contains (commits_of p) v → StandsFirst numbers v
    pub few : length (commits_of p) ≤ length ts

  -- the fault says no more than the pass saw
  abbrev pub StopsFor : RegistryFault → Pass (List Table) Table g → Type 0
  StopsFor (Full front) p = 2 ^ 63 - 1 ≤ length (front_of p)
  StopsFor (RowFull claimed needed) p = ⊥
  StopsFor Memory p = Unit {0}

  -- the worker was done with the first `done` of its tables when it stopped
  pub record HasStopped (p : Pass (List Table) Table g) (ts : List Table) (fault : RegistryFault) : Type 0 where
    pub done : ℕ
    pub numbers : List ℕ
    pub worked : HasWorked p (take done ts) numbers
    pub stops : StopsFor fault p

  -- To a pass with the list `front` and these commits the passes of the first k workers were joined: p. Each new commit
  -- is of one of their tables.
  pub record AreJoined (front : List Table) (commits : List ℕ) (p : Pass (List Table) Table g) (tables : List Table) (size k : ℕ) : Type 0 where
    pub grown : IsPrefix front (front_of p)
    pub from : (v : ℕ) → Contains (commits_of p) v → Contains commits v ⊎ ((t : Table) × (has tables t ≡ true) × IsNumber (front_of p) t v)
    pub few : length (commits_of p) ≤ length commits + length (take (k * size) tables)

  -- the tables of the first k workers have these numbers
  pub record AreNumbered (commits : List ℕ) (p : Pass (List Table) Table g) (tables : List Table) (size k : ℕ) (numbers : List ℕ) : Type 0 where
    pub known : AreIn (front_of p) (take (k * size) tables)
    pub numbered : numbers ≡ map (place (front_of p)) (take (k * size) tables)
    pub first : (v : ℕ) → Contains (commits_of p) v → Contains commits v ⊎ StandsFirstInShare size numbers v

  -- the numbers of the first k workers, or why one of them stopped
  abbrev pub HaveOutcome : {A : Type 0} → List ℕ → Pass (List Table) Table g → List Table → ℕ → ℕ → Result (Vec ℕ A) RegistryFault → Type 0
  HaveOutcome commits p tables size k (Ok numbers) = AreNumbered commits p tables size k numbers.items
  HaveOutcome commits p tables size k (Err fault) = StopsFor fault p

  -- one worker's numbers, or why it stopped
  abbrev pub HasOutcome : {A : Type 0} → Pass (List Table) Table g → List Table → Result (Vec ℕ A) RegistryFault → Type 0
  HasOutcome p ts (Ok numbers) = HasWorked p ts numbers.items
  HasOutcome p ts (Err fault) = HasStopped p ts fault

-- a job before its worker begins, and once it has ended
pub record IsReady (registry : VtBtree 5) (job : Job) : Type 0 where
  pub own : IsPassOf registry job.pass
  pub fresh : commits_of job.pass ≡ []
  pub weight : weight_of job.pass ≡ 1

pub record IsDone (registry : VtBtree 5) (ts : List Table) (job : Job) : Type 0 where
  pub own : IsPassOf registry job.pass
  pub weight : weight_of job.pass ≡ 1
  pub outcome : HasOutcome job.pass ts job.outcome
