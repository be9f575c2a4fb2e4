-- The versions of a shared value, and what contracts say of it.
use Rattle.std.specs.Prelude.{◌≡◌, ◌≢◌, ℕ, ◌+◌, ◌-◌, ◌^◌, ◌<◌, ◌≤◌, ◌⊎◌, List, Option, Some, None}
use Rattle.std.specs.declared.sync.Arc.{Arc}
use Rattle.std.specs.declared.alloc.Global.{Global}
use Rattle.stabby_cell.specs.declared.chronicle.Chronicle.{Ghosts}
use Rattle.stabby_cell.specs.declared.pass.Pass.{Pass}
use Rattle.stabby_cell.specs.declared.atomic.AtomicArc.{AtomicArc}
use Rattle.stabby_cell.specs.declared.atomic.IsFault.{IsFault}
use Rattle.stabby_cell.specs.declared.atomic.IsFault.TheVariants as is
use Rattle.stabby_cell.specs.declared.atomic.ExchangeFault.{ExchangeFault}
use Rattle.stabby_cell.specs.declared.atomic.ExchangeFault.TheVariants as exchange
use Rattle.stabby_cell.specs.declared.atomic.Kept.{Kept}
use Rattle.stabby_cell.specs.declared.atomic.Kept.TheVariants as kept
use Rattle.stabby_cell.specs.Values.{value_of, last_of}
use Rattle.stabby_cell.specs.Passes as passes
use Rattle.stabby_cell.specs.declared.cell.TurnCell.{TurnCell}
use Rattle.stabby_cell.specs.Passes.{Committed, front_of, stamp_of, first_version_of, oldest_kept_of, entries_before}

module _ {T : Type 0} where
  -- the value that the cell was made with
  abbrev pub first_value_of : AtomicArc T → Option T
  first_value_of c = value_of (first_version_of c.cell)

  -- how many of its last values the cell keeps
  abbrev pub keep_of : AtomicArc T → ℕ
  keep_of c = passes.keep_of c.cell

  -- the value once these have been committed: the last of them, or the first value
  abbrev pub value_at : AtomicArc T → List (Option T) → Option T
  value_at c entries = last_of (first_value_of c) entries

  -- What is answered for the stamp t where the entries have been committed and the stamp is `now`: the value of that stamp
  -- where it is kept, else the ends of the kept stamps.
  abbrev pub Answers : TurnCell (Option (Arc T Global)) (Option T) → List (Option T) → ℕ → ℕ → Kept T → Type 0
  Answers cell entries now t (kept.Version value) = (oldest_kept_of cell now ≤ t) × (t ≤ now) × (value_of value ≡ last_of (value_of (first_version_of cell)) (entries_before cell entries t))
  Answers cell entries now t (kept.NotKept oldest stamp) = (oldest ≡ oldest_kept_of cell now) × (stamp ≡ now) × ((t < oldest) ⊎ (stamp < t))

module _ {T : Type 0} {g : Ghosts (Option (Arc T Global)) (Option T)} where
  -- The pass belongs to the cell, and its turn isn't out. Each call that takes a pass asks it and keeps it.
  abbrev pub IsPassOf : AtomicArc T → Pass (Option (Arc T Global)) (Option T) g → Type 0
  IsPassOf c p = passes.IsPassOf c.cell p

  -- what is answered for the stamp t, at the end of q's front
  abbrev pub AnswersAt : AtomicArc T → Pass (Option (Arc T Global)) (Option T) g → ℕ → Kept T → Type 0
  AnswersAt c q t answer = Answers c.cell (front_of q) (stamp_of q) t answer

  -- the old value was that of the stamp expected, and the new one was committed on it
  pub record Exchanges (c : AtomicArc T) (p q : Pass (Option (Arc T Global)) (Option T) g) (expected : ℕ) (new old : Option (Arc T Global)) : Type 0 where
    pub before : List (Option T)
    pub committed : Committed p q before (value_of new)
    pub old_is : value_of old ≡ value_at c before
    pub stamp_is : stamp_of q ≡ expected + 1

  -- the stamp isn't the one expected, and this is the value
  pub record DiffersNow (c : AtomicArc T) (q : Pass (Option (Arc T Global)) (Option T) g) (expected e stamp : ℕ) (current : Option (Arc T Global)) : Type 0 where
    pub expected_is : e ≡ expected
    pub stamp_is : stamp ≡ stamp_of q
    pub differs : stamp ≢ expected
    pub current_is : value_of current ≡ value_at c (front_of q)

  -- why a comparison of the stamp failed
  abbrev pub IsNot : AtomicArc T → Pass (Option (Arc T Global)) (Option T) g → ℕ → IsFault T → Type 0
  IsNot c q expected (is.Differs e stamp current) = DiffersNow c q expected e stamp current
  IsNot c q expected is.Memory = stamp_of q ≢ expected

  -- Where a further handle is needed and there is none: of the value now, or of the old value where the cell keeps more than
  -- one.
  abbrev pub WantsHandle : AtomicArc T → Pass (Option (Arc T Global)) (Option T) g → ℕ → Type 0
  WantsHandle c q expected = (stamp_of q ≢ expected) ⊎ ((1 < keep_of c) × (stamp_of q ≡ expected) × (expected < 2 ^ 63 - 1))

  -- why an exchange was refused
  abbrev pub NotExchanged : AtomicArc T → Pass (Option (Arc T Global)) (Option T) g → ℕ → Option (Arc T Global) → ExchangeFault T → Type 0
  NotExchanged c q expected new (exchange.Differs e stamp current refused) = DiffersNow c q expected e stamp current × (refused ≡ new)
  NotExchanged c q expected new (exchange.Full refused) = (stamp_of q ≡ expected) × (expected ≡ 2 ^ 63 - 1) × (refused ≡ new)
  NotExchanged c q expected new (exchange.Memory refused) = WantsHandle c q expected × (refused ≡ new)
