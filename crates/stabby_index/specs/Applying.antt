-- What a call that commits changes says.
use Rattle.std.specs.Prelude.{◌≡◌, ◌+◌, ◌-◌, ◌^◌, ◌<◌, ℕ, List, Option, Some, length}
use Rattle.stabby_cell.specs.declared.chronicle.Chronicle.{Ghosts}
use Rattle.stabby_cell.specs.declared.pass.Pass.{Pass}
use Rattle.stabby_cell.specs.Passes.{Committed, front_of, stamp_of, commits_of}
use Rattle.stabby_index.specs.declared.row.Change.{Change}
use Rattle.stabby_index.specs.Rows.{changed_by, rows_at}
use Rattle.stabby_index.specs.declared.version.Version.{Version}
use Rattle.stabby_index.specs.declared.apply.ApplyFault.{ApplyFault}
use Rattle.stabby_index.specs.declared.apply.ApplyFault.TheVariants.{Stale, Full, Memory}

-- where a stamp is expected, it is this one
abbrev pub IsExpected : Option ℕ → ℕ → Type 0
IsExpected expect stamp = (e : ℕ) → expect ≡ Some e → e ≡ stamp

module _ {g : Ghosts Version (List Change)} where
  -- the call made one commit, of these changes, and its stamp is the answer
  pub record Applied (p q : Pass Version (List Change) g) (changes : List Change) (expect : Option ℕ) (stamp : ℕ) : Type 0 where
    pub earlier : List (List Change)
    pub committed : Committed p q earlier changes
    pub added : length (commits_of q) ≡ length (commits_of p) + 1
    pub stamp_is : stamp ≡ stamp_of q
    pub count : stamp ≡ length (front_of q)
    pub expected : (e : ℕ) → expect ≡ Some e → stamp ≡ e + 1

  -- the stamp is the one that is expected, where one is, and there is a next one
  abbrev pub HasRoom : Pass Version (List Change) g → Option ℕ → Type 0
  HasRoom q expect = IsExpected expect (stamp_of q) × (stamp_of q < 2 ^ 63 - 1)

  -- the first of the causes that holds, of the stamp that the call read
  abbrev pub IsApplyFault : Pass Version (List Change) g → Option ℕ → ApplyFault → Type 0
  IsApplyFault q expect (Stale expected stamp) = (stamp ≡ stamp_of q) × (expect ≡ Some expected) × (expected ≡ stamp → ⊥)
  IsApplyFault q expect (Full stamp) = (stamp ≡ stamp_of q) × IsExpected expect stamp × (stamp ≡ 2 ^ 63 - 1)
  IsApplyFault q expect Memory = HasRoom q expect

  -- its rows are those that its changes make of the rows of the front
  abbrev pub IsBuiltOn : Pass Version (List Change) g → Version → Type 0
  IsBuiltOn q next = next.view ≡ changed_by (rows_at (front_of q) (stamp_of q)) next.changes
