-- What holds of each commit of a pass.
use Rattle.std.specs.Prelude.{ℕ, ◌-◌, ◌<◌, List}
use Rattle.stabby_cell.specs.declared.chronicle.Chronicle.{Ghosts}
use Rattle.stabby_cell.specs.declared.pass.Pass.{Pass}
use Rattle.stabby_cell.specs.Rule.{times}
use Rattle.stabby_cell.specs.Passes.{front_of, first_stamp_of, commits_of}

module _ {V E : Type 0} {g : Ghosts V E} where
  -- it holds of the history, at the place of each commit that the pass made
  abbrev pub EachCommit : (List E → ℕ → Type 0) → Pass V E g → Type 0
  EachCommit At p = (t : ℕ) → 0 < times t (commits_of p) → At (front_of p) (t - first_stamp_of p)
