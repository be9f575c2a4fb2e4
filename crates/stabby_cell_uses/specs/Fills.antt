-- What contracts say of a shared set of numbers that edits fill.
use Rattle.std.specs.Prelude.{◌≡◌, ℕ, ◌+◌, ◌<◌, take, List, length, Option, Some, None, IsSome}
use Rattle.std.specs.List.{slice_get}
use Rattle.std.specs.Ordering.{nat_cmp}
use Rattle.stabby_tree.specs.Sets.{SetValue, found, put}
use Rattle.stabby_cell.specs.declared.chronicle.Chronicle.{Ghosts}
use Rattle.stabby_cell.specs.declared.pass.Pass.{Pass}
use Rattle.stabby_cell.specs.declared.replaced.ReplacedCell.{ReplacedCell}
use Rattle.stabby_cell.specs.declared.edit.Edited.{Edited}
use Rattle.stabby_cell.specs.declared.edit.Edited.TheVariants.{Kept, Committed}
use Rattle.stabby_cell.specs.Passes as passes
use Rattle.stabby_cell.specs.Passes.{front_of, stamp_of, commits_of, Looked}
use Rattle.stabby_cell.specs.Replaced.{contents_of}
use Rattle.stabby_cell_uses.specs.Commits.{EachCommit}

-- the number among the contents, where it is there
abbrev pub number_in : SetValue ℕ → ℕ → Option ℕ
number_in contents n = found (λ k. k) nat_cmp contents.items n

abbrev pub size_of : SetValue ℕ → ℕ
size_of contents = length contents.items

-- the number was absent, and stands at its place among the others
pub record AddsOne (n : ℕ) (old new : SetValue ℕ) : Type 0 where
  pub absent : number_in old n ≡ None
  pub items : new.items ≡ put (λ k. k) nat_cmp old.items n

-- the contents with the number, or none where it is there
abbrev pub WithNumber : ℕ → SetValue ℕ → Option (SetValue ℕ) → Type 0
WithNumber n old (Some new) = AddsOne n old new
WithNumber n old None = IsSome (number_in old n)

-- the contents of the entry at place i are those just before, and one number more
pub record AddsAt (c : ReplacedCell (SetValue ℕ)) (entries : List (SetValue ℕ)) (i : ℕ) : Type 0 where
  pub number : ℕ
  pub new : SetValue ℕ
  pub stands : slice_get entries i ≡ Some new
  pub adds : AddsOne number (contents_of c (take i entries)) new

-- so is each entry
abbrev pub EachAddsOne : ReplacedCell (SetValue ℕ) → List (SetValue ℕ) → Type 0
EachAddsOne c entries = (i : ℕ) → i < length entries → AddsAt c entries i

module _ {g : Ghosts (SetValue ℕ) (SetValue ℕ)} where
  -- the edit committed the contents just before it with the number in addition, and nothing else
  pub record CommitsNumber (c : ReplacedCell (SetValue ℕ)) (p q : Pass (SetValue ℕ) (SetValue ℕ) g) (n : ℕ) : Type 0 where
    pub before : List (SetValue ℕ)
    pub new : SetValue ℕ
    pub committed : passes.Committed p q before new
    pub adds : AddsOne n (contents_of c before) new
    pub rose : stamp_of p < stamp_of q
    pub added : length (commits_of q) ≡ length (commits_of p) + 1

  -- what an edit that adds the number left
  abbrev pub AddsNumber : ReplacedCell (SetValue ℕ) → Pass (SetValue ℕ) (SetValue ℕ) g → Pass (SetValue ℕ) (SetValue ℕ) g → ℕ → Edited → Type 0
  AddsNumber c p q n (Committed stamp) = CommitsNumber c p q n × (stamp ≡ stamp_of q)
  AddsNumber c p q n (Kept stamp) = Looked p q × IsSome (number_in (contents_of c (front_of q)) n) × (stamp ≡ stamp_of q)

  -- each commit of the pass put contents with one number more into the history, at the place of its stamp
  abbrev pub AddedOnly : ReplacedCell (SetValue ℕ) → Pass (SetValue ℕ) (SetValue ℕ) g → Type 0
  AddedOnly c p = EachCommit (AddsAt c) p
