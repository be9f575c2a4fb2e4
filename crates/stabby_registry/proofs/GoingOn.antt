-- A pass goes on from what it was.
use Rattle.std.proofs.Common.{◌≡◌, ℕ, ◌+◌, List, [], ◌++◌, sym, ◌∙◌, arith, append-nil}
use mathlib.Core.List.{IsPrefix}
use Rattle.stabby_cell.specs.declared.chronicle.Chronicle.{Ghosts}
use Rattle.stabby_cell.specs.declared.pass.Pass.{Pass}
use Rattle.stabby_cell.specs.declared.view.NotedStep.{NotedStep}
use Rattle.stabby_cell.specs.Recording.{ViewAdvances, misses_in, commits_in}
use Rattle.stabby_cell.proofs.RecordLemmas.{prefix_same, prefix_trans}
use Rattle.stabby_tables.specs.Tables.{Table}
use Rattle.stabby_registry.specs.Passes.{front_of, record_of, commits_of, lost_of, Advances, Looked, SplitOff, Joined, GoesOn}

-- a list that is another with more at its end
longer : {A : Type 0} (xs ys more : List A) → ys ≡ xs ++ more → IsPrefix xs ys
longer xs ys more is = (more, sym is)

equal : {A : Type 0} (xs ys : List A) → ys ≡ xs → IsPrefix xs ys
equal xs ys is = ([], append-nil xs ∙ sym is)

module _ {g : Ghosts (List Table) Table} where
  pub goes_on_same : (p : Pass (List Table) Table g) → GoesOn p p
  goes_on_same p = record { front = prefix_same (front_of p); steps = prefix_same (record_of p); commits = prefix_same (commits_of p); lost = omega arith }

  pub goes_on_then : (p q r : Pass (List Table) Table g) → GoesOn p q → GoesOn q r → GoesOn p r
  goes_on_then p q r a b = record {
    front = prefix_trans (front_of p) (front_of q) (front_of r) (GoesOn.front a) (GoesOn.front b);
    steps = prefix_trans (record_of p) (record_of q) (record_of r) (GoesOn.steps a) (GoesOn.steps b);
    commits = prefix_trans (commits_of p) (commits_of q) (commits_of r) (GoesOn.commits a) (GoesOn.commits b);
    lost = let l = GoesOn.lost a in let m = GoesOn.lost b in omega (arith, l, m);
  }

  pub goes_on_steps : (p q : Pass (List Table) Table g) (steps : List NotedStep) → Advances p q steps → GoesOn p q
  goes_on_steps p q steps a = record {
    front = ViewAdvances.front a;
    steps = longer (record_of p) (record_of q) steps (ViewAdvances.added a);
    commits = longer (commits_of p) (commits_of q) (commits_in steps) (ViewAdvances.commits a);
    lost = let l : lost_of q ≡ lost_of p + misses_in steps = ViewAdvances.lost a in omega (arith, l);
  }

  pub goes_on_looked : (p q : Pass (List Table) Table g) → Looked p q → GoesOn p q
  goes_on_looked p q looked = goes_on_steps p q (Looked.steps looked) (Looked.advances looked)

  pub goes_on_split : (p q r : Pass (List Table) Table g) (k : ℕ) → SplitOff p q r k → GoesOn p q
  goes_on_split p q r k split = record {
    front = equal (front_of p) (front_of q) (SplitOff.front split);
    steps = longer (record_of p) (record_of q) _ (SplitOff.added split);
    commits = equal (commits_of p) (commits_of q) (SplitOff.commits split);
    lost = let l = SplitOff.lost split in omega (arith, l);
  }

  pub goes_on_joined : (p other q : Pass (List Table) Table g) → Joined p other q → IsPrefix (front_of p) (front_of q) → GoesOn p q
  goes_on_joined p other q joined front = record {
    front = front;
    steps = longer (record_of p) (record_of q) _ (Joined.added joined);
    commits = longer (commits_of p) (commits_of q) (commits_of other) (Joined.commits joined);
    lost = let l = Joined.lost joined in omega (arith, l);
  }
