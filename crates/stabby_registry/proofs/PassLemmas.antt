-- From what the parts of a call say of a registry's pass to what the whole call says.
use Rattle.std.proofs.Common.{◌≡◌, ℕ, ◌+◌, ◌≤◌, List, [], ◌∷◌, ◌++◌, length, sym, refl, ap, ◌∙◌, subst, arith, append_assoc, append-nil, length-append, take}
use mathlib.Core.List.{IsPrefix}
use Rattle.stabby_cell.specs.declared.chronicle.Chronicle.{Ghosts}
use Rattle.stabby_cell.specs.declared.cell.TurnCell.{TurnCell}
use Rattle.stabby_cell.specs.declared.pass.Pass.{Pass}
use Rattle.stabby_cell.specs.declared.view.NotedStep.{NotedStep}
use Rattle.stabby_cell.specs.declared.view.StepKind.TheVariants.{Commit}
use Rattle.stabby_cell.specs.Telling.{noted}
use Rattle.stabby_cell.specs.Recording.{ViewAdvances, commits_in}
use Rattle.std.proofs.lemmas.List.{nil_from_length}
use Rattle.stabby_cell.specs.Passes.{view_of, front_of, first_stamp_of, stamp_of, commits_of, Advances, Looked, AddedNoCommit, Committed, TookTurn, IsPassOf, IsWhole, IsEachOnce}
use Rattle.stabby_cell.proofs.RecordLemmas.{advances_trans, advances_none, commits_in-append, has_read-after}

no_commits : (a b : List NotedStep) → commits_in a ≡ [] → commits_in b ≡ [] → commits_in (a ++ b) ≡ []
no_commits a b p q = commits_in-append a b ∙ (ap (λ l. l ++ commits_in b) p ∙ q)

module _ {V E : Type 0} {g : Ghosts V E} where
  pub nothing_done : (p : Pass V E g) → AddedNoCommit p p
  nothing_done p = record { steps = []; advances = advances_none (view_of p); no_commit = refl }

  pub then_nothing : (p q r : Pass V E g) → AddedNoCommit p q → AddedNoCommit q r → AddedNoCommit p r
  then_nothing p q r a b = record {
    steps = AddedNoCommit.steps a ++ AddedNoCommit.steps b;
    advances = advances_trans (view_of p) (view_of q) (view_of r) (AddedNoCommit.steps a) (AddedNoCommit.steps b) (AddedNoCommit.advances a) (AddedNoCommit.advances b);
    no_commit = no_commits (AddedNoCommit.steps a) (AddedNoCommit.steps b) (AddedNoCommit.no_commit a) (AddedNoCommit.no_commit b);
  }

  pub then_looked : (p q r : Pass V E g) → AddedNoCommit p q → Looked q r → Looked p r
  then_looked p q r a b = record {
    steps = AddedNoCommit.steps a ++ Looked.steps b;
    advances = advances_trans (view_of p) (view_of q) (view_of r) (AddedNoCommit.steps a) (Looked.steps b) (AddedNoCommit.advances a) (Looked.advances b);
    no_commit = no_commits (AddedNoCommit.steps a) (Looked.steps b) (AddedNoCommit.no_commit a) (Looked.no_commit b);
    read = has_read-after (AddedNoCommit.steps a) (Looked.steps b) (Looked.read b);
  }

  pub then_committed : (p q r : Pass V E g) (before : List E) (e : E) → AddedNoCommit p q → Committed q r before e → Committed p r before e
  then_committed p q r before e a c =
      let first : first_stamp_of q ≡ first_stamp_of p = ViewAdvances.first (AddedNoCommit.advances a) in
      let last : List NotedStep = noted Commit (first_stamp_of p + length before) ∷ [] in
      let second : Advances q r (Committed.steps c ++ last) = subst (λ n. Advances q r (Committed.steps c ++ noted Commit (n + length before) ∷ [])) first (Committed.advances c) in
      record {
        steps = AddedNoCommit.steps a ++ Committed.steps c;
        advances = subst (Advances p r) (sym (append_assoc (AddedNoCommit.steps a) (Committed.steps c) last))
            (advances_trans (view_of p) (view_of q) (view_of r) (AddedNoCommit.steps a) (Committed.steps c ++ last) (AddedNoCommit.advances a) second);
        no_other = no_commits (AddedNoCommit.steps a) (Committed.steps c) (AddedNoCommit.no_commit a) (Committed.no_other c);
        read = has_read-after (AddedNoCommit.steps a) (Committed.steps c) (Committed.read c);
        front = Committed.front c;
      }

  -- the commits of a pass after a commit
  pub commits_after : (p q : Pass V E g) (before : List E) (e : E) → Committed p q before e → commits_of q ≡ commits_of p ++ (first_stamp_of p + length before) ∷ []
  commits_after p q before e c =
      let one : List NotedStep = noted Commit (first_stamp_of p + length before) ∷ [] in
      ViewAdvances.commits (Committed.advances c) ∙ ap (λ l. commits_of p ++ l) (commits_in-append (Committed.steps c) one ∙ ap (λ l. l ++ (first_stamp_of p + length before) ∷ []) (Committed.no_other c))

  pub front_grows : (p q : Pass V E g) → AddedNoCommit p q → IsPrefix (front_of p) (front_of q)
  front_grows p q a = ViewAdvances.front (AddedNoCommit.advances a)

-- ---- prefixes
take_front : {E : Type 0} (xs ys : List E) → take (length xs) (xs ++ ys) ≡ xs
take_front [] ys = refl
take_front (x ∷ xs) ys = ap (λ l. x ∷ l) (take_front xs ys)

pub prefix_length : {E : Type 0} (xs ys : List E) → IsPrefix xs ys → length xs ≤ length ys
prefix_length xs ys p = omega (arith, ap length p.1, length-append xs p.0)

pub prefix_whole : {E : Type 0} (xs ys : List E) → IsPrefix xs ys → length xs ≡ length ys → xs ≡ ys
prefix_whole xs ys p same =
    let none : p.0 ≡ [] = nil_from_length p.0 (omega (arith, ap length p.1, length-append xs p.0, same)) in
    sym (append-nil xs) ∙ ap (λ l. xs ++ l) (sym none) ∙ p.1

module _ {V E : Type 0} {g : Ghosts V E} where
  -- a turn that was taken at the stamp of the front found that front
  pub took_at_front : (p q : Pass V E g) (base stamp : ℕ) → TookTurn p q → base ≡ stamp_of p → stamp ≡ stamp_of q → stamp ≡ base → front_of p ≡ front_of q
  took_at_front p q base stamp t here there same =
      let a = TookTurn.advances t in
      prefix_whole (front_of p) (front_of q) (ViewAdvances.front a) (omega (arith, here, there, same, ViewAdvances.first a))

-- ---- whole passes
module _ {V E : Type 0} {g : Ghosts V E} where
  -- a whole pass made each commit of its front, so a call without one leaves it
  pub whole_stays : (cell : TurnCell V E) (p q : Pass V E g) → IsPassOf cell p → IsPassOf cell q → IsWhole p → AddedNoCommit p q → front_of q ≡ front_of p
  whole_stays cell p q own own' whole a =
      let adv = AddedNoCommit.advances a in
      let here = IsEachOnce.count (IsPassOf.knows own whole) in
      let there = IsEachOnce.count (IsPassOf.knows own' (ViewAdvances.weight adv ∙ whole)) in
      let commits = ap length (ViewAdvances.commits adv ∙ ap (λ l. commits_of p ++ l) (AddedNoCommit.no_commit a) ∙ append-nil (commits_of p)) in
      sym (prefix_whole (front_of p) (front_of q) (ViewAdvances.front adv) (omega (arith, here, there, commits, ViewAdvances.first adv)))

  -- and a commit was on that front
  pub whole_grows : (cell : TurnCell V E) (p q : Pass V E g) (before : List E) (e : E) → IsPassOf cell p → IsPassOf cell q → IsWhole p → Committed p q before e → before ≡ front_of p
  whole_grows cell p q before e own own' whole c =
      let adv = Committed.advances c in
      let here = IsEachOnce.count (IsPassOf.knows own whole) in
      let there = IsEachOnce.count (IsPassOf.knows own' (ViewAdvances.weight adv ∙ whole)) in
      let commits = ap length (commits_after p q before e c) in
      let long = ap length (Committed.front c) in
      let size : length (front_of p) ≡ length before = omega (arith, here, there, commits, long, ViewAdvances.first adv, length-append before (e ∷ []), length-append (commits_of p) ((first_stamp_of p + length before) ∷ [])) in
      let prefix = ViewAdvances.front adv in
      sym (same_front (front_of p) prefix.0 before (e ∷ []) (prefix.1 ∙ Committed.front c) size)
    where
      same_front : (xs xs' ys ys' : List E) → xs ++ xs' ≡ ys ++ ys' → length xs ≡ length ys → xs ≡ ys
      same_front xs xs' ys ys' e size = sym (take_front xs xs') ∙ ap (take (length xs)) e ∙ ap (λ n. take n (ys ++ ys')) size ∙ take_front ys ys'
