-- A version's rows are those after the changes that were committed.
use Rattle.std.proofs.Common.{◌≡◌, ℕ, ◌+◌, ◌-◌, List, [], ◌∷◌, ◌++◌, length, take, sym, ◌∙◌, ap, subst, arith, Result, Ok, Err, Option, Some, None}
use Rattle.std.specs.Prelude.{IfOk, IfSome, OnErr, IsTrue, nat_eq}
use Rattle.std.proofs.lemmas.List.{length-append}
use Rattle.std.proofs.lemmas.Grind.{common_steps}
use Rattle.stabby_cell.specs.Rule.{Reached}
use Rattle.stabby_cell.specs.Telling.{noted}
use Rattle.stabby_cell.specs.Recording.{ViewAdvances, commits_in}
use Rattle.stabby_cell.specs.declared.view.StepKind.TheVariants.{Commit}
use Rattle.stabby_cell.specs.declared.chronicle.Chronicle.{Ghosts}
use Rattle.stabby_cell.specs.declared.cell.TurnCell.{TurnCell}
use Rattle.stabby_cell.specs.declared.pass.Pass.{Pass}
use Rattle.stabby_cell.specs.declared.turn.Turn.{Turn}
use Rattle.stabby_cell.specs.Passes.{TookTurn, Looked, Committed, IsVersion, entries_before, front_of, stamp_of, first_stamp_of, commits_of, first_version_of, opening_stamp_of}
use Rattle.stabby_cell.specs.Turns.{IsTurn, CommitsTurn, cell_of, pass_of, version_of}
use Rattle.stabby_cell.proofs.RecordLemmas.{commits_in-append}
use Rattle.stabby_cell.proofs.CallLemmas.{committed_turn, looked_committed, looked_looked}
use Rattle.stabby_cell.proofs.VisitLemmas.{same_front}
use Rattle.stabby_index.specs.declared.row.Row.{Row}
use Rattle.stabby_index.specs.declared.row.Change.{Change}
use Rattle.stabby_index.specs.declared.version.Version.{Version}
use Rattle.stabby_index.specs.declared.index.Index.{Index}
use Rattle.stabby_index.specs.declared.apply.ApplyFault.{ApplyFault}
use Rattle.stabby_index.specs.Rows.{changed_by, rows_after, rows_at}
use Rattle.stabby_index.specs.Versions.{Follows}
use Rattle.stabby_index.specs.Applying.{Applied}

-- the relation between one version and the next
abbrev Next : Version → List Change → Version → Type 0
Next old e new = Follows old.view e new.view

pub reached_rows : (u v : Version) (es : List (List Change)) → Reached (λ old e new. Follows old.view e new.view) u es v → v.view ≡ rows_after u.view es
reached_rows u v [] e = ap (λ (w : Version). w.view) e
reached_rows u v (e ∷ es) h = reached_rows h.0 v es h.2 ∙ ap (λ rows. rows_after rows es) h.1

take_whole : {A : Type 0} (n : ℕ) (l : List A) → n ≡ length l → take n l ≡ l
take_whole n l e = grind (arith, common_steps)

-- with no rows at first, the rows after a whole front are those of its stamp
all_rows : (rows first : List Row) (front : List (List Change)) (s t : ℕ) → rows ≡ rows_after first front → first ≡ [] → s ≡ t + length front → t ≡ 0 → rows ≡ rows_at front s
all_rows rows first front s t is empty stamp zero = is ∙ (ap (λ f. rows_after f front) empty ∙ ap (rows_after []) (sym (take_whole s front (omega arith))))

some_rows : (rows first : List Row) (front : List (List Change)) (s t : ℕ) → rows ≡ rows_after first (take (s - t) front) → first ≡ [] → t ≡ 0 → rows ≡ rows_at front s
some_rows rows first front s t is empty zero = let e : s - t ≡ s = omega arith in is ∙ (ap (λ f. rows_after f (take (s - t) front)) empty ∙ ap (λ n. rows_after [] (take n front)) e)

pub same_number : (a b : ℕ) → IsTrue (nat_eq a b) → a ≡ b
same_number a b h = grind (arith)

-- a fact of what was found
pub in_found : {X : Type 0} (P Q : List Row → Type 0) → ((v : List Row) → P v → Q v) → (r : Result (Option (List Row)) X) → IfOk r (λ f. IfSome f P) → IfOk r (λ f. IfSome f Q)
in_found P Q step (Ok (Some v)) h = step v h
in_found P Q step (Ok None) h = h
in_found P Q step (Err e) h = h

module _ {g : Ghosts Version (List Change)} where
  -- the stamp of an index is how many commits there are
  pub counts : (index : Index) (p : Pass Version (List Change) g) (s : ℕ) → first_stamp_of p ≡ opening_stamp_of index.cell → s ≡ stamp_of p → s ≡ length (front_of p)
  counts index p s first stamp = let zero : first_stamp_of p ≡ 0 = first ∙ index.zero in omega (arith, zero, stamp)

  -- the same of a turn's
  pub turn_counts : (index : Index) (t : Turn Version (List Change) g) (s : ℕ) → IsTurn (λ old e new. Follows old.view e new.view) t → cell_of t ≡ index.cell → s ≡ stamp_of (pass_of t) → s ≡ length (front_of (pass_of t))
  turn_counts index t s turn same stamp = counts index (pass_of t) s (IsTurn.first_is turn ∙ ap opening_stamp_of same) stamp

  -- the version that a turn has out has the rows of its stamp
  pub turn_rows : (index : Index) (t : Turn Version (List Change) g) (s : ℕ) → IsTurn (λ old e new. Follows old.view e new.view) t → cell_of t ≡ index.cell → s ≡ stamp_of (pass_of t) → (version_of t).view ≡ rows_at (front_of (pass_of t)) s
  turn_rows index t s turn same stamp =
      all_rows (version_of t).view (first_version_of (cell_of t)).view (front_of (pass_of t)) s (first_stamp_of (pass_of t))
      (reached_rows (first_version_of (cell_of t)) (version_of t) (front_of (pass_of t)) (IsTurn.version turn))
      (ap (λ (c : TurnCell Version (List Change)). (first_version_of c).view) same ∙ index.empty) stamp (IsTurn.first_is turn ∙ (ap opening_stamp_of same ∙ index.zero))

  -- and the kept ones have those of theirs
  pub kept_rows : (index : Index) (t : Turn Version (List Change) g) (s : ℕ) (view : List Row) → cell_of t ≡ index.cell
      → ((v : Version) × IsVersion (λ old e new. Follows old.view e new.view) (cell_of t) (entries_before (cell_of t) (front_of (pass_of t)) s) v × (view ≡ v.view)) → view ≡ rows_at (front_of (pass_of t)) s
  kept_rows index t s view same h =
      some_rows view (first_version_of (cell_of t)).view (front_of (pass_of t)) s (opening_stamp_of (cell_of t))
      (h.2 ∙ reached_rows (first_version_of (cell_of t)) h.0 (entries_before (cell_of t) (front_of (pass_of t)) s) h.1)
      (ap (λ (c : TurnCell Version (List Change)). (first_version_of c).view) same ∙ index.empty) (ap opening_stamp_of same ∙ index.zero)

  committed_added : (p q : Pass Version (List Change) g) (before : List (List Change)) (e : List Change) → Committed p q before e → length (commits_of q) ≡ length (commits_of p) + 1
  committed_added p q before e c =
      let n = first_stamp_of p + length before in
      let m : commits_in (Committed.steps c ++ noted Commit n ∷ []) ≡ n ∷ [] = commits_in-append (Committed.steps c) (noted Commit n ∷ []) ∙ ap (λ l. l ++ n ∷ []) (Committed.no_other c) in
      ap length (ViewAdvances.commits (Committed.advances c) ∙ ap (λ l. commits_of p ++ l) m) ∙ length-append (commits_of p) (n ∷ [])

  -- a turn that ended with the commit of these changes
  pub applied : (p q r : Pass Version (List Change) g) (made changes : List Change) (expect : Option ℕ) (s : ℕ) → TookTurn p q → CommitsTurn q r made → made ≡ changes → s ≡ stamp_of q → s ≡ length (front_of q) → ((e : ℕ) → expect ≡ Some e → e ≡ s) → Applied p r changes expect (s + 1)
  applied p q r made changes expect s took commits is stamp count expected =
      let c : Committed p r (front_of q) changes = subst (Committed p r (front_of q)) is (committed_turn p q r made took commits) in
      record {
        earlier = front_of q;
        committed = c;
        added = committed_added p r (front_of q) changes c;
        stamp_is = let first = ViewAdvances.first (CommitsTurn.advances commits) in let longer = ap length (CommitsTurn.front commits) ∙ length-append (front_of q) (made ∷ []) in omega arith;
        count = let longer = ap length (CommitsTurn.front commits) ∙ length-append (front_of q) (made ∷ []) in omega arith;
        expected = λ e h. ap (λ n. n + 1) (sym (expected e h));
      }

  -- a call that looked before
  pub looked_applied : (p q r : Pass Version (List Change) g) (changes : List Change) (expect : Option ℕ) (s : ℕ) → Looked p q → Applied q r changes expect s → Applied p r changes expect s
  looked_applied p q r changes expect s l a =
      let c : Committed p r (Applied.earlier a) changes = looked_committed p q r (Applied.earlier a) changes l (Applied.committed a) in
      record {
        earlier = Applied.earlier a;
        committed = c;
        added = committed_added p r (Applied.earlier a) changes c;
        stamp_is = Applied.stamp_is a;
        count = Applied.count a;
        expected = Applied.expected a;
      }

  -- a version that was built on the front of the pass is built on the turn's, where the stamps are the same
  pub built_on_turn : (index : Index) (p : Pass Version (List Change) g) (t : Turn Version (List Change) g) (view : List Row) (changes : List Change) (base s : ℕ)
      → TookTurn p (pass_of t) → IsTurn (λ old e new. Follows old.view e new.view) t → cell_of t ≡ index.cell → base ≡ stamp_of p → s ≡ stamp_of (pass_of t) → s ≡ base
      → view ≡ changed_by (rows_at (front_of p) (stamp_of p)) changes → view ≡ changed_by (version_of t).view changes
  built_on_turn index p t view changes base s took turn cell before after same is =
      let fronts = same_front p (pass_of t) base s took before after same in
      let rows : rows_at (front_of p) (stamp_of p) ≡ (version_of t).view = ap (rows_at (front_of p)) (sym (same ∙ before)) ∙ (ap (λ f. rows_at f s) (sym fronts) ∙ sym (turn_rows index t s turn cell after)) in
      is ∙ ap (λ rows. changed_by rows changes) rows

  -- the answer of a call that looked before
  pub applied_after_look : (p q r : Pass Version (List Change) g) (made changes : List Change) (expect : Option ℕ) (answer : Result ℕ ApplyFault) → Looked p q → made ≡ changes → IfOk answer (Applied q r made expect) → IfOk answer (Applied p r changes expect)
  applied_after_look p q r made changes expect (Ok s) l is a = subst (λ cs. Applied p r cs expect s) is (looked_applied p q r made expect s l a)
  applied_after_look p q r made changes expect (Err e) l is a = a

  pub refused_after_look : (p q r : Pass Version (List Change) g) (answer : Result ℕ ApplyFault) → Looked p q → OnErr answer (Looked q r) → OnErr answer (Looked p r)
  refused_after_look p q r (Ok s) l a = a
  refused_after_look p q r (Err e) l a = looked_looked p q r l a
