-- The version of a shared value is what was committed last.
use Rattle.std.proofs.Common.{◌≡◌, ◌≢◌, ◌↔◌, ◌⊎◌, inl, inr, ℕ, ◌+◌, ◌-◌, ◌<◌, ◌≤◌, max, true, false, leb, List, [], ◌∷◌, ◌++◌, length, Option, Result, IfOk, sym, refl, ap, ◌∙◌, subst, arith, length-append}
use mathlib.Core.Logic.{dite}
use native.Mathlib.Decide.{ℕ_discrete}
use Rattle.std.specs.declared.sync.Arc.{Arc}
use Rattle.std.specs.declared.alloc.Global.{Global}
use Rattle.stabby_cell.specs.declared.chronicle.Chronicle.{Ghosts}
use Rattle.stabby_cell.specs.declared.cell.TurnCell.{TurnCell}
use Rattle.stabby_cell.specs.declared.pass.Pass.{Pass}
use Rattle.stabby_cell.specs.declared.turn.Turn.{Turn}
use Rattle.stabby_cell.specs.declared.atomic.AtomicArc.{AtomicArc}
use Rattle.stabby_cell.specs.declared.atomic.Kept.{Kept}
use Rattle.stabby_cell.specs.Rule.{Reached}
use Rattle.stabby_cell.specs.Recording.{ViewAdvances}
use Rattle.stabby_cell.specs.Passes.{front_of, first_stamp_of, stamp_of, first_version_of, IsVersion, entries_before, TookTurn}
use Rattle.stabby_cell.specs.Turns.{IsTurn, GaveBack, CommitsTurn, cell_of, pass_of, version_of}
use Rattle.stabby_cell.specs.Values.{value_of, last_of, AnyNext}
use Rattle.stabby_cell.specs.Shared.{value_at, Answers, AnswersAt, DiffersNow, Exchanges}
use Rattle.stabby_cell.proofs.CallLemmas.{committed_turn}
use Rattle.stabby_cell.proofs.VisitLemmas.{same_stamp}

-- a stamp that isn't kept is before the oldest or past the newest
pub outside : (first now keep t oldest stamp : ℕ) → oldest ≡ max first (now + 1 - keep) → stamp ≡ now → (((first ≤ t) × (t ≤ now) × (now < t + keep)) → ⊥) → (t < oldest) ⊎ (stamp < t)
outside first now keep t oldest stamp is same not =
    dite (ℕ_discrete (t + 1 - oldest) 0) (λ z. inl (omega arith))
    (λ n. dite (ℕ_discrete (now + 1 - t) 0) (λ z. inr (omega arith)) (λ m. absurd (not (omega arith, omega arith, omega arith))))

module _ {T : Type 0} where
  pub reached_value : (u v : Option (Arc T Global)) (es : List (Option T)) → Reached AnyNext u es v → value_of v ≡ last_of (value_of u) es
  reached_value u v [] h = ap value_of h
  reached_value u v (e ∷ es) (w, step, rest) = reached_value w v es rest ∙ ap (λ z. last_of z es) (sym step)

  -- a copy of an older version
  pub older_value : (cell : TurnCell (Option (Arc T Global)) (Option T)) (entries : List (Option T)) (x copy : Option (Arc T Global)) → value_of copy ≡ value_of x → IsVersion AnyNext cell entries x → value_of copy ≡ last_of (value_of (first_version_of cell)) entries
  older_value cell entries x copy alike reached = alike ∙ reached_value (first_version_of cell) x entries reached

module _ {T : Type 0} {g : Ghosts (Option (Arc T Global)) (Option T)} where
  -- the value of the version that a turn has out
  turn_value : (c : AtomicArc T) (t : Turn (Option (Arc T Global)) (Option T) g) → IsTurn AnyNext t → cell_of t ≡ c.cell → value_of (version_of t) ≡ value_at c (front_of (pass_of t))
  turn_value c t turn same =
      reached_value (first_version_of c.cell) (version_of t) (front_of (pass_of t)) (subst (λ u. Reached AnyNext u (front_of (pass_of t)) (version_of t)) (ap first_version_of same) (IsTurn.version turn))

  -- a copy of the version, once the turn was given back
  pub value_read : (c : AtomicArc T) (t : Turn (Option (Arc T Global)) (Option T) g) (r : Pass (Option (Arc T Global)) (Option T) g) (x copy : Option (Arc T Global)) → value_of copy ≡ value_of x → x ≡ version_of t → IsTurn AnyNext t → cell_of t ≡ c.cell → GaveBack (pass_of t) r
      → value_of copy ≡ value_at c (front_of r)
  value_read c t r x copy alike is turn same back = alike ∙ (ap value_of is ∙ (turn_value c t turn same ∙ ap (value_at c) (sym (GaveBack.front back))))

  -- what was answered under the turn, once the turn was given back
  pub answered_at : {E : Type 0} → (c : AtomicArc T) (t : Turn (Option (Arc T Global)) (Option T) g) (r : Pass (Option (Arc T Global)) (Option T) g) (stamp : ℕ) (k : Result (Kept T) E) → IfOk k (Answers (cell_of t) (front_of (pass_of t)) (stamp_of (pass_of t)) stamp) → cell_of t ≡ c.cell
      → GaveBack (pass_of t) r → IfOk k (AnswersAt c r stamp)
  answered_at c t r stamp k h same back =
      subst (λ (now : ℕ). IfOk k (Answers c.cell (front_of r) now stamp)) (same_stamp (pass_of t) r back)
      (subst (λ f. IfOk k (Answers c.cell f (stamp_of (pass_of t)) stamp)) (sym (GaveBack.front back))
      (subst (λ z. IfOk k (Answers z (front_of (pass_of t)) (stamp_of (pass_of t)) stamp)) same h))

  pub differs_now : (c : AtomicArc T) (t : Turn (Option (Arc T Global)) (Option T) g) (r : Pass (Option (Arc T Global)) (Option T) g) (x copy : Option (Arc T Global)) (expected stamp : ℕ) → value_of copy ≡ value_of x → x ≡ version_of t → IsTurn AnyNext t → cell_of t ≡ c.cell
      → GaveBack (pass_of t) r → stamp ≡ stamp_of (pass_of t) → stamp ≢ expected → DiffersNow c r expected expected stamp copy
  differs_now c t r x copy expected stamp alike is turn same back read differs = record { expected_is = refl; stamp_is = read ∙ same_stamp (pass_of t) r back; differs = differs; current_is = value_read c t r x copy alike is turn same back }

  pub exchanged : (c : AtomicArc T) (t : Turn (Option (Arc T Global)) (Option T) g) (p q : Pass (Option (Arc T Global)) (Option T) g) (new old : Option (Arc T Global)) (expected stamp : ℕ) → TookTurn p (pass_of t) → CommitsTurn (pass_of t) q (value_of new) → IsTurn AnyNext t
      → cell_of t ≡ c.cell → value_of old ≡ value_of (version_of t) → stamp ≡ stamp_of (pass_of t) → stamp ≡ expected → Exchanges c p q expected new old
  exchanged c t p q new old expected stamp took commits turn same is read expects =
      let fronts : length (front_of q) ≡ length (front_of (pass_of t)) + 1 = ap length (CommitsTurn.front commits) ∙ length-append (front_of (pass_of t)) (value_of new ∷ []) in
      let firsts : first_stamp_of q ≡ first_stamp_of (pass_of t) = ViewAdvances.first (CommitsTurn.advances commits) in
      record {
        before = front_of (pass_of t);
        committed = committed_turn p (pass_of t) q (value_of new) took commits;
        old_is = is ∙ turn_value c t turn same;
        stamp_is = omega (arith, fronts, firsts, read, expects);
      }
