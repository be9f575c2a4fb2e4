-- The version of a cell whose commits replace it whole is what was committed last.
use Rattle.std.proofs.Common.{◌≡◌, ◌↔◌, ℕ, List, [], ◌∷◌, Option, IsSome, IfSome, sym, ap, ◌∙◌, subst, Result, Ok, Err, IfOk}
use Rattle.stabby_cell.specs.declared.chronicle.Chronicle.{Ghosts}
use Rattle.stabby_cell.specs.declared.cell.TurnCell.{TurnCell}
use Rattle.stabby_cell.specs.declared.turn.Turn.{Turn}
use Rattle.stabby_cell.specs.Rule.{Reached}
use Rattle.stabby_cell.specs.Passes.{front_of, stamp_of, first_version_of, entries_before, IsVersion, IsKept}
use Rattle.stabby_cell.specs.Turns.{IsTurn, GaveBack, KeepsStamp, cell_of, pass_of, version_of}
use Rattle.stabby_cell.specs.Values.{last_of}
use Rattle.stabby_cell.specs.declared.pass.Pass.{Pass}
use Rattle.stabby_cell.specs.declared.replaced.ReplacedCell.{ReplacedCell}
use Rattle.stabby_cell.specs.Replaced.{KeepsAt, contents_at}
use Rattle.stabby_cell.proofs.VisitLemmas.{same_stamp}

module _ {V : Type 0} (next : V → V → V → Type 0) (no_other : (old e new : V) → next old e new → e ≡ new) where
  reached_last_of : (u v : V) (es : List V) → Reached next u es v → v ≡ last_of u es
  reached_last_of u v [] h = h
  reached_last_of u v (e ∷ es) (w, step, rest) = reached_last_of w v es rest ∙ ap (λ z. last_of z es) (sym (no_other u e w step))

  -- the version that a turn has out is the contents at the front of its pass
  pub turn_contents : {g : Ghosts V V} (cell : TurnCell V V) (t : Turn V V g) → IsTurn next t → cell_of t ≡ cell → version_of t ≡ last_of (first_version_of cell) (front_of (pass_of t))
  turn_contents cell t turn same =
      reached_last_of (first_version_of cell) (version_of t) (front_of (pass_of t)) (subst (λ u. Reached next u (front_of (pass_of t)) (version_of t)) (ap first_version_of same) (IsTurn.version turn))

module _ {V : Type 0} (next : V → V → V → Type 0) (no_other : (old e new : V) → next old e new → e ≡ new) where
  -- an older version is the last of what was committed before it
  pub older_contents : (cell : TurnCell V V) (entries : List V) (v : V) → IsVersion next cell entries v → v ≡ last_of (first_version_of cell) entries
  older_contents cell entries v reached = reached_last_of next no_other (first_version_of cell) v entries reached

-- what was read of an older version under the turn, once the turn was given back
module _ {V X : Type 0} {g : Ghosts V V} (c : ReplacedCell V) (t : Turn V V g) (r : Pass V V g) (stamp : ℕ) (found : Result (Option V) X) where
  pub found_kept : IfOk found (λ x. IsSome x ↔ KeepsStamp t stamp) → cell_of t ≡ c.cell → GaveBack (pass_of t) r → IfOk found (λ x. IsSome x ↔ KeepsAt c r stamp)
  found_kept h same back =
      subst (λ (now : ℕ). IfOk found (λ x. IsSome x ↔ IsKept c.cell now stamp)) (same_stamp (pass_of t) r back)
      (subst (λ z. IfOk found (λ x. IsSome x ↔ IsKept z (stamp_of (pass_of t)) stamp)) same h)

  pub found_contents : IfOk found (λ x. IfSome x (λ v. v ≡ last_of (first_version_of (cell_of t)) (entries_before (cell_of t) (front_of (pass_of t)) stamp))) → cell_of t ≡ c.cell → GaveBack (pass_of t) r → IfOk found (λ x. IfSome x (λ v. v ≡ contents_at c (front_of r) stamp))
  found_contents h same back =
      subst (λ f. IfOk found (λ x. IfSome x (λ v. v ≡ contents_at c f stamp))) (sym (GaveBack.front back))
      (subst (λ z. IfOk found (λ x. IfSome x (λ v. v ≡ last_of (first_version_of z) (entries_before z (front_of (pass_of t)) stamp)))) same h)

-- a copy is equal
pub copied : {V X : Type 0} (same : V → V → Type 0) → ((one other : V) → same one other → other ≡ one) → (r : Result V X) (x y : V) → IfOk r (λ v. same x v) → x ≡ y → IfOk r (λ v. v ≡ y)
copied same exact (Ok v) x y h is = exact x v h ∙ is
copied same exact (Err e) x y h is = tt
