-- From what the two turns of one try say of a pass to what the whole try says.
use Rattle.std.proofs.Common.{◌≡◌, ◌≢◌, ℕ, ◌+◌, ◌^◌, ◌<◌, ◌≤◌, List, [], ◌∷◌, ◌++◌, length, take, false, sym, refl, ap, ◌∙◌, subst, arith, append-nil, take_at, inl, inr, Err}
use mathlib.Core.List.{IsPrefix}
use Rattle.stabby_cell.specs.declared.chronicle.Chronicle.{Ghosts}
use Rattle.stabby_cell.specs.declared.pass.Pass.{Pass}
use Rattle.stabby_cell.specs.declared.view.StepKind.TheVariants.{Take, Missed, Release, Commit}
use Rattle.stabby_cell.specs.Telling.{noted}
use Rattle.stabby_cell.specs.Recording.{ViewAdvances}
use Rattle.stabby_cell.specs.Passes.{view_of, front_of, first_stamp_of, stamp_of, weight_of, commits_of, opening_stamp_of, IsWhole, IsEachOnce, IsPassOf, Advances, Looked, MissedTurn, MissedTurnAtLast}
use Rattle.stabby_cell.specs.Turns.{GaveBack, CommitsTurn}
use Rattle.stabby_cell.proofs.CallLemmas.{no_commit_looked, looked_looked, missed_at_last}
use Rattle.stabby_cell.proofs.RecordLemmas.{advances_trans, advances_none}
use Rattle.stabby_tables.specs.Tables.{Table}
use Rattle.stabby_tables.specs.Lists.{has}
use Rattle.stabby_registry.specs.declared.registry.VtBtree.{VtBtree}
use Rattle.stabby_registry.specs.declared.fault.TryFault.{TryFault}
use Rattle.stabby_registry.specs.declared.fault.TryFault.TheVariants.{Busy, Moved, Full, Memory}
use Rattle.stabby_registry.specs.Inserts.{HasMoved, IsTryFault}
use Rattle.stabby_registry.specs.Tries.{IsOwnFault, TookSteps, HasTriedInsert}
use Rattle.stabby_registry.specs.TryVisits.{VisitedOnce, CommittedOnce, IsFindFault, IsOfferFault}
use Rattle.stabby_registry.proofs.PassLemmas.{prefix_length}
use Rattle.stabby_registry.proofs.Inserting.{first_zero}

module _ {g : Ghosts (List Table) Table} where
  -- a turn that was taken by one try and given back
  pub visited_once : (p q r : Pass (List Table) Table g) → Advances p q (noted Take (stamp_of q) ∷ []) → GaveBack q r → VisitedOnce p r
  visited_once p q r a b =
      let fronts : length (front_of r) ≡ length (front_of q) = ap length (GaveBack.front b) in
      let firsts : first_stamp_of r ≡ first_stamp_of q = ViewAdvances.first (GaveBack.advances b) in
      let same : stamp_of q ≡ stamp_of r = omega (arith, fronts, firsts) in
      subst (λ (k : ℕ). Advances p r (noted Take k ∷ noted Release k ∷ [])) same
      (advances_trans (view_of p) (view_of q) (view_of r) (noted Take (stamp_of q) ∷ []) (noted Release (stamp_of q) ∷ []) a (GaveBack.advances b))

  -- giving the turn back leaves the stamp
  pub same_stamp : (q r : Pass (List Table) Table g) (seen : ℕ) → seen ≡ stamp_of q → GaveBack q r → seen ≡ stamp_of r
  same_stamp q r seen is b =
      let fronts : length (front_of r) ≡ length (front_of q) = ap length (GaveBack.front b) in
      let firsts : first_stamp_of r ≡ first_stamp_of q = ViewAdvances.first (GaveBack.advances b) in
      omega (arith, fronts, firsts, is)

  -- a stamp that differs from the front's is greater
  pub grew_between : (p q : Pass (List Table) Table g) (base seen : ℕ) → base ≡ stamp_of p → seen ≡ stamp_of q → Advances p q (noted Take (stamp_of q) ∷ []) → seen ≢ base → base < seen
  grew_between p q base seen before after a differs =
      let firsts : first_stamp_of q ≡ first_stamp_of p = ViewAdvances.first a in
      let not_shorter : length (front_of p) ≤ length (front_of q) = prefix_length (front_of p) (front_of q) (ViewAdvances.front a) in
      omega (arith, before, after, firsts, not_shorter, differs)

  pub visit_looked : (p q : Pass (List Table) Table g) → VisitedOnce p q → Looked p q
  visit_looked p q v = record { steps = noted Take (stamp_of q) ∷ noted Release (stamp_of q) ∷ []; advances = v; no_commit = refl; read = refl }

  missed_first : (p q : Pass (List Table) Table g) → MissedTurn p q → MissedTurnAtLast p q
  missed_first p q m = missed_at_last p p q [] (advances_none (view_of p)) refl refl refl m

  missed_after_visit : (p q r : Pass (List Table) Table g) → VisitedOnce p q → MissedTurn q r → MissedTurnAtLast p r
  missed_after_visit p q r v m = missed_at_last p q r (noted Take (stamp_of q) ∷ noted Release (stamp_of q) ∷ []) v refl refl refl m

  -- a look-up that was refused is the whole try
  pub find_refused : (p q : Pass (List Table) Table g) (t : Table) (f : TryFault) → IsFindFault p q f → IsTryFault p q t f
  find_refused p q t Busy h = missed_first p q h
  find_refused p q t (Moved from seen) h = absurd h
  find_refused p q t (Full front) h = absurd h
  find_refused p q t Memory h = no_commit_looked p q (visit_looked p q h)

module _ {size : ℕ} {g : Ghosts (List Table) Table} where
  has_moved : (registry : VtBtree size) (p q r : Pass (List Table) Table g) (t : Table) (from seen : ℕ) → opening_stamp_of registry.cell ≡ 0 → IsPassOf registry.cell q → VisitedOnce p q → has (front_of q) t ≡ false
      → (from ≡ stamp_of q) × (seen ≡ stamp_of r) × (from < seen) × VisitedOnce q r → HasMoved p r t from seen
  has_moved registry p q r t from seen zero own visited absent (from_is, seen_is, grew, again) =
      let first : first_stamp_of q ≡ 0 = first_zero registry q zero own in
      let same_first : first_stamp_of r ≡ first_stamp_of q = ViewAdvances.first again in
      let longer : IsPrefix (front_of q) (front_of r) = ViewAdvances.front again in
      let not_shorter : length (front_of p) ≤ length (front_of q) = prefix_length (front_of p) (front_of q) (ViewAdvances.front visited) in
      let count : length (front_of q) ≡ from = omega (arith, first, from_is) in
      let taken : take from (front_of r) ≡ front_of q = ap (take from) (sym longer.1) ∙ take_at (front_of q) longer.0 from count in
      record {
        not_before = omega (arith, not_shorter, count);
        longer = grew;
        seen_is = omega (arith, first, same_first, seen_is);
        absent = subst (λ f. has f t ≡ false) (sym taken) absent;
        read = record {
          before = [];
          one = noted Take (stamp_of q);
          between = noted Release (stamp_of q) ∷ [];
          other = noted Take (stamp_of r);
          after = noted Release (stamp_of r) ∷ [];
          advances = advances_trans (view_of p) (view_of q) (view_of r) (noted Take (stamp_of q) ∷ noted Release (stamp_of q) ∷ []) (noted Take (stamp_of r) ∷ noted Release (stamp_of r) ∷ []) visited again;
          one_reads = refl;
          other_reads = refl;
          one_stamp = sym from_is;
          other_stamp = sym seen_is;
        };
        looked = looked_looked p q r (visit_looked p q visited) (visit_looked q r again);
      }

  -- the second turn of a try was refused
  pub offer_refused : (registry : VtBtree size) (p q r : Pass (List Table) Table g) (t : Table) (f : TryFault) → opening_stamp_of registry.cell ≡ 0 → IsPassOf registry.cell q → VisitedOnce p q → has (front_of q) t ≡ false
      → IsOfferFault q r f → IsTryFault p r t f
  offer_refused registry p q r t Busy zero own visited absent h = missed_after_visit p q r visited h
  offer_refused registry p q r t (Moved from seen) zero own visited absent h = has_moved registry p q r t from seen zero own visited absent h
  offer_refused registry p q r t (Full front) zero own visited absent h = absurd h
  offer_refused registry p q r t Memory zero own visited absent h = absurd h

  -- A whole pass made every commit, so a call that added none leaves its front.
  pub own_if_whole : (registry : VtBtree size) (p q : Pass (List Table) Table g) (t : Table) (f : TryFault) → IsPassOf registry.cell p → IsPassOf registry.cell q → IsTryFault p q t f → IsWhole p → IsOwnFault f
  own_if_whole registry p q t Busy own still h whole = let light : weight_of p < 2 ^ 32 = MissedTurnAtLast.not_whole h in absurd (omega (arith, light, whole))
  own_if_whole registry p q t (Moved from seen) own still h whole =
      let looked : Looked p q = HasMoved.looked h in
      let same : commits_of q ≡ commits_of p = ViewAdvances.commits (Looked.advances looked) ∙ (ap (λ l. commits_of p ++ l) (Looked.no_commit looked) ∙ append-nil (commits_of p)) in
      let counts : length (commits_of q) ≡ length (commits_of p) = ap length same in
      let firsts : first_stamp_of q ≡ first_stamp_of p = ViewAdvances.first (Looked.advances looked) in
      let whole_still : IsWhole q = ViewAdvances.weight (Looked.advances looked) ∙ whole in
      let before : first_stamp_of p + length (commits_of p) ≡ stamp_of p = IsEachOnce.count (IsPassOf.knows own whole) in
      let after : first_stamp_of q + length (commits_of q) ≡ stamp_of q = IsEachOnce.count (IsPassOf.knows still whole_still) in
      let not_before : length (front_of p) ≤ from = HasMoved.not_before h in
      let longer : from < seen = HasMoved.longer h in
      let seen_is : seen ≡ length (front_of q) = HasMoved.seen_is h in
      absurd (omega (arith, counts, firsts, before, after, not_before, longer, seen_is))
  own_if_whole registry p q t (Full front) own still h whole = tt
  own_if_whole registry p q t Memory own still h whole = tt

-- ---- the steps of a try
module _ {g : Ghosts (List Table) Table} where
  -- a turn that was free, still at the stamp of the front, and committed
  pub committed_once : (p q r : Pass (List Table) Table g) (base seen : ℕ) (e : Table) → Advances p q (noted Take (stamp_of q) ∷ []) → base ≡ stamp_of p → seen ≡ stamp_of q → seen ≡ base → CommitsTurn q r e → CommittedOnce p r
  committed_once p q r base seen e a before after same c =
      let is : stamp_of q ≡ stamp_of p = omega (arith, before, after, same) in
      subst (λ (k : ℕ). Advances p r (noted Take k ∷ noted Commit k ∷ [])) is
      (advances_trans (view_of p) (view_of q) (view_of r) (noted Take (stamp_of q) ∷ []) (noted Commit (stamp_of q) ∷ []) a (CommitsTurn.advances c))

  pub tried_known : (p q : Pass (List Table) Table g) → VisitedOnce p q → TookSteps p q (Take ∷ Release ∷ [])
  tried_known p q v = record { steps = noted Take (stamp_of q) ∷ noted Release (stamp_of q) ∷ []; advances = v; are = refl }

  pub tried_missed : (p q : Pass (List Table) Table g) → MissedTurn p q → TookSteps p q (Missed ∷ [])
  tried_missed p q m = record { steps = noted Missed (MissedTurn.stamp m) ∷ []; advances = MissedTurn.advances m; are = refl }

  pub tried_find : (p q : Pass (List Table) Table g) (f : TryFault) → IsFindFault p q f → HasTriedInsert p q (Err f)
  tried_find p q Busy h = inl (tried_missed p q h)
  tried_find p q (Moved from seen) h = absurd h
  tried_find p q (Full front) h = absurd h
  tried_find p q Memory h = tried_known p q h

  pub tried_offer : (p q r : Pass (List Table) Table g) (f : TryFault) → VisitedOnce p q → IsOfferFault q r f → HasTriedInsert p r (Err f)
  tried_offer p q r Busy v m = inr (record {
    steps = noted Take (stamp_of q) ∷ noted Release (stamp_of q) ∷ noted Missed (MissedTurn.stamp m) ∷ [];
    advances = advances_trans (view_of p) (view_of q) (view_of r) (noted Take (stamp_of q) ∷ noted Release (stamp_of q) ∷ []) (noted Missed (MissedTurn.stamp m) ∷ []) v (MissedTurn.advances m);
    are = refl;
  })
  tried_offer p q r (Moved from seen) v (from_is, seen_is, grew, again) = record {
    steps = noted Take (stamp_of q) ∷ noted Release (stamp_of q) ∷ noted Take (stamp_of r) ∷ noted Release (stamp_of r) ∷ [];
    advances = advances_trans (view_of p) (view_of q) (view_of r) (noted Take (stamp_of q) ∷ noted Release (stamp_of q) ∷ []) (noted Take (stamp_of r) ∷ noted Release (stamp_of r) ∷ []) v again;
    are = refl;
  }
  tried_offer p q r (Full front) v h = absurd h
  tried_offer p q r Memory v h = absurd h

  pub tried_commit : (p q r : Pass (List Table) Table g) → VisitedOnce p q → CommittedOnce q r → TookSteps p r (Take ∷ Release ∷ Take ∷ Commit ∷ [])
  tried_commit p q r v c = record {
    steps = noted Take (stamp_of q) ∷ noted Release (stamp_of q) ∷ noted Take (stamp_of q) ∷ noted Commit (stamp_of q) ∷ [];
    advances = advances_trans (view_of p) (view_of q) (view_of r) (noted Take (stamp_of q) ∷ noted Release (stamp_of q) ∷ []) (noted Take (stamp_of q) ∷ noted Commit (stamp_of q) ∷ []) v c;
    are = refl;
  }
