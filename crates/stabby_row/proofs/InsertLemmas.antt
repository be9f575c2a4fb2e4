-- What an insert does, from the facts of its walk and of what followed.
use Rattle.std.proofs.Common.{◌≡◌, ℕ, ◌+◌, ◌<◌, ◌≤◌, List, [], ◌∷◌, ◌++◌, take, length, refl, sym, ap, ◌∙◌, subst, inl, inr, ⊎_elim, Result, Ok, Err, IfOk, IfErr, length-append, arith}
use Rattle.std.proofs.Math.Seq.{take-append_seam}
use Rattle.stabby_row.specs.declared.view.Node.{Node}
use Rattle.stabby_row.specs.declared.view.View.{View}
use Rattle.stabby_row.specs.declared.row.RowFull.{RowFull}
use Rattle.stabby_row.specs.Rule.{StartsWith, Absent}
use Rattle.stabby_row.specs.Seats.{after_walk, IsAt}
use Rattle.stabby_row.specs.Inserts.{Grown, Unclaimed, Claimed, ClaimedAtEnd, Full, ClaimsOnce}
use Rattle.stabby_row.proofs.ViewLemmas.{Absent-before}

module _ (t : List ℕ) (u m v : View) (k j : ℕ) (walk : m ≡ after_walk k 1 m.nodes u) (front : StartsWith m.nodes u.nodes) (absent : Absent t m.nodes) (grown : Grown j m v) where
  unclaimed : Unclaimed m v → Unclaimed u v
  unclaimed c = record { left = c.left ∙ ap (λ (z : View). z.left) walk; claims = c.claims ∙ ap (λ (z : View). z.tally.claims) walk; marks = c.marks ∙ ap (λ (z : View). z.tally.marks) walk }

  -- the front when the claim was made is the front that the walk ended with
  then_front : v.tally.seen_then ≡ length m.nodes → take v.tally.seen_then v.nodes ≡ m.nodes
  then_front e = ap (λ (z : ℕ × List Node). take z.0 z.1) (λ i. (e i, grown.front.1 i)) ∙ take-append_seam m.nodes grown.front.0

  claimed : (found needed : ℕ) → needed ≡ 2 + length t → Claimed found needed m v → ClaimedAtEnd t found u v
  claimed found needed e c =
      let a = ap (λ (z : View). z.tally.ends) walk in
      let b = grown.ends in
      let s = c.seen_then in
      let d = c.ends_then in
      let p = ap length front.1 in
      let q = length-append u.nodes front.0 in
      let x = ap length grown.front.1 in
      let y = length-append m.nodes grown.front.0 in
      record {
        left = c.left ∙ ap (λ (z : ℕ). found + z) e;
        claims = c.claims ∙ ap (λ (z : View). z.tally.claims + 1) walk;
        marks = c.marks ∙ ap (λ (z : View × ℕ). z.0.tally.marks ++ found ∷ (found + z.1) ∷ []) (λ i. (walk i, e i));
        ended = (omega arith, omega arith);
        seen = (omega arith, omega arith);
        absent = subst (Absent t) (sym (then_front c.seen_then)) absent;
      }

  pub claims_once : (words : ℕ) (answer : Result ℕ RowFull) (P : ℕ → Type 0) (Q : RowFull → Type 0) → IfOk answer (λ n. P n × IsAt t v.nodes n × ((found : ℕ) × Claimed found (2 + length t) m v))
      → IfErr answer (λ f. Full words t f.claimed f.needed m v (Claimed f.claimed f.needed m v) × Q f) → ClaimsOnce t u v
  claims_once words (Ok n) P Q ok err = inr (ok.2.0, claimed ok.2.0 (2 + length t) refl ok.2.1)
  claims_once words (Err f) P Q ok err = let full = err.0 in ⊎_elim (λ a. inl (unclaimed a.2)) (λ b. ⊎_elim (λ a. inl (unclaimed a.2)) (λ c. inr (f.claimed, claimed f.claimed f.needed full.size c)) b) full.cause

  pub full_once : (words : ℕ) (answer : Result ℕ RowFull) (Q : Type 0)
      → IfErr answer (λ f. Full words t f.claimed f.needed m v (Claimed f.claimed f.needed m v) × Q)
      → IfErr answer (λ f. Full words t f.claimed f.needed u v (ClaimedAtEnd t f.claimed u v) × (u.tally.ends < v.tally.ends) × Q)
  full_once words (Ok k) Q err = err
  full_once words (Err f) Q err =
      let full = err.0 in
      let left = ap (λ (z : View). z.left) walk in
      let ends = ap (λ (z : View). z.tally.ends) walk in
      let more = grown.ends in (
        record {
          size = full.size;
          over = full.over;
          absent = full.absent;
          cause = ⊎_elim (λ a. inl (a.0, a.1, unclaimed a.2))
              (λ b. inr (⊎_elim (λ a. inl ((let l = a.0 in omega arith), a.1 ∙ left, unclaimed a.2)) (λ c. inr (claimed f.claimed f.needed full.size c)) b)) full.cause;
        },
        omega arith,
        err.1,
      )
