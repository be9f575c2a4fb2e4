-- What the calls say of a pass, from what their steps did to its view.
use Rattle.std.proofs.Common.{◌≡◌, ◌≢◌, ℕ, ◌+◌, ◌-◌, ◌*◌, ◌<◌, ◌≤◌, max, Bool, true, false, ◌||◌, lt_of_not-le, List, [], ◌∷◌, ◌++◌, map, take, length, sym, refl, ap, ◌∙◌, subst, inl, inr, ⊎_elim, Result, Ok, Err, IfErr, arith}
use mathlib.Core.List.{IsPrefix}
use Rattle.std.specs.List.{Contains}
use mathlib.Core.Logic.{∥∥₁_map, ∥∥₁_map₂, dite}
use native.Mathlib.Decide.{dec_le}
use Rattle.std.proofs.lemmas.List.{map-append, take-map, length-map}
use Rattle.std.proofs.Math.Seq.{take-append-add}
use mathlib.Core.Bool.{false≢true}
use Rattle.std.proofs.lemmas.List.Elements.{Contains-append_left, Contains-append_right}
use Rattle.atomic_table.specs.Table.{Me}
use Rattle.atomic_table.specs.Seated.{TableId}
use Rattle.stabby_tables.specs.Tables.{Table}
use Rattle.stabby_tables.specs.Lists.{has, IsDistinct}
use Rattle.stabby_tables.proofs.Growing.{has_old}
use Rattle.stabby_row.specs.declared.view.Node.{Node}
use Rattle.stabby_row.specs.declared.view.View.{View}
use Rattle.stabby_row.specs.declared.row.RowFull.{RowFull}
use Rattle.stabby_row.specs.declared.row.WordRow.{WordRow}
use Rattle.stabby_row.specs.declared.pass.RowPass.{RowPass}
use Rattle.stabby_row.specs.Rule.{StartsWith, Absent, table_of}
use Rattle.stabby_row.specs.Telling.{both_of, longer_of}
use Rattle.stabby_row.specs.Seats.{view_of}
use Rattle.stabby_row.specs.Inserts.{Grown, Unclaimed, ClaimedAtEnd, Cause, Full, ClaimsOnce}
use Rattle.stabby_row.specs.Passes.{words_of, room_of, IsPassOf, front_of, walked_of, MadeNoClaim, MadeOneClaim, ClaimsAtMostOnce, IsClaimedBy, IsRowFull}
use Rattle.stabby_row.proofs.ViewLemmas.{lacks}
use Rattle.stabby_row.proofs.MovesKeepRule.{longer_either, shorter_below, both_begin}

-- what a pass knows by itself: its front's tables are distinct, and it knows how many words its row has
pub pass_is_distinct : (p : RowPass) → IsDistinct (front_of p)
pass_is_distinct p = p.ready.apart

pub room_is : (row : WordRow) (p : RowPass) → IsPassOf row p → room_of p ≡ words_of row
room_is row p e = let a = row.sized.0 in let b = p.ready.wide in let t = ap (λ (z : TableId). z.words) e in omega arith

pub fronts : (xs ys : List Node) → StartsWith xs ys → IsPrefix (map table_of ys) (map table_of xs)
fronts xs ys p = (map table_of p.0, sym (ap (map table_of) p.1 ∙ map-append table_of ys p.0))

module _ (t : Table) (p q : RowPass) where
  one_claim : (found : ℕ) → ClaimedAtEnd t found (view_of p.seat) (view_of q.seat) → MadeOneClaim p q t found
  one_claim found c =
      let a = length-map (view_of p.seat).nodes table_of in
      let b = length-map (view_of q.seat).nodes table_of in
      let s = c.seen in
      let k = (view_of q.seat).tally.seen_then in
      record {
        claims = c.claims;
        marks = c.marks;
        ended = c.ended;
        seen = (omega arith, omega arith);
        absent = ap (λ (l : List Table). has l t) (take-map table_of k (view_of q.seat).nodes) ∙ lacks t (take k (view_of q.seat).nodes) c.absent;
      }

  no_claim_made : Unclaimed (view_of p.seat) (view_of q.seat) → MadeNoClaim p q
  no_claim_made a = (a.claims, a.marks)

  pub once : ClaimsOnce t (view_of p.seat) (view_of q.seat) → ClaimsAtMostOnce p q t
  once c = ⊎_elim (λ a. inl (no_claim_made a)) (λ b. inr (b.0, one_claim b.0 b.1)) c

  claimed_by : (words claimed needed : ℕ) → Cause words claimed needed (view_of p.seat) (view_of q.seat) (ClaimedAtEnd t claimed (view_of p.seat) (view_of q.seat)) → IsClaimedBy words claimed needed p q t
  claimed_by words claimed needed c = ⊎_elim (λ a. inl (a.0, a.1, no_claim_made a.2))
      (λ b. inr (⊎_elim
      (λ a. let r = p.left_is in inl (∥∥₁_map p.left_is_marked (λ f. subst (Contains (view_of p.seat).tally.marks) (r ∙ sym a.1) (f (let x = a.0 in omega arith))), no_claim_made a.2))
      (λ a. inr (one_claim claimed a)) b)) c

  pub row_full : (words n seen : ℕ) (answer : Result ℕ RowFull) → Grown (n + 1) (view_of p.seat) (view_of q.seat) → seen ≡ length (view_of q.seat).nodes
      → IfErr answer (λ f. Full words t f.claimed f.needed (view_of p.seat) (view_of q.seat) (ClaimedAtEnd t f.claimed (view_of p.seat) (view_of q.seat)) × ((view_of p.seat).tally.ends < (view_of q.seat).tally.ends) × (n ≡ seen))
      → IfErr answer (IsRowFull words p q t)
  row_full words n seen (Ok k) grown long h = h
  row_full words n seen (Err f) grown long h =
      let k = length-map (view_of q.seat).nodes table_of in
      let w = grown.walked in
      let e = h.2 in
      record {
        needed = h.0.size;
        over = h.0.over;
        absent = lacks t (view_of q.seat).nodes h.0.absent;
        ended = h.1;
        walked = omega arith;
        cause = claimed_by words f.claimed f.needed h.0.cause;
      }

-- a claim is made only for a table that the old front has not
pub known_unclaimed : (t : Table) (u v : View) → StartsWith v.nodes u.nodes → has (map table_of u.nodes) t ≡ true → ClaimsOnce t u v → (v.tally.claims ≡ u.tally.claims) × (v.tally.marks ≡ u.tally.marks)
known_unclaimed t u v front there c = ⊎_elim (λ a. (a.claims, a.marks)) (λ b. absurd (false≢true (sym (lacks t (take v.tally.seen_then v.nodes) b.1.absent) ∙ still_has v.tally.seen_then b.1.seen.0))) c
  where
    still_has : (n : ℕ) → length u.nodes ≤ n → has (map table_of (take n v.nodes)) t ≡ true
    still_has n l =
        let k : ℕ = n - length u.nodes in
        let e : n ≡ length u.nodes + k = omega arith in
        ap (λ (z : ℕ × List Node). has (map table_of (take z.0 z.1)) t) (λ i. (e i, front.1 i))
        ∙ (ap (λ (l : List Node). has (map table_of l) t) (take-append-add u.nodes front.0 k)
        ∙ (ap (λ (l : List Table). has l t) (map-append table_of u.nodes (take k front.0)) ∙ has_old (map table_of u.nodes) (map table_of (take k front.0)) t there))

-- what a pass remembers stands among its marks, after an insert too
pub still_marked : (t : List ℕ) (p : RowPass) (v : View) → ClaimsOnce t (view_of p.seat) v → ∥ (0 < v.left → Contains v.tally.marks v.left) ∥₁
still_marked t p v c = ∥∥₁_map p.left_is_marked (λ f.
    let r = p.left_is in
    let u = view_of p.seat in
    ⊎_elim
    (λ a. λ l. let e = a.left in subst (λ (z : List ℕ × ℕ). Contains z.0 z.1) (λ i. (sym a.marks i, (r ∙ sym e) i)) (f (omega arith)))
    (λ b. let k = b.1 in λ l. subst (λ (z : List ℕ × ℕ). Contains z.0 z.1) (λ i. (sym k.marks i, sym k.left i)) (Contains-append_right u.tally.marks (b.0 ∷ (b.0 + (2 + length t)) ∷ []) (b.0 + (2 + length t)) (1, omega arith, refl)))
    c)

-- of two passes that are joined the greater remembered number stands among the marks of both
pub marked_by_both : (p q : RowPass) → ∥ (0 < max p.left q.left → Contains ((view_of p.seat).tally.marks ++ (view_of q.seat).tally.marks) (max p.left q.left)) ∥₁
marked_by_both p q = ∥∥₁_map₂ p.left_is_marked q.left_is_marked (λ f g. λ l. let xs = (view_of p.seat).tally.marks in let ys = (view_of q.seat).tally.marks in dite (dec_le q.left p.left)
    (λ h. let e : max p.left q.left ≡ p.left = omega arith in subst (Contains (xs ++ ys)) (sym e) (Contains-append_left xs ys p.left (f (omega arith))))
    (λ n. let m = lt_of_not-le n in let e : max p.left q.left ≡ q.left = omega arith in subst (Contains (xs ++ ys)) (sym e) (Contains-append_right xs ys q.left (g (omega arith)))))

pub same_marked : (p : RowPass) (marks : List ℕ) → marks ≡ (view_of p.seat).tally.marks → ∥ (0 < p.left → Contains marks p.left) ∥₁
same_marked p marks e = subst (λ (z : List ℕ). ∥ (0 < p.left → Contains z p.left) ∥₁) (sym e) p.left_is_marked

module _ (p q : RowPass) (me : Me ℕ View) (joined : me ≡ (both_of (view_of p.seat) (view_of q.seat), [])) where
  pub longer_half : p.seat.table_id ≡ q.seat.table_id → 2 * length (longer_of (view_of p.seat).nodes (view_of q.seat).nodes) ≤ (view_of p.seat).room
  longer_half e = let a = p.ready.half in let b = q.ready.half in let c = p.ready.wide in let d = q.ready.wide in let t = ap (λ (z : TableId). z.words) e in
      longer_either 0 (λ (l : List Node). 2 * length l ≤ (view_of p.seat).room) (view_of p.seat).nodes (view_of q.seat).nodes a (omega arith)

  pub longer_apart : IsDistinct (map table_of (longer_of (view_of p.seat).nodes (view_of q.seat).nodes))
  longer_apart = longer_either 0 (λ (l : List Node). IsDistinct (map table_of l)) (view_of p.seat).nodes (view_of q.seat).nodes p.ready.apart q.ready.apart

  pub both_fronts : (length me.0.told ≤ length me.0.nodes → StartsWith me.0.nodes me.0.told) → IsPrefix (front_of p) (map table_of me.0.nodes) × IsPrefix (front_of q) (map table_of me.0.nodes)
  both_fronts told = subst (λ (z : Me ℕ View). (length z.0.told ≤ length z.0.nodes → StartsWith z.0.nodes z.0.told) → IsPrefix (front_of p) (map table_of z.0.nodes) × IsPrefix (front_of q) (map table_of z.0.nodes)) (sym joined)
      (λ t. let b = both_begin 0 (view_of p.seat).nodes (view_of q.seat).nodes (t (shorter_below 0 (view_of p.seat).nodes (view_of q.seat).nodes)) in
      (fronts (longer_of (view_of p.seat).nodes (view_of q.seat).nodes) (view_of p.seat).nodes b.0, fronts (longer_of (view_of p.seat).nodes (view_of q.seat).nodes) (view_of q.seat).nodes b.1)) told
