-- Facts of views that the functions over the steps need.
use Rattle.std.proofs.Common.{◌≡◌, ◌≢◌, ℕ, suc, ◌+◌, ◌-◌, ◌*◌, ◌<◌, ◌≤◌, List, [], ◌∷◌, ◌++◌, map, take, length, get_or, drop, sym, refl, ap, ◌∙◌, subst, length-append, Some, slice_get, arith}
use Rattle.std.proofs.lemmas.List.{take-append-drop, take-append-le, length-take-le, append_cancel_left}
use Rattle.std.proofs.Math.Seq.{take-append_seam, take-length, take-suc, drop-cons}
use Rattle.atomic_table.specs.Table.{Me}
use Rattle.atomic_table.specs.Seated.{TableId}
use Rattle.stabby_tables.specs.Lists.{IsDistinct}
use Rattle.stabby_row.specs.declared.view.Node.{Node}
use Rattle.stabby_row.specs.declared.view.View.{View}
use Rattle.stabby_row.specs.Rule.{StartsWith, Absent, table_of, last_link}
use Rattle.stabby_row.specs.Telling.{walking, ending, covering, winning, own_node, InRow, Covers}
use Rattle.stabby_row.specs.Seats.{P, view_of, IsReady, after_walk, Reached, Stood, Moved, IsAt, HasTable, claim_with, node_words}
use Rattle.stabby_row.proofs.ViewLemmas.{Absent-append, later}

pub blank : Node
blank = record { at = 0; table = [] }

pub at_end : (v : View) (n at : ℕ) → Reached v n at → n ≡ length v.nodes → at ≡ last_link 1 v.nodes
at_end v n at r e = r.here ∙ ap (last_link 1) (ap (λ (z : ℕ). take z v.nodes) e ∙ take-length v.nodes)

-- the n-th of the front
pub parted : (nodes : List Node) (n : ℕ) → n < length nodes → nodes ≡ take n nodes ++ get_or nodes n blank ∷ drop (suc n) nodes
parted nodes n l = sym (take-append-drop n nodes) ∙ ap (λ (z : List Node). take n nodes ++ z) (drop-cons nodes n blank l)

pub stood_within : (v : View) (n at r : ℕ) → Reached v n at → n < length v.nodes
    → ((done todo : List Node) (x : Node) → v.nodes ≡ done ++ x ∷ todo → at ≡ last_link 1 done → (r ≡ x.at + 1) × InRow v.room x) → (0 < r) × Stood (walking v) n (r - 1)
stood_within v n at r reached l shows = let x : Node = get_or v.nodes n blank in let t = shows (take n v.nodes) (drop (suc n) v.nodes) x (parted v.nodes n l) reached.here in
    (omega arith, record { node = x; rest = drop (suc n) v.nodes; inside = l; front = parted v.nodes n l; here = omega arith; in_row = t.1 })

pub stood_new : (v w : View) (n r : ℕ) (x : Node) → n ≡ length v.nodes → w.nodes ≡ v.nodes ++ x ∷ [] → r ≡ x.at + 1 → InRow w.room x → Stood w n (r - 1)
stood_new v w n r x e grown is in_row =
    let long = length-append v.nodes (x ∷ []) in
    let longer = ap length grown in
    let head : take n w.nodes ≡ v.nodes = ap (λ (z : ℕ × List Node). take z.0 z.1) (λ i. (e i, grown i)) ∙ take-append_seam v.nodes (x ∷ []) in
    record { node = x; rest = []; inside = omega arith; front = grown ∙ ap (λ (z : List Node). z ++ x ∷ []) (sym head); here = omega arith; in_row = in_row }

last_snoc : (at : ℕ) (xs : List Node) (x : Node) → last_link at (xs ++ x ∷ []) ≡ x.at
last_snoc at [] x = refl
last_snoc at (y ∷ ys) x = last_snoc y.at ys x

next_front : (v : View) (n at : ℕ) (s : Stood v n at) → take (n + 1) v.nodes ≡ take n v.nodes ++ s.node ∷ []
next_front v n at s =
    let up : n + 1 ≡ suc n = omega arith in
    let here = parted v.nodes n s.inside in
    let same = append_cancel_left (take n v.nodes) (get_or v.nodes n blank ∷ drop (suc n) v.nodes) (s.node ∷ s.rest) (sym here ∙ s.front) in
    ap (λ (z : ℕ). take z v.nodes) up ∙ (take-suc v.nodes n blank s.inside ∙ ap (λ (z : List Node). take n v.nodes ++ get_or z 0 blank ∷ []) same)

-- behind the n-th node
pub moves_on : (v : View) (n at : ℕ) → Stood v n at → Reached v (n + 1) at
moves_on v n at s = let l = s.inside in let i = s.in_row in let a = i.low in let b = i.high in let h = s.here in
    record { inside = omega arith; here = h ∙ sym (ap (last_link 1) (next_front v n at s) ∙ last_snoc 1 (take n v.nodes) s.node); in_row = omega arith }

pub still_absent : (t : List ℕ) (v : View) (n at : ℕ) (s : Stood v n at) → s.node.table ≢ t → Absent t (take n v.nodes) → Absent t (take (n + 1) v.nodes)
still_absent t v n at s ne a = subst (Absent t) (sym (next_front v n at s)) (Absent-append t (take n v.nodes) s.node ne a)

-- the first n nodes stay when the front grows
pub same_start : (xs ys : List Node) (n : ℕ) → StartsWith ys xs → n ≤ length xs → take n ys ≡ take n xs
same_start xs ys n p l = ap (take n) p.1 ∙ take-append-le n xs p.0 l

pub in_words : (p : P) (z : TableId) (k : ℕ) → p.table_id ≡ z → IsReady p → k < (view_of p).room + 2 → k < z.words
in_words p z k e r l = let w = r.wide in let s = ap (λ (t : TableId). t.words) e in omega arith

-- the seat is ready with a view of the same weight and room
pub ready : (p q : P) (v : View) → IsReady p → q.table_id ≡ p.table_id → q.me ≡ (v, []) → v.weight ≡ (view_of p).weight → v.room ≡ (view_of p).room → 2 * length v.nodes ≤ v.room → IsDistinct (map table_of v.nodes) → IsReady q
ready p q v r e m weight room half apart = record {
  empty = ap (λ (z : Me ℕ View). z.1) m;
  heavy = (let h = r.heavy in let w = ap (λ (z : Me ℕ View). z.0.weight) m in omega arith);
  wide = (let h = r.wide in let w = ap (λ (z : Me ℕ View). z.0.room) m in let s = ap (λ (t : TableId). t.words) e in omega arith);
  small = (let h = r.small in let w = ap (λ (z : Me ℕ View). z.0.room) m in omega arith);
  half = subst (λ (z : Me ℕ View). 2 * length z.0.nodes ≤ z.0.room) (sym m) half;
  apart = subst (λ (z : Me ℕ View). IsDistinct (map table_of z.0.nodes)) (sym m) apart;
}

-- a view that the play gave, where the seat held no slot before
pub bare : (p q : P) (v : View) → IsReady p → q.me ≡ (v, p.me.1) → q.me ≡ (v, [])
bare p q v r m = m ∙ ap (λ (z : List (ℕ × ℕ)). let w : Me ℕ View = (v, z) in w) r.empty

pub ready_same : (p q : P) → IsReady p → q.table_id ≡ p.table_id → q.me ≡ p.me → IsReady q
ready_same p q r e m = ready p q (view_of p) r e (bare p q (view_of p) r m) refl refl r.half r.apart

module _ (p q : P) (n at r : ℕ) (old : IsReady p) (same : q.table_id ≡ p.table_id) where
  -- what a load past the front told, of a node
  pub covered : Reached (view_of p) n at → n ≡ length (view_of p).nodes → Covers p.me r walking q.me
      → IsReady q × (view_of q ≡ after_walk 1 0 (view_of q).nodes (view_of p)) × StartsWith (view_of q).nodes (view_of p).nodes × (length (view_of q).nodes ≡ n + 1) × Stood (view_of q) n (r - 1)
  covered reached e c =
      let x = c.0 in
      let m : q.me ≡ (walking (covering x (view_of p)), []) = bare p q (walking (covering x (view_of p))) old c.2 in
      let grown : (view_of q).nodes ≡ (view_of p).nodes ++ x ∷ [] = ap (λ (z : Me ℕ View). z.0.nodes) m in
      let room : (view_of q).room ≡ (view_of p).room = ap (λ (z : Me ℕ View). z.0.room) m in
      let long = ap length grown in
      let sum = length-append (view_of p).nodes (x ∷ []) in (
        ready p q (walking (covering x (view_of p))) old same m refl refl (let h = c.4 in omega arith) (subst (λ (z : Me ℕ View). IsDistinct (map table_of z.0.nodes)) m c.5),
        ap (λ (z : Me ℕ View). z.0) m ∙ (let none : (view_of p).tally.ends ≡ (view_of p).tally.ends + 0 = omega arith in
            λ i. record (view_of p) { nodes = sym grown i; tally = record (view_of p).tally { walked = (view_of p).tally.walked + 1; ends = none i } }),
        (x ∷ [], grown),
        omega arith,
        stood_new (view_of p) (view_of q) n r x e grown c.1 (subst (λ (z : ℕ). InRow z x) (sym room) c.3),
      )

  -- what a load past the front told, of the end
  pub ended : q.me ≡ (ending (view_of p), p.me.1) → IsReady q × (q.me ≡ (ending (view_of p), []))
  ended e = let m = bare p q (ending (view_of p)) old e in (ready p q (ending (view_of p)) old same m refl refl old.half old.apart, m)

pub walk_more : (u v w : View) (a b e k : ℕ) → v ≡ after_walk a 0 v.nodes u → w ≡ after_walk b e w.nodes v → a + b ≡ k → w ≡ after_walk k e w.nodes u
walk_more u v w a b e k p q s =
    let x : u.tally.walked + a + b ≡ u.tally.walked + k = omega arith in
    let y : u.tally.ends + 0 + e ≡ u.tally.ends + e = omega arith in
    q ∙ (ap (after_walk b e w.nodes) p ∙ (λ i. record u { nodes = w.nodes; tally = record u.tally { walked = x i; ends = y i } }))

pub walk_none : (u : View) → u ≡ after_walk 0 0 u.nodes u
walk_none u =
    let x : u.tally.walked ≡ u.tally.walked + 0 = omega arith in
    let y : u.tally.ends ≡ u.tally.ends + 0 = omega arith in
    λ i. record u { tally = record u.tally { walked = x i; ends = y i } }

pub walk_one : (u w : View) → w ≡ walking u → w ≡ after_walk 1 0 w.nodes u
walk_one u w p =
    let y : u.tally.ends ≡ u.tally.ends + 0 = omega arith in
    let n : u.nodes ≡ w.nodes = sym (ap (λ (z : View). z.nodes) p) in
    p ∙ (λ i. record u { nodes = n i; tally = record u.tally { walked = u.tally.walked + 1; ends = y i } })

module _ (p q : P) (n at r : ℕ) (old : IsReady p) (same : q.table_id ≡ p.table_id) where
  -- what an exchange told that found another's node
  pub lost : n ≡ length (view_of p).nodes → Covers p.me r (λ v. v) q.me
      → IsReady q × (view_of q ≡ record (view_of p) { nodes = (view_of q).nodes }) × StartsWith (view_of q).nodes (view_of p).nodes × (length (view_of q).nodes ≡ n + 1) × Stood (view_of q) n (r - 1)
  lost e c =
      let x = c.0 in
      let m : q.me ≡ (covering x (view_of p), []) = bare p q (covering x (view_of p)) old c.2 in
      let grown : (view_of q).nodes ≡ (view_of p).nodes ++ x ∷ [] = ap (λ (z : Me ℕ View). z.0.nodes) m in
      let room : (view_of q).room ≡ (view_of p).room = ap (λ (z : Me ℕ View). z.0.room) m in
      let long = ap length grown in
      let sum = length-append (view_of p).nodes (x ∷ []) in (
        ready p q (covering x (view_of p)) old same m refl refl (let h = c.4 in omega arith) (subst (λ (z : Me ℕ View). IsDistinct (map table_of z.0.nodes)) m c.5),
        ap (λ (z : Me ℕ View). z.0) m ∙ (λ i. record (view_of p) { nodes = sym grown i }),
        (x ∷ [], grown),
        omega arith,
        stood_new (view_of p) (view_of q) n r x e grown c.1 (subst (λ (z : ℕ). InRow z x) (sym room) c.3),
      )

  -- what an exchange told that hung the seat's own node
  pub hung : (start : ℕ) (t : List ℕ) → (view_of p).claim ≡ claim_with start (2 + length t) (node_words t) → q.me ≡ (winning (view_of p), p.me.1) → 2 * length (view_of q).nodes ≤ (view_of p).room → IsDistinct (map table_of (view_of q).nodes)
      → IsReady q × Moved 0 (view_of p) (view_of q) × ((view_of q).nodes ≡ (view_of p).nodes ++ record { at = start; table = t } ∷ [])
  hung start t claim e half apart =
      let m : q.me ≡ (winning (view_of p), []) = bare p q (winning (view_of p)) old e in
      let nodes : (view_of q).nodes ≡ (view_of p).nodes ++ own_node (view_of p) ∷ [] = ap (λ (z : Me ℕ View). z.0.nodes) m in
      let own : own_node (view_of p) ≡ record { at = start; table = t } = (λ i. record { at = (claim i).start; table = drop 2 (claim i).written }) in
      let walked = ap (λ (z : Me ℕ View). z.0.tally.walked) m in
      let ends = ap (λ (z : Me ℕ View). z.0.tally.ends) m in
      let room = ap (λ (z : Me ℕ View). z.0.room) m in (
        ready p q (winning (view_of p)) old same m refl refl (let l = ap length nodes in omega arith) (subst (λ (l : List Node). IsDistinct (map table_of l)) nodes apart),
        record {
          room = room;
          weight = ap (λ (z : Me ℕ View). z.0.weight) m;
          left = ap (λ (z : Me ℕ View). z.0.left) m;
          claims = ap (λ (z : Me ℕ View). z.0.tally.claims) m;
          marks = ap (λ (z : Me ℕ View). z.0.tally.marks) m;
          seen_then = ap (λ (z : Me ℕ View). z.0.tally.seen_then) m;
          ends_then = ap (λ (z : Me ℕ View). z.0.tally.ends_then) m;
          walked = omega arith;
          ends = omega arith;
          front = (own_node (view_of p) ∷ [], nodes);
        },
        nodes ∙ ap (λ (z : Node). (view_of p).nodes ++ z ∷ []) own,
      )

pub moved_on : (u v w : View) (a b k : ℕ) → Moved a u v → Moved b v w → a + b ≡ k → Moved k u w
moved_on u v w a b k p q s = let pw = p.walked in let qw = q.walked in let pe = p.ends in let qe = q.ends in record {
  room = q.room ∙ p.room;
  weight = q.weight ∙ p.weight;
  left = q.left ∙ p.left;
  claims = q.claims ∙ p.claims;
  marks = q.marks ∙ p.marks;
  seen_then = q.seen_then ∙ p.seen_then;
  ends_then = q.ends_then ∙ p.ends_then;
  walked = omega arith;
  ends = omega arith;
  front = later w.nodes v.nodes u.nodes q.front p.front;
}

pub moved_walk : (v w : View) (k e : ℕ) → w ≡ after_walk k e w.nodes v → StartsWith w.nodes v.nodes → Moved k v w
moved_walk v w k e p front = let ends = ap (λ (z : View). z.tally.ends) p in record {
  room = ap (λ (z : View). z.room) p;
  weight = ap (λ (z : View). z.weight) p;
  left = ap (λ (z : View). z.left) p;
  claims = ap (λ (z : View). z.tally.claims) p;
  marks = ap (λ (z : View). z.tally.marks) p;
  seen_then = ap (λ (z : View). z.tally.seen_then) p;
  ends_then = ap (λ (z : View). z.tally.ends_then) p;
  walked = ap (λ (z : View). z.tally.walked) p;
  ends = omega arith;
  front = front;
}

pub moved_front : (v w : View) → w ≡ record v { nodes = w.nodes } → StartsWith w.nodes v.nodes → Moved 0 v w
moved_front v w p front = moved_walk v w 0 0
    (let x : v.tally.walked ≡ v.tally.walked + 0 = omega arith in let y : v.tally.ends ≡ v.tally.ends + 0 = omega arith in p ∙ (λ i. record v { nodes = w.nodes; tally = record v.tally { walked = x i; ends = y i } })) front

at_seam : (xs : List Node) (x : Node) (ys : List Node) → slice_get (map table_of (xs ++ x ∷ ys)) (length xs) ≡ Some x.table
at_seam [] x ys = refl
at_seam (z ∷ zs) x ys = at_seam zs x ys

pub is_at : (t : List ℕ) (v : View) (n at : ℕ) → HasTable t v n at → IsAt t v.nodes n
is_at t v n at h =
    let s = h.0 in
    let i = s.inside in
    let long : length (take n v.nodes) ≡ n = length-take-le n v.nodes (omega arith) in
    let a = at_seam (take n v.nodes) s.node s.rest in
    ap (λ (z : List Node). slice_get (map table_of z) n) s.front ∙ (ap (λ (z : ℕ). slice_get (map table_of (take n v.nodes ++ s.node ∷ s.rest)) z) (sym long) ∙ (a ∙ ap (λ (z : List ℕ). Some z) h.1))

pub is_last : (t : List ℕ) (nodes front : List Node) (at n : ℕ) → n ≡ length front → nodes ≡ front ++ record { at = at; table = t } ∷ [] → IsAt t nodes n
is_last t nodes front at n e f = ap (λ (z : List Node × ℕ). slice_get (map table_of z.0) z.1) (λ i. (f i, e i)) ∙ at_seam front (record { at = at; table = t }) []

pub front_all : (nodes : List Node) (n : ℕ) → n ≡ length nodes → take n nodes ≡ nodes
front_all nodes n e = ap (λ (z : ℕ). take z nodes) e ∙ take-length nodes

-- the seat is ready with a view of some weight and the same room
pub ready_at : (p q : P) (v : View) → IsReady p → q.table_id ≡ p.table_id → q.me ≡ (v, []) → 1 ≤ v.weight → v.room ≡ (view_of p).room → 2 * length v.nodes ≤ v.room → IsDistinct (map table_of v.nodes) → IsReady q
ready_at p q v r e m weight room half apart = record {
  empty = ap (λ (z : Me ℕ View). z.1) m;
  heavy = (let w = ap (λ (z : Me ℕ View). z.0.weight) m in omega arith);
  wide = (let h = r.wide in let w = ap (λ (z : Me ℕ View). z.0.room) m in let s = ap (λ (t : TableId). t.words) e in omega arith);
  small = (let h = r.small in let w = ap (λ (z : Me ℕ View). z.0.room) m in omega arith);
  half = subst (λ (z : Me ℕ View). 2 * length z.0.nodes ≤ z.0.room) (sym m) half;
  apart = subst (λ (z : Me ℕ View). IsDistinct (map table_of z.0.nodes)) (sym m) apart;
}
