-- Each step keeps the rule.
use Rattle.std.proofs.Common.{◌≡◌, ◌≢◌, ℕ, suc, ◌+◌, ◌*◌, ◌%◌, ◌^◌, ◌<◌, ◌≤◌, Bool, cond, ltb, eqb, List, [], ◌∷◌, ◌++◌, map, length, get_or, drop, set, sym, refl, ap, ◌∙◌, subst, append_assoc, length-append, length-set, get_or-set_other, get_or-set_same, eq-eqb, ne_eqb, lt-ltb, le-ltb, lt_of_not-le, mul-le-mul_left, mul-suc, arith}
use Rattle.std.proofs.lemmas.List.{append-nil, get_or_append_left, get_or-append-add}
use Rattle.std.proofs.Math.Seq.{get_or-append_seam}
use mathlib.Core.Logic.{dite}
use mathlib.Core.Option.{none, some}
use native.Mathlib.Decide.{dec_le, ℕ_discrete}
use Rattle.std.proofs.lemmas.Nat.{mul-le}
use lib.ListN.{get_elem?}
use lib.Seq.{set-get_or}
use prog.Atomic.{either}
use Rattle.atomic_table.specs.Table.{State, Me, step, keeps, stepped, Allows}
use Rattle.stabby_tables.specs.Lists.{IsDistinct}
use Rattle.stabby_row.specs.declared.view.Node.{Node}
use Rattle.stabby_row.specs.declared.view.Claim.{Claim}
use Rattle.stabby_row.specs.declared.view.View.{View}
use Rattle.stabby_row.specs.Rule.{RowRule, Fits, Stands, Chain, StartsWith, Absent, Distinct, table_of, last_link, total, node_size, weight_of, held, informed, no_claim}
use Rattle.stabby_row.specs.Telling.{noting, walking, ending, covering, writing, claim_at, claiming, own_node, winning, InRow, noted, walked, Covers, passed, sized, read, wrote, claimed, linked}
use Rattle.stabby_row.specs.Laws.{St, M, Grown, Advances}
use Rattle.stabby_row.proofs.SumLemmas.{total_set, total_append, total_same, total_below}
use Rattle.stabby_row.proofs.ChainLemmas.{Rooted, last_rooted, last_empty, shows, framed, appended}
use Rattle.stabby_row.proofs.ViewLemmas.{set_there, later, begins, each_set, led_set, refits, Distinct-append, Distinct-before, distinct_tables}

module _ (n : ℕ) where
  abbrev Rule : St → Type 0
  Rule = RowRule n

  pub forget : (slots id : ℕ) (me : M) (i : ℕ) (f : ℕ → ℕ) (then : ℕ → M → Type 0) → Advances n slots id me i f then → Allows Rule slots id me i f then
  forget slots id me i f then a s r _ at _ = let t = a s r at in (t.0, keeps, tt, t.1.0, t.2)

  same_nodes : (xs : List Node) → StartsWith xs xs
  same_nodes xs = ([], sym (append-nil xs))

  root : (s : St) (r : Rule s) → Rooted r.owner (r.top + 2) 1 0
  root s r = let o = r.root in record { own = omega arith; low = omega arith; high = omega arith }

  same_informed : (v w : View) → w.left ≡ v.left → w.weight ≡ v.weight → informed n w ≡ informed n v
  same_informed v w l e i = cond (ltb n (l i)) (e i) 0

  -- a step that changes no word and no claim
  pub reviewed : (s : St) (r : Rule s) (i id : ℕ) (cs : List (ℕ × ℕ)) (v w : View) → get_elem? s.views id ≡ some v → w.weight ≡ v.weight → w.claim ≡ v.claim → w.left ≡ v.left → w.room ≡ v.room
      → StartsWith r.nodes w.nodes → StartsWith r.nodes w.told → (v.nodes ≡ r.nodes → w.nodes ≡ r.nodes) → Grown n s (stepped s i (get_or s.words i 0) id cs w keeps) r
  reviewed s r i id cs v w at weight claim left room front told covers =
      let f = r.each id v at in
      subst (λ (ws : List ℕ). Grown n s (record { words = ws; homes = s.homes; views = set s.views id w }) r) (sym (set-get_or s.words i 0)) (
        record {
          nodes = r.nodes;
          owner = r.owner;
          top = r.top;
          wide = r.wide;
          small = r.small;
          below = r.below;
          within = r.within;
          root = r.root;
          chain = r.chain;
          distinct = r.distinct;
          used = (let u = r.used in let t = total_same held s.views id v w at (λ i. (claim i).size) in omega arith);
          weights = total_same weight_of s.views id v w at weight ∙ r.weights;
          bounded = (let t = total_same (informed n) s.views id v w at (same_informed v w left weight) in subst (λ (z : ℕ). get_or s.words 0 0 ≤ n + n * z) (sym t) r.bounded);
          led = led_set s.views id v w r.nodes at (λ h. omega arith) covers r.led;
          each = each_set (Fits s.words r.owner (r.top + 2) n r.nodes) s.views id w
              record {
                room = λ h. room ∙ f.room (omega arith);
                front = front;
                told = told;
                low = subst (λ (c : Claim). 2 ≤ c.start) (sym claim) f.low;
                high = subst (λ (c : Claim). c.start + c.size ≤ r.top + 2) (sym claim) f.high;
                own = subst (λ (c : Claim). (i : ℕ) → i < c.size → r.owner (c.start + i) ≡ 2 * id + 1) (sym claim) f.own;
                short = subst (λ (c : Claim). length c.written ≤ c.size) (sym claim) f.short;
                content = subst (λ (c : Claim). (i : ℕ) → i < length c.written → get_or s.words (c.start + i) 0 ≡ get_or c.written i 0) (sym claim) f.content;
                left = subst (λ (z : ℕ). z ≤ get_or s.words 0 0) (sym left) f.left;
              }
              (λ j d _. r.each j d);
        },
        same_nodes r.nodes,
        omega arith,
      )

  -- own store
  pub stores_on : (slots id : ℕ) (me : M) (p x : ℕ) → p ≡ me.0.claim.start + length me.0.claim.written → length me.0.claim.written < me.0.claim.size
      → Advances n slots id me p (λ _. x) (λ _. wrote (step slots p x 0 none) me x)
  stores_on slots id me p x is room s r at =
      let v : View = me.0 in
      let w : View = writing x v in
      let f = r.each id v at in
      let low = f.low in
      let high = f.high in
      let ws : List ℕ = set s.words p x in
      let odd : r.owner p ≡ 2 * id + 1 = subst (λ (z : ℕ). r.owner z ≡ 2 * id + 1) (sym is) (f.own (length v.claim.written) room) in
      let rest : (q : ℕ) → q ≢ p → get_or ws q 0 ≡ get_or s.words q 0 = λ q ne. get_or-set_other s.words p q x 0 ne in
      let zeroth : get_or ws 0 0 ≡ get_or s.words 0 0 = rest 0 (λ e. absurd (omega arith)) in
      let wide = r.wide in
      let within = r.within in
      let written = length-append v.claim.written (x ∷ []) in (
        w,
        (
          record {
            nodes = r.nodes;
            owner = r.owner;
            top = r.top;
            wide = length-set s.words p x ∙ r.wide;
            small = r.small;
            below = (let b = r.below in omega arith);
            within = r.within;
            root = r.root;
            chain = framed s.words r.owner (r.top + 2) ws r.owner (r.top + 2) (omega arith) (λ q m _ _ o. (rest q (λ e. let g = ap r.owner e in absurd (omega arith)), refl)) 1 0 r.nodes (root s r) r.chain;
            distinct = r.distinct;
            used = (let u = r.used in let t = total_same held s.views id v w at refl in omega arith);
            weights = total_same weight_of s.views id v w at refl ∙ r.weights;
            bounded = (let t = total_same (informed n) s.views id v w at refl in subst (λ (z : ℕ × ℕ). z.0 ≤ n + n * z.1) (λ i. (sym zeroth i, sym t i)) r.bounded);
            led = led_set s.views id v w r.nodes at (λ h. h) (λ e. e) r.led;
            each = each_set (Fits ws r.owner (r.top + 2) n r.nodes) s.views id w
                record {
                  room = f.room;
                  front = f.front;
                  told = f.told;
                  low = f.low;
                  high = f.high;
                  own = f.own;
                  short = omega arith;
                  content = λ i l. dite (ℕ_discrete i (length v.claim.written))
                      (λ e. let here : v.claim.start + i ≡ p = omega arith in ap (λ (z : ℕ). get_or ws z 0) here ∙ (get_or-set_same s.words p x 0 (omega arith) ∙ (sym (get_or-append_seam v.claim.written x [] 0) ∙ ap (λ (z : ℕ). get_or (v.claim.written ++ x ∷ []) z 0) (sym e))))
                      (λ ne. rest (v.claim.start + i) (λ e. absurd (omega arith)) ∙ (f.content i (omega arith) ∙ sym (get_or_append_left v.claim.written (x ∷ []) 0 i (omega arith))));
                  left = (let l = f.left in omega arith);
                }
                (λ j d other there. refits s.words r.owner (r.top + 2) ws r.owner (r.top + 2) n r.nodes r.nodes (omega arith) (omega arith) ([], sym (append-nil r.nodes)) j d
                (λ q _ _ o. (rest q (λ e. let g = ap r.owner e in absurd (other (omega arith))), refl)) (r.each j d there));
          },
          same_nodes r.nodes,
          omega arith,
        ),
        refl,
      )

  either_same : (x k : ℕ) → either (eqb x k) k x ≡ x
  either_same x k = dite (ℕ_discrete x k) (λ e. ap (λ (b : Bool). either b k x) (eq-eqb x k e) ∙ sym e) (λ ne. ap (λ (b : Bool). either b k x) (ne_eqb x k ne))

  -- a pass notes a number, by an exchange that changes nothing
  pub notes_on : (slots id : ℕ) (me : M) (k : ℕ) → Advances n slots id me 0 (λ x. either (eqb x k) k x) (noted (step slots 0 k k none) me)
  notes_on slots id me k s r at =
      let v : View = me.0 in
      let w : View = noting k v in
      let f = r.each id v at in (
        w,
        subst (λ (z : ℕ). Grown n s (stepped s 0 z id me.1 w keeps) r) (sym (either_same (get_or s.words 0 0) k))
            (reviewed s r 0 id me.1 v w at refl refl refl refl f.front f.told (λ e. e)),
        refl,
      )

  in_row : (s : St) (r : Rule s) (room k : ℕ) (x : Node) → room ≡ n → Stands s.words r.owner (r.top + 2) k x → InRow room x
  in_row s r room k x is st = let a = st.low in let b = st.high in let c = r.within in record { low = omega arith; high = omega arith }

  split_front : (nodes front done : List Node) (x : Node) (todo rest : List Node) → nodes ≡ front ++ rest → front ≡ done ++ x ∷ todo → nodes ≡ done ++ x ∷ (todo ++ rest)
  split_front nodes front done x todo rest e f = e ∙ (ap (λ (l : List Node). l ++ rest) f ∙ append_assoc done (x ∷ todo) rest)

  -- what the front's link and node show
  pub shown : (s : St) (r : Rule s) (front done todo rest : List Node) (x : Node) → r.nodes ≡ front ++ rest → front ≡ done ++ x ∷ todo
      → (get_or s.words (last_link 1 done) 0 ≡ x.at + 1) × Stands s.words r.owner (r.top + 2) (0 + length done) x
  shown s r front done todo rest x e f = shows s.words r.owner (r.top + 2) 1 0 done x (todo ++ rest)
      (subst (Chain s.words r.owner (r.top + 2) 1 0) (split_front r.nodes front done x todo rest e f) r.chain)

  -- a load of a link within the front
  pub walks_on : (slots id : ℕ) (me : M) (p : ℕ) → 1 ≤ me.0.weight → Advances n slots id me p (λ x. x) (walked (step slots p 0 0 none) me)
  walks_on slots id me p heavy s r at =
      let v : View = me.0 in
      let w : View = walking v in
      let f = r.each id v at in (
        w,
        reviewed s r p id me.1 v w at refl refl refl refl f.front f.told (λ e. e),
        (
          refl,
          λ done todo x e is. let t = shown s r v.nodes done todo f.front.0 x f.front.1 e in
              (ap (λ (z : ℕ). get_or s.words z 0) is ∙ t.0, in_row s r v.room _ x (f.room heavy) t.1),
        ),
      )

  pub sizes_on : (slots id : ℕ) (me : M) (p : ℕ) → Advances n slots id me p (λ x. x) (sized (step slots p 0 0 none) me)
  sizes_on slots id me p s r at =
      let v : View = me.0 in
      let f = r.each id v at in (
        v,
        reviewed s r p id me.1 v v at refl refl refl refl f.front f.told (λ e. e),
        (
          refl,
          λ done todo x e is. let t = shown s r v.nodes done todo f.front.0 x f.front.1 e in ap (λ (z : ℕ). get_or s.words z 0) is ∙ t.1.size,
        ),
      )

  pub reads_on : (slots id : ℕ) (me : M) (p : ℕ) → Advances n slots id me p (λ x. x) (read (step slots p 0 0 none) me)
  reads_on slots id me p s r at =
      let v : View = me.0 in
      let f = r.each id v at in (
        v,
        reviewed s r p id me.1 v v at refl refl refl refl f.front f.told (λ e. e),
        (
          refl,
          λ done todo x i e is l. let t = shown s r v.nodes done todo f.front.0 x f.front.1 e in ap (λ (z : ℕ). get_or s.words z 0) is ∙ t.1.content i l,
        ),
      )

  pub twice : (xs : List Node) → 2 * length xs ≤ total node_size xs
  twice [] = omega arith
  twice (x ∷ xs) = let t = twice xs in omega arith

  -- the row has no more nodes than half its words
  few : (s : St) (r : Rule s) (front : List Node) (room : ℕ) → room ≡ n → StartsWith r.nodes front → 2 * length front ≤ room
  few s r front room is p = let u = r.used in let t = twice r.nodes in let l = ap length p.1 in let m = length-append front p.0 in let c = r.within in omega arith

  -- one more node of the row in the front
  grows : (nodes front : List Node) (y : Node) (ys : List Node) → nodes ≡ front ++ y ∷ ys → StartsWith nodes (front ++ y ∷ [])
  grows nodes front y ys e = (ys, e ∙ sym (append_assoc front (y ∷ []) ys))

  not_all : (nodes front : List Node) (y : Node) (ys : List Node) → nodes ≡ front ++ y ∷ ys → front ≢ nodes
  not_all nodes front y ys e f = let l = ap length (f ∙ e) in let m = length-append front (y ∷ ys) in absurd (omega arith)

  past : (s : St) (r : Rule s) (front : List Node) (y : Node) (ys : List Node) → r.nodes ≡ front ++ y ∷ ys
      → (get_or s.words (last_link 1 front) 0 ≡ y.at + 1) × Stands s.words r.owner (r.top + 2) (0 + length front) y
  past s r front y ys e = shows s.words r.owner (r.top + 2) 1 0 front y ys (subst (Chain s.words r.owner (r.top + 2) 1 0) e r.chain)

  -- the front covers the node that the link shows
  covers : (s : St) (r : Rule s) (id : ℕ) (me : M) (p : ℕ) (counted : View → View) (y : Node) (ys : List Node) → 1 ≤ me.0.weight → get_elem? s.views id ≡ some me.0 → p ≡ last_link 1 me.0.nodes → r.nodes ≡ me.0.nodes ++ y ∷ ys
      → let w : View = counted (covering y me.0) in w.weight ≡ me.0.weight → w.claim ≡ me.0.claim → w.left ≡ me.0.left → w.room ≡ me.0.room → w.told ≡ me.0.told → w.nodes ≡ me.0.nodes ++ y ∷ []
      → Grown n s (stepped s p (get_or s.words p 0) id me.1 w keeps) r × Covers me (get_or s.words p 0) counted (w, me.1)
  covers s r id me p counted y ys heavy at is e weight claim left room told nodes =
      let v : View = me.0 in
      let w : View = counted (covering y v) in
      let f = r.each id v at in
      let t = past s r v.nodes y ys e in
      let longer = subst (StartsWith r.nodes) (sym nodes) (grows r.nodes v.nodes y ys e) in (
        reviewed s r p id me.1 v w at weight claim left room longer (subst (StartsWith r.nodes) (sym told) f.told) (λ all. absurd (not_all r.nodes v.nodes y ys e all)),
        (
          y,
          ap (λ (z : ℕ). get_or s.words z 0) is ∙ t.0,
          refl,
          in_row s r v.room _ y (f.room heavy) t.1,
          few s r w.nodes v.room (f.room heavy) longer,
          distinct_tables w.nodes (Distinct-before w.nodes longer.0 (subst Distinct longer.1 r.distinct)),
        ),
      )

  end_of : (s : St) (r : Rule s) (front : List Node) → r.nodes ≡ front → get_or s.words (last_link 1 front) 0 ≡ 0
  end_of s r front e = last_empty s.words r.owner (r.top + 2) 1 0 front (subst (Chain s.words r.owner (r.top + 2) 1 0) e r.chain)

  pass_at : (slots id : ℕ) (me : M) (p : ℕ) → 1 ≤ me.0.weight → p ≡ last_link 1 me.0.nodes → (s : St) (r : Rule s) → get_elem? s.views id ≡ some me.0 → (rest : List Node) → r.nodes ≡ me.0.nodes ++ rest
      → (w : View) × Grown n s (stepped s p (get_or s.words p 0) id me.1 w keeps) r × passed (step slots p 0 0 none) me (get_or s.words p 0) (w, me.1)
  pass_at slots id me p heavy is s r at [] e =
      let v : View = me.0 in
      let f = r.each id v at in
      let zero_there : get_or s.words p 0 ≡ 0 = ap (λ (z : ℕ). get_or s.words z 0) is ∙ end_of s r v.nodes (e ∙ append-nil v.nodes) in
      (ending v, reviewed s r p id me.1 v (ending v) at refl refl refl refl f.front f.told (λ e. e), ((λ _. refl), λ l. absurd (omega arith)))
  pass_at slots id me p heavy is s r at (y ∷ ys) e =
      let t = covers s r id me p walking y ys heavy at is e refl refl refl refl refl refl in
      let shows = t.1.1 in
      (walking (covering y me.0), t.0, ((λ z. absurd (omega arith)), λ _. t.1))

  -- a load of the link past the front
  pub passes_on : (slots id : ℕ) (me : M) (p : ℕ) → 1 ≤ me.0.weight → p ≡ last_link 1 me.0.nodes → Advances n slots id me p (λ x. x) (passed (step slots p 0 0 none) me)
  passes_on slots id me p heavy is s r at = let f = r.each id me.0 at in let t = pass_at slots id me p heavy is s r at f.front.0 f.front.1 in (t.0, t.1, t.2)

  -- the seat's claim becomes the node behind all others
  won : (s : St) (r : Rule s) (id : ℕ) (cs : List (ℕ × ℕ)) (v : View) (p : ℕ) (t : List ℕ) → get_elem? s.views id ≡ some v → p ≡ last_link 1 v.nodes → r.nodes ≡ v.nodes → 1 ≤ v.weight
      → v.claim.written ≡ 0 ∷ length t ∷ t → v.claim.size ≡ 2 + length t → Absent t v.nodes → Grown n s (stepped s p (v.claim.start + 1) id cs (winning v) keeps) r × (2 * length (winning v).nodes ≤ v.room) × IsDistinct (map table_of (winning v).nodes)
  won s r id cs v p t at is all heavy spelled size absent =
      let w : View = winning v in
      let y : Node = own_node v in
      let f = r.each id v at in
      let start : ℕ = v.claim.start in
      let low = f.low in
      let high = f.high in
      let table : y.table ≡ t = ap (drop 2) spelled in
      let long : length y.table ≡ length t = ap length table in
      let written : length v.claim.written ≡ 2 + length t = (let l = ap length spelled in omega arith) in
      let wide = r.wide in
      let within = r.within in
      let is' : last_link 1 r.nodes ≡ p = ap (last_link 1) all ∙ sym is in
      let far = last_rooted s.words r.owner (r.top + 2) 1 0 r.nodes (root s r) r.chain in
      let p_low : 1 ≤ p = subst (λ (z : ℕ). 1 ≤ z) is' far.low in
      let p_high : p < r.top + 2 = subst (λ (z : ℕ). z < r.top + 2) is' far.high in
      let p_own : r.owner p ≡ 2 * (0 + length r.nodes) = subst (λ (z : ℕ). r.owner z ≡ 2 * (0 + length r.nodes)) is' far.own in
      let ws : List ℕ = set s.words p (start + 1) in
      let ow : ℕ → ℕ = λ q. cond (eqb (r.owner q) (2 * id + 1)) (2 * length r.nodes + 2) (r.owner q) in
      let rest : (q : ℕ) → q ≢ p → get_or ws q 0 ≡ get_or s.words q 0 = λ q ne. get_or-set_other s.words p q (start + 1) 0 ne in
      let zeroth : get_or ws 0 0 ≡ get_or s.words 0 0 = rest 0 (λ e. absurd (omega arith)) in
      let mine : (q : ℕ) → r.owner q ≡ 2 * id + 1 → ow q ≡ 2 * length r.nodes + 2 = λ q o. ap (λ (b : Bool). cond b (2 * length r.nodes + 2) (r.owner q)) (eq-eqb (r.owner q) (2 * id + 1) o) in
      let others : (q : ℕ) → r.owner q ≢ 2 * id + 1 → ow q ≡ r.owner q = λ q o. ap (λ (b : Bool). cond b (2 * length r.nodes + 2) (r.owner q)) (ne_eqb (r.owner q) (2 * id + 1) o) in
      let inside : (i : ℕ) → i < 2 + length t → r.owner (start + i) ≡ 2 * id + 1 = λ i l. f.own i (omega arith) in
      let away : (i : ℕ) → i < 2 + length t → start + i ≢ p = λ i l e. (let o = inside i l in let g = ap r.owner e in absurd (omega arith)) in
      let here : (i : ℕ) → i < 2 + length t → get_or ws (start + i) 0 ≡ get_or (0 ∷ length t ∷ t) i 0 =
      λ i l. rest (start + i) (away i l) ∙ (f.content i (omega arith) ∙ ap (λ (z : List ℕ). get_or z i 0) spelled) in
      let plus : start + 0 ≡ start = omega arith in
      let stands : Stands ws ow (r.top + 2) (0 + length r.nodes) y = record {
        low = low;
        high = omega arith;
        own = λ i l. (let o = mine (start + i) (inside i (omega arith)) in omega arith);
        size = here 1 (omega arith) ∙ sym long;
        content = λ i l. here (2 + i) (omega arith) ∙ (get_or-append-add (0 ∷ length t ∷ []) t i 0 ∙ ap (λ (z : List ℕ). get_or z i 0) (sym table));
      } in
      let sizes = total_set held s.views id v w at in
      let nodes = total_append node_size r.nodes (y ∷ []) in
      let used = r.used in
      let fits_in : total node_size (r.nodes ++ y ∷ []) + total held (set s.views id w) ≤ r.top = omega arith in
      let next : Rule (stepped s p (start + 1) id cs w keeps) = record {
        nodes = r.nodes ++ y ∷ [];
        owner = ow;
        top = r.top;
        wide = length-set s.words p (start + 1) ∙ r.wide;
        small = r.small;
        below = (let b = r.below in omega arith);
        within = r.within;
        root = (let o = r.root in others 1 (λ e. absurd (omega arith)) ∙ o);
        chain = appended s.words r.owner (r.top + 2) ws ow (r.top + 2) (omega arith) p y (λ q m _ _ _ ne. rest q ne) (λ q m _ _ o. others q (λ e. absurd (omega arith)))
            (get_or-set_same s.words p (start + 1) 0 (omega arith)) (ap (λ (z : ℕ). get_or ws z 0) (sym plus) ∙ here 0 (omega arith)) 1 0 r.nodes is' stands (root s r) r.chain;
        distinct = Distinct-append r.nodes y (subst (λ (z : List ℕ × List Node). Absent z.0 z.1) (λ i. (sym table i, sym all i)) absent) r.distinct;
        used = fits_in;
        weights = total_same weight_of s.views id v w at refl ∙ r.weights;
        bounded = (let t = total_same (informed n) s.views id v w at refl in subst (λ (z : ℕ × ℕ). z.0 ≤ n + n * z.1) (λ i. (sym zeroth i, sym t i)) r.bounded);
        led = record { leader = id; best = w; seated = set_there s.views id v w at; leads = heavy; whole = ap (λ (l : List Node). l ++ y ∷ []) (sym all) };
        each = each_set (Fits ws ow (r.top + 2) n (r.nodes ++ y ∷ [])) s.views id w
            record {
              room = f.room;
              front = ([], ap (λ (l : List Node). l ++ y ∷ []) all ∙ sym (append-nil (v.nodes ++ y ∷ [])));
              told = later (r.nodes ++ y ∷ []) r.nodes v.told (begins r.nodes (y ∷ [])) f.told;
              low = omega arith;
              high = omega arith;
              own = λ i l. absurd (omega arith);
              short = omega arith;
              content = λ i l. absurd (omega arith);
              left = (let l = f.left in omega arith);
            }
            (λ j d other there. refits s.words r.owner (r.top + 2) ws ow (r.top + 2) n r.nodes (r.nodes ++ y ∷ []) (omega arith) (omega arith) (begins r.nodes (y ∷ [])) j d
            (λ q _ _ o. (rest q (λ e. let g = ap r.owner e in absurd (omega arith)), others q (λ e. absurd (other (omega arith))))) (r.each j d there));
      } in
      ((next, begins r.nodes (y ∷ []), omega arith), (let twos = twice (r.nodes ++ y ∷ []) in let same = ap length all in let a = length-append v.nodes (y ∷ []) in let b = length-append r.nodes (y ∷ []) in let room = f.room heavy in omega arith), distinct_tables (v.nodes ++ y ∷ []) (subst (λ (l : List Node). Distinct (l ++ y ∷ [])) all next.distinct))

  link_at : (slots id : ℕ) (me : M) (p : ℕ) (t : List ℕ) → p ≡ last_link 1 me.0.nodes → 1 ≤ me.0.weight → me.0.claim.written ≡ 0 ∷ length t ∷ t → me.0.claim.size ≡ 2 + length t → Absent t me.0.nodes
      → (s : St) (r : Rule s) → get_elem? s.views id ≡ some me.0 → (rest : List Node) → r.nodes ≡ me.0.nodes ++ rest
      → (w : View) × Grown n s (stepped s p (either (eqb (get_or s.words p 0) 0) (me.0.claim.start + 1) (get_or s.words p 0)) id me.1 w keeps) r
      × linked (step slots p 0 (me.0.claim.start + 1) none) me (get_or s.words p 0) (w, me.1)
  link_at slots id me p t is heavy spelled size absent s r at [] e =
      let v : View = me.0 in
      let all : r.nodes ≡ v.nodes = e ∙ append-nil v.nodes in
      let zero_there : get_or s.words p 0 ≡ 0 = ap (λ (z : ℕ). get_or s.words z 0) is ∙ end_of s r v.nodes all in
      let k = won s r id me.1 v p t at is all heavy spelled size absent in (
        winning v,
        subst (λ (b : Bool). Grown n s (stepped s p (either b (v.claim.start + 1) (get_or s.words p 0)) id me.1 (winning v) keeps) r) (sym (eq-eqb (get_or s.words p 0) 0 zero_there)) k.0,
        ((λ _. (refl, k.1, k.2)), λ l. absurd (omega arith)),
      )
  link_at slots id me p t is heavy spelled size absent s r at (y ∷ ys) e =
      let v : View = me.0 in
      let k = covers s r id me p (λ u. u) y ys heavy at is e refl refl refl refl refl refl in
      let shows = k.1.1 in (
        covering y v,
        subst (λ (b : Bool). Grown n s (stepped s p (either b (v.claim.start + 1) (get_or s.words p 0)) id me.1 (covering y v) keeps) r) (sym (ne_eqb (get_or s.words p 0) 0 (λ z. absurd (omega arith)))) k.0,
        ((λ z. absurd (omega arith)), λ _. k.1),
      )

  -- the exchange of the link past the front, won or lost
  pub links_on : (slots id : ℕ) (me : M) (p new : ℕ) (t : List ℕ) → new ≡ me.0.claim.start + 1 → p ≡ last_link 1 me.0.nodes → 1 ≤ me.0.weight → me.0.claim.written ≡ 0 ∷ length t ∷ t → me.0.claim.size ≡ 2 + length t → Absent t me.0.nodes
      → Advances n slots id me p (λ x. either (eqb x 0) new x) (linked (step slots p 0 new none) me)
  links_on slots id me p new t fresh is heavy spelled size absent =
      subst (λ (z : ℕ). Advances n slots id me p (λ x. either (eqb x 0) z x) (linked (step slots p 0 z none) me)) (sym fresh)
      (λ s r at. let f = r.each id me.0 at in let t = link_at slots id me p t is heavy spelled size absent s r at f.front.0 f.front.1 in (t.0, t.1, t.2))

  pub informed_yes : (v : View) → n < v.left → informed n v ≡ v.weight
  informed_yes v l = ap (λ (b : Bool). cond b v.weight 0) (lt-ltb n v.left l)

  pub informed_no : (v : View) → v.left ≤ n → informed n v ≡ 0
  informed_no v l = ap (λ (b : Bool). cond b v.weight 0) (le-ltb n v.left l)

  informed_below : (v : View) → informed n v ≤ v.weight
  informed_below v = dite (dec_le v.left n) (λ l. let e = informed_no v l in omega arith) (λ g. let e = informed_yes v (lt_of_not-le g) in omega arith)

  -- the claimed words stay far below 2^64
  pub capped : (s : St) (r : Rule s) → get_or s.words 0 0 ≤ n + 2 ^ 60
  capped s r =
      let a = total_below (informed n) weight_of informed_below s.views in
      let b = r.weights in
      let c = mul-le n (total (informed n) s.views) (2 ^ 28) (2 ^ 32) r.small (omega arith) in
      let d = r.bounded in
      omega arith

  reclaimed : (s : St) (r : Rule s) (id k : ℕ) (cs : List (ℕ × ℕ)) (v w : View) (owner : ℕ → ℕ) (top : ℕ) → get_elem? s.views id ≡ some v
      → w.weight ≡ v.weight → w.nodes ≡ v.nodes → w.told ≡ v.told → w.room ≡ v.room → w.left ≡ get_or s.words 0 0 + k → w.claim.written ≡ []
      → r.top ≤ top → top ≤ get_or s.words 0 0 + k → top ≤ n → r.top + w.claim.size ≤ top → 2 ≤ w.claim.start → w.claim.start + w.claim.size ≤ top + 2
      → ((q : ℕ) → q < r.top + 2 → owner q ≡ r.owner q) → ((i : ℕ) → i < w.claim.size → owner (w.claim.start + i) ≡ 2 * id + 1)
      → get_or s.words 0 0 + k ≤ n + n * total (informed n) (set s.views id w) → Grown n s (stepped s 0 (get_or s.words 0 0 + k) id cs w keeps) r
  reclaimed s r id k cs v w owner top at weight nodes told room left blank more below within used low high same own bounded =
      let f = r.each id v at in
      let wide = r.wide in
      let c : ℕ = get_or s.words 0 0 in
      let ws : List ℕ = set s.words 0 (c + k) in
      let zeroth : get_or ws 0 0 ≡ c + k = get_or-set_same s.words 0 (c + k) 0 (omega arith) in
      let rest : (q : ℕ) → q ≢ 0 → get_or ws q 0 ≡ get_or s.words q 0 = λ q ne. get_or-set_other s.words 0 q (c + k) 0 ne in
      let none_written = ap length blank in (
        record {
          nodes = r.nodes;
          owner = owner;
          top = top;
          wide = length-set s.words 0 (c + k) ∙ r.wide;
          small = r.small;
          below = omega arith;
          within = within;
          root = same 1 (omega arith) ∙ r.root;
          chain = framed s.words r.owner (r.top + 2) ws owner (top + 2) (omega arith) (λ q m l h _. (rest q (λ e. absurd (omega arith)), same q h)) 1 0 r.nodes (root s r) r.chain;
          distinct = r.distinct;
          used = (let u = r.used in let t = total_set held s.views id v w at in omega arith);
          weights = total_same weight_of s.views id v w at weight ∙ r.weights;
          bounded = subst (λ (z : ℕ). z ≤ n + n * total (informed n) (set s.views id w)) (sym zeroth) bounded;
          led = led_set s.views id v w r.nodes at (λ h. omega arith) (λ e. nodes ∙ e) r.led;
          each = each_set (Fits ws owner (top + 2) n r.nodes) s.views id w
              record {
                room = λ h. room ∙ f.room (omega arith);
                front = subst (StartsWith r.nodes) (sym nodes) f.front;
                told = subst (StartsWith r.nodes) (sym told) f.told;
                low = low;
                high = high;
                own = own;
                short = omega arith;
                content = λ i l. absurd (omega arith);
                left = omega arith;
              }
              (λ j d other there. refits s.words r.owner (r.top + 2) ws owner (top + 2) n r.nodes r.nodes (omega arith) (omega arith) ([], sym (append-nil r.nodes)) j d
              (λ q l h o. (rest q (λ e. absurd (omega arith)), same q h)) (r.each j d there));
        },
        same_nodes r.nodes,
        omega arith,
      )

  pub claim_fits : (room found k : ℕ) → found + k ≤ room → claim_at room found k ≡ record { start = found + 2; size = k; written = [] }
  claim_fits room found k l = ap (λ (b : Bool). cond b no_claim (record { start = found + 2; size = k; written = [] })) (le-ltb room (found + k) l)

  pub claim_fails : (room found k : ℕ) → room < found + k → claim_at room found k ≡ no_claim
  claim_fails room found k l = ap (λ (b : Bool). cond b no_claim (record { start = found + 2; size = k; written = [] })) (lt-ltb room (found + k) l)

  claim_row : (s : St) (r : Rule s) (id k : ℕ) (cs : List (ℕ × ℕ)) (v : View) → get_elem? s.views id ≡ some v → 1 ≤ v.weight → v.left ≤ v.room → k ≤ v.room
      → Grown n s (stepped s 0 (get_or s.words 0 0 + k) id cs (claiming (get_or s.words 0 0) k v) keeps) r
  claim_row s r id k cs v at heavy unaware small =
      let f = r.each id v at in
      let room = f.room heavy in
      let c : ℕ = get_or s.words 0 0 in
      let w : View = claiming c k v in
      let below = r.below in
      let within = r.within in
      let old_bound = r.bounded in
      let before = informed_no v (omega arith) in
      let sum = total_set (informed n) s.views id v w at in
      dite (dec_le (c + k) n)
      (λ fits.
      let is = claim_fits v.room c k (omega arith) in
      let a = ap (λ (x : Claim). x.start) is in
      let b = ap (λ (x : Claim). x.size) is in
      let ow : ℕ → ℕ = λ q. cond (ltb q (r.top + 2)) (r.owner q) (2 * id + 1) in
      reclaimed s r id k cs v w ow (c + k) at refl refl refl refl refl (ap (λ (x : Claim). x.written) is) (omega arith) (omega arith) (omega arith) (omega arith) (omega arith) (omega arith)
      (λ q l. ap (λ (t : Bool). cond t (r.owner q) (2 * id + 1)) (lt-ltb q (r.top + 2) l))
      (λ i l. ap (λ (t : Bool). cond t (r.owner (w.claim.start + i)) (2 * id + 1)) (le-ltb (w.claim.start + i) (r.top + 2) (omega arith)))
      (omega arith))
      (λ more.
      let over : n < c + k = lt_of_not-le more in
      let is = claim_fails v.room c k (omega arith) in
      let a = ap (λ (x : Claim). x.start) is in
      let b = ap (λ (x : Claim). x.size) is in
      let now = informed_yes w over in
      let before_sum : ℕ = total (informed n) s.views in
      let after_sum : ℕ = total (informed n) (set s.views id w) in
      let rises : before_sum + 1 ≤ after_sum = omega arith in
      let m : n * (before_sum + 1) ≤ n * after_sum = mul-le-mul_left n rises in
      let d : n * (before_sum + 1) ≡ n * before_sum + n = (let e : before_sum + 1 ≡ suc before_sum = omega arith in ap (λ (z : ℕ). n * z) e ∙ (mul-suc n before_sum)) in
      reclaimed s r id k cs v w r.owner r.top at refl refl refl refl refl (ap (λ (x : Claim). x.written) is) (omega arith) (omega arith) (omega arith) (omega arith) (omega arith) (omega arith)
      (λ q _. refl) (λ i l. absurd (omega arith)) (omega arith))

  -- a claim
  pub claims_on : (slots id : ℕ) (me : M) (k : ℕ) → 1 ≤ me.0.weight → me.0.left ≤ me.0.room → k ≤ me.0.room → Advances n slots id me 0 (λ x. (x + k) % 2 ^ 64) (claimed (step slots 0 k 0 none) me)
  claims_on slots id me k heavy unaware small s r at =
      let v : View = me.0 in
      let f = r.each id v at in
      let room = f.room heavy in
      let c : ℕ = get_or s.words 0 0 in
      let cap = capped s r in
      let least = r.small in
      let is : c + k ≡ (c + k) % 2 ^ 64 = omega arith in
      let w : View = claiming c k v in
      (w, subst (λ (z : ℕ). Grown n s (stepped s 0 z id me.1 w keeps) r) is (claim_row s r id k me.1 v at heavy unaware small), (refl, omega arith))

  -- the same in the form that a step asks
  pub stores : (slots id : ℕ) (me : M) (p x : ℕ) → p ≡ me.0.claim.start + length me.0.claim.written → length me.0.claim.written < me.0.claim.size
      → Allows Rule slots id me p (λ _. x) (λ _. wrote (step slots p x 0 none) me x)
  stores slots id me p x is room = forget slots id me p (λ _. x) (λ _. wrote (step slots p x 0 none) me x) (stores_on slots id me p x is room)

  pub notes : (slots id : ℕ) (me : M) (k : ℕ) → Allows Rule slots id me 0 (λ x. either (eqb x k) k x) (noted (step slots 0 k k none) me)
  notes slots id me k = forget slots id me 0 (λ x. either (eqb x k) k x) (noted (step slots 0 k k none) me) (notes_on slots id me k)

  pub walks : (slots id : ℕ) (me : M) (p : ℕ) → 1 ≤ me.0.weight → Allows Rule slots id me p (λ x. x) (walked (step slots p 0 0 none) me)
  walks slots id me p heavy = forget slots id me p (λ x. x) (walked (step slots p 0 0 none) me) (walks_on slots id me p heavy)

  pub sizes : (slots id : ℕ) (me : M) (p : ℕ) → Allows Rule slots id me p (λ x. x) (sized (step slots p 0 0 none) me)
  sizes slots id me p = forget slots id me p (λ x. x) (sized (step slots p 0 0 none) me) (sizes_on slots id me p)

  pub reads : (slots id : ℕ) (me : M) (p : ℕ) → Allows Rule slots id me p (λ x. x) (read (step slots p 0 0 none) me)
  reads slots id me p = forget slots id me p (λ x. x) (read (step slots p 0 0 none) me) (reads_on slots id me p)

  pub passes : (slots id : ℕ) (me : M) (p : ℕ) → 1 ≤ me.0.weight → p ≡ last_link 1 me.0.nodes → Allows Rule slots id me p (λ x. x) (passed (step slots p 0 0 none) me)
  passes slots id me p heavy is = forget slots id me p (λ x. x) (passed (step slots p 0 0 none) me) (passes_on slots id me p heavy is)

  pub claims : (slots id : ℕ) (me : M) (k : ℕ) → 1 ≤ me.0.weight → me.0.left ≤ me.0.room → k ≤ me.0.room → Allows Rule slots id me 0 (λ x. (x + k) % 2 ^ 64) (claimed (step slots 0 k 0 none) me)
  claims slots id me k heavy unaware small = forget slots id me 0 (λ x. (x + k) % 2 ^ 64) (claimed (step slots 0 k 0 none) me) (claims_on slots id me k heavy unaware small)

  pub links : (slots id : ℕ) (me : M) (p new : ℕ) (t : List ℕ) → new ≡ me.0.claim.start + 1 → p ≡ last_link 1 me.0.nodes → 1 ≤ me.0.weight → me.0.claim.written ≡ 0 ∷ length t ∷ t → me.0.claim.size ≡ 2 + length t → Absent t me.0.nodes
      → Allows Rule slots id me p (λ x. either (eqb x 0) new x) (linked (step slots p 0 new none) me)
  links slots id me p new t fresh is heavy spelled size absent =
      forget slots id me p (λ x. either (eqb x 0) new x) (linked (step slots p 0 new none) me) (links_on slots id me p new t fresh is heavy spelled size absent)
