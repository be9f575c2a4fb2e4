-- A new row, a pass that is cut in two, and two that are joined.
use Rattle.std.proofs.Common.{◌≡◌, ℕ, zero, suc, ◌+◌, ◌*◌, ◌^◌, ◌<◌, ◌≤◌, max, Bool, cond, List, [], ◌∷◌, ◌++◌, length, get_or, drop, set, sym, refl, ap, ◌∙◌, subst, ⊎_elim, length-append, lt-ltb, le-ltb, lt_of_not-le, mul-le-mul_left, arith}
use Rattle.std.proofs.lemmas.List.{append-nil}
use mathlib.Core.Logic.{dite}
use mathlib.Core.Option.{none, some, some-injective, some-ne-none}
use native.Mathlib.Decide.{dec_le, ℕ_discrete}
use lib.ListN.{get_elem?}
use Rattle.atomic_table.specs.Table.{step, keeps, opening, Allows, Splits, Joins}
use Rattle.atomic_table.proofs.Lists.{at_snoc, at_longer, set_else}
use Rattle.stabby_row.specs.declared.view.Node.{Node}
use Rattle.stabby_row.specs.declared.view.View.{View}
use Rattle.stabby_row.specs.Rule.{RowRule, Fits, StartsWith, total, weight_of, held, informed, opening_view}
use Rattle.stabby_row.specs.Telling.{learned, left_of, right_of, longer_of, shorter_of, both_of, spent}
use Rattle.stabby_row.proofs.SumLemmas.{total_set, total_append, total_at, total_same}
use Rattle.stabby_row.proofs.ViewLemmas.{set_there, each_set, led_set}
use Rattle.stabby_row.specs.Laws.{St, M, Grown, Advances}
use Rattle.stabby_row.proofs.StepsKeepRule.{forget, informed_yes, informed_no, reviewed}

module _ {A : Type 0} where
  -- a prefix that is as long as the list is the list
  pub full : (xs ys : List A) → StartsWith xs ys → length xs ≤ length ys → ys ≡ xs
  full xs ys p l = full_at xs ys p.0 p.1 l where
    full_at : (xs ys rest : List A) → xs ≡ ys ++ rest → length xs ≤ length ys → ys ≡ xs
    full_at xs ys [] e l = sym (e ∙ append-nil ys)
    full_at xs ys (z ∷ zs) e l = let a = ap length e in let b = length-append ys (z ∷ zs) in absurd (omega arith)

  -- of two prefixes of one list the shorter begins the longer
  pub nested : (xs ys zs : List A) → StartsWith xs ys → StartsWith xs zs → length zs ≤ length ys → StartsWith ys zs
  nested xs ys [] p q l = (ys, refl)
  nested [] ys (z ∷ zs) p q l = let a = ap length q.1 in absurd (omega arith)
  nested (x ∷ xs) [] (z ∷ zs) p q l = absurd (omega arith)
  nested (x ∷ xs) (y ∷ ys) (z ∷ zs) p q l =
      let t = nested xs ys zs (p.0, ap (drop 1) p.1) (q.0, ap (drop 1) q.1) (omega arith) in
      let h : y ≡ z = sym (ap (λ (l : List A). get_or l 0 x) p.1) ∙ ap (λ (l : List A). get_or l 0 x) q.1 in
      (t.0, λ i. h i ∷ t.1 i)

module _ (n : ℕ) where
  abbrev Rule : St → Type 0
  Rule = RowRule n

  pub opens : (ws : List ℕ) → length ws ≡ n + 2 → n ≤ 2 ^ 28 → get_or ws 0 0 ≡ 0 → get_or ws 1 0 ≡ 0 → Rule (opening ws [] (opening_view n))
  opens ws wide small zeroth first = record {
    nodes = [];
    owner = λ _. 0;
    top = 0;
    wide = wide;
    small = small;
    below = omega arith;
    within = omega arith;
    root = refl;
    chain = first;
    distinct = tt;
    used = omega arith;
    weights = refl;
    bounded = omega arith;
    led = record { leader = 0; best = opening_view n; seated = refl; leads = omega arith; whole = refl };
    each = alone ws zeroth;
  } where
    alone : (ws : List ℕ) → get_or ws 0 0 ≡ 0 → (j : ℕ) (v : View) → get_elem? (opening_view n ∷ []) j ≡ some v → Fits ws (λ _. 0) 2 n [] j v
    alone ws zeroth zero v e = subst (Fits ws (λ _. 0) 2 n [] 0) (some-injective (opening_view n) v e) record {
      room = λ _. refl;
      front = ([], refl);
      told = ([], refl);
      low = omega arith;
      high = omega arith;
      own = λ i l. absurd (omega arith);
      short = omega arith;
      content = λ i l. absurd (omega arith);
      left = omega arith;
    }
    alone ws zeroth (suc j) v e = absurd (some-ne-none v (sym e))

  -- a load that tells that what the pass was told of begins its front
  pub learns_on : (slots id : ℕ) (me : M) (p : ℕ) → Advances n slots id me p (λ x. x) (learned (step slots p 0 0 none) me)
  learns_on slots id me p s r at =
      let v : View = me.0 in
      let f = r.each id v at in
      (v, reviewed n s r p id me.1 v v at refl refl refl refl f.front f.told (λ e. e), (refl, (λ l. nested r.nodes v.nodes v.told f.front f.told l), (let a = total_at weight_of s.views id v at in let b = r.weights in omega arith)))

  pub learns : (slots id : ℕ) (me : M) (p : ℕ) → Allows Rule slots id me p (λ x. x) (learned (step slots p 0 0 none) me)
  learns slots id me p = forget n slots id me p (λ x. x) (learned (step slots p 0 0 none) me) (learns_on slots id me p)

  cut : (v : View) → v.tally.asked ≤ v.weight → informed n (left_of v) + informed n (right_of v) ≡ informed n v
  cut v l = dite (dec_le v.left n)
      (λ h. let a = informed_no n v h in let b = informed_no n (left_of v) h in let c = informed_no n (right_of v) h in omega arith)
      (λ g. let m = lt_of_not-le g in let a = informed_yes n v m in let b = informed_yes n (left_of v) m in let c = informed_yes n (right_of v) m in omega arith)

  pub splits : (id : ℕ) (v : View) → 1 ≤ v.tally.asked → v.tally.asked < v.weight → Splits Rule id v (left_of v) (right_of v)
  splits id v part less s r at =
      let f = r.each id v at in
      let x : View = left_of v in
      let y : View = right_of v in
      let vs : List View = set s.views id x in
      record {
        nodes = r.nodes;
        owner = r.owner;
        top = r.top;
        wide = r.wide;
        small = r.small;
        below = r.below;
        within = r.within;
        root = r.root;
        chain = r.chain;
        distinct = r.distinct;
        used = (let u = r.used in let a = total_same held s.views id v x at refl in let b = total_append held vs (y ∷ []) in omega arith);
        weights = (let u = r.weights in let a = total_set weight_of s.views id v x at in let b = total_append weight_of vs (y ∷ []) in omega arith);
        bounded = (let a = total_set (informed n) s.views id v x at in let b = total_append (informed n) vs (y ∷ []) in let c = cut v (omega arith) in
            let t : total (informed n) (vs ++ y ∷ []) ≡ total (informed n) s.views = omega arith in subst (λ (z : ℕ). get_or s.words 0 0 ≤ n + n * z) (sym t) r.bounded);
        led = (let l = led_set s.views id v x r.nodes at (λ _. omega arith) (λ e. e) r.led in
            record { leader = l.leader; best = l.best; seated = at_longer vs (y ∷ []) l.leader l.best l.seated; leads = l.leads; whole = l.whole });
        each = λ j d e. ⊎_elim
            (each_set (Fits s.words r.owner (r.top + 2) n r.nodes) s.views id x
            record { room = λ _. f.room (omega arith); front = f.front; told = f.told; low = f.low; high = f.high; own = f.own; short = f.short; content = f.content; left = f.left } (λ j d _. r.each j d) j d)
            (λ (t : y ≡ d). subst (Fits s.words r.owner (r.top + 2) n r.nodes j) t
            record { room = λ _. f.room (omega arith); front = f.front; told = (r.nodes, refl); low = omega arith; high = omega arith; own = λ i l. absurd (omega arith); short = omega arith; content = λ i l. absurd (omega arith); left = f.left })
            (at_snoc vs y d j e);
      }

  pub longer_either : (P : List Node → Type 0) (xs ys : List Node) → P xs → P ys → P (longer_of xs ys)
  longer_either P xs ys p q = dite (dec_le (length ys) (length xs))
      (λ l. subst (λ (b : Bool). P (cond b ys xs)) (sym (le-ltb (length xs) (length ys) l)) p)
      (λ g. subst (λ (b : Bool). P (cond b ys xs)) (sym (lt-ltb (length xs) (length ys) (lt_of_not-le g))) q)

  shorter_either : (P : List Node → Type 0) (xs ys : List Node) → P xs → P ys → P (shorter_of xs ys)
  shorter_either P xs ys p q = dite (dec_le (length ys) (length xs))
      (λ l. subst (λ (b : Bool). P (cond b xs ys)) (sym (le-ltb (length xs) (length ys) l)) q)
      (λ g. subst (λ (b : Bool). P (cond b xs ys)) (sym (lt-ltb (length xs) (length ys) (lt_of_not-le g))) p)

  pub shorter_below : (xs ys : List Node) → length (shorter_of xs ys) ≤ length (longer_of xs ys)
  shorter_below xs ys = dite (dec_le (length ys) (length xs))
      (λ l. subst (λ (b : Bool). length (cond b xs ys) ≤ length (cond b ys xs)) (sym (le-ltb (length xs) (length ys) l)) l)
      (λ g. let m = lt_of_not-le g in subst (λ (b : Bool). length (cond b xs ys) ≤ length (cond b ys xs)) (sym (lt-ltb (length xs) (length ys) m)) (omega arith))

  pub length_longer : (xs ys : List Node) → length (longer_of xs ys) ≡ max (length xs) (length ys)
  length_longer xs ys = dite (dec_le (length ys) (length xs))
      (λ l. ap (λ (b : Bool). length (cond b ys xs)) (le-ltb (length xs) (length ys) l) ∙ omega arith)
      (λ g. let m = lt_of_not-le g in ap (λ (b : Bool). length (cond b ys xs)) (lt-ltb (length xs) (length ys) m) ∙ omega arith)

  -- both begin the longer, where the shorter does
  pub both_begin : (xs ys : List Node) → StartsWith (longer_of xs ys) (shorter_of xs ys) → StartsWith (longer_of xs ys) xs × StartsWith (longer_of xs ys) ys
  both_begin xs ys s = dite (dec_le (length ys) (length xs))
      (λ l. let e = le-ltb (length xs) (length ys) l in
      subst (λ (b : Bool). StartsWith (cond b ys xs) (cond b xs ys) → StartsWith (cond b ys xs) xs × StartsWith (cond b ys xs) ys) (sym e) (λ h. (([], sym (append-nil xs)), h)) s)
      (λ g. let e = lt-ltb (length xs) (length ys) (lt_of_not-le g) in
      subst (λ (b : Bool). StartsWith (cond b ys xs) (cond b xs ys) → StartsWith (cond b ys xs) xs × StartsWith (cond b ys xs) ys) (sym e) (λ h. (h, ([], sym (append-nil ys)))) s)

  -- where one of the two is the whole, so is the longer
  whole_left : (nodes xs ys : List Node) → StartsWith nodes ys → xs ≡ nodes → longer_of xs ys ≡ nodes
  whole_left nodes xs ys q e = let a = ap length q.1 in let b = length-append ys q.0 in let c = ap length e in ap (λ (b : Bool). cond b ys xs) (le-ltb (length xs) (length ys) (omega arith)) ∙ e

  whole_right : (nodes xs ys : List Node) → StartsWith nodes xs → ys ≡ nodes → longer_of xs ys ≡ nodes
  whole_right nodes xs ys p e = dite (dec_le (length ys) (length xs))
      (λ l. let c = ap length e in ap (λ (b : Bool). cond b ys xs) (le-ltb (length xs) (length ys) l) ∙ full nodes xs p (omega arith))
      (λ g. ap (λ (b : Bool). cond b ys xs) (lt-ltb (length xs) (length ys) (lt_of_not-le g)) ∙ e)

  joined : (v w : View) → informed n v + informed n w ≤ informed n (both_of v w)
  joined v w = dite (dec_le v.left n)
      (λ h. dite (dec_le w.left n)
      (λ k. let a = informed_no n v h in let b = informed_no n w k in omega arith)
      (λ g. let m = lt_of_not-le g in let a = informed_no n v h in let b = informed_yes n w m in let c = informed_yes n (both_of v w) (omega arith) in omega arith))
      (λ g. let m = lt_of_not-le g in let a = informed_yes n v m in let c = informed_yes n (both_of v w) (omega arith) in
      let b : informed n w ≤ w.weight = dite (dec_le w.left n) (λ k. let t = informed_no n w k in omega arith) (λ k. let t = informed_yes n w (lt_of_not-le k) in omega arith) in omega arith)

  pub joins : (id : ℕ) (v : View) (other : ℕ) (w : View) → 1 ≤ v.weight → Joins Rule id v other w (both_of v w) spent
  joins id v other w heavy s r at apart there =
      let f = r.each id v at in
      let x : View = both_of v w in
      let vs : List View = set s.views id x in
      let before : get_elem? s.views other ≡ some w = sym (set_else s.views id other x apart) ∙ there in
      let g = r.each other w before in
      let fl = f.left in
      let gl = g.left in
      let fitted : Fits s.words r.owner (r.top + 2) n r.nodes id x = record {
        room = λ _. f.room heavy;
        front = longer_either (StartsWith r.nodes) v.nodes w.nodes f.front g.front;
        told = shorter_either (StartsWith r.nodes) v.nodes w.nodes f.front g.front;
        low = f.low;
        high = f.high;
        own = f.own;
        short = f.short;
        content = f.content;
        left = omega arith;
      } in
      let empty : Fits s.words r.owner (r.top + 2) n r.nodes other spent = record {
        room = λ h. absurd (omega arith);
        front = (r.nodes, refl);
        told = (r.nodes, refl);
        low = omega arith;
        high = omega arith;
        own = λ i l. absurd (omega arith);
        short = omega arith;
        content = λ i l. absurd (omega arith);
        left = omega arith;
      } in
      let us : List View = set vs other spent in
      let mine : get_elem? us id ≡ some x = set_else vs other id spent (λ e. apart (sym e)) ∙ set_there s.views id v x at in
      let l = r.led in
      record {
        nodes = r.nodes;
        owner = r.owner;
        top = r.top;
        wide = r.wide;
        small = r.small;
        below = r.below;
        within = r.within;
        root = r.root;
        chain = r.chain;
        distinct = r.distinct;
        used = (let u = r.used in let a = total_same held s.views id v x at refl in let b = total_set held vs other w spent there in omega arith);
        weights = (let u = r.weights in let a = total_set weight_of s.views id v x at in let b = total_set weight_of vs other w spent there in omega arith);
        bounded = (
            let a = total_set (informed n) s.views id v x at in
            let b = total_set (informed n) vs other w spent there in
            let c = joined v w in
            let d = informed_no n spent (omega arith) in
            let e : total (informed n) s.views ≤ total (informed n) us = omega arith in
            let m = mul-le-mul_left n e in
            let u = r.bounded in
            omega arith
            );
        led = dite (ℕ_discrete l.leader id)
            (λ e. let best : v ≡ l.best = some-injective v l.best (sym at ∙ (ap (λ (z : ℕ). get_elem? s.views z) (sym e) ∙ l.seated)) in
            record { leader = id; best = x; seated = mine; leads = omega arith; whole = whole_left r.nodes v.nodes w.nodes g.front (ap (λ (z : View). z.nodes) best ∙ l.whole) })
            (λ ne. dite (ℕ_discrete l.leader other)
            (λ e. let best : w ≡ l.best = some-injective w l.best (sym before ∙ (ap (λ (z : ℕ). get_elem? s.views z) (sym e) ∙ l.seated)) in
            record { leader = id; best = x; seated = mine; leads = omega arith; whole = whole_right r.nodes v.nodes w.nodes f.front (ap (λ (z : View). z.nodes) best ∙ l.whole) })
            (λ no. record { leader = l.leader; best = l.best; seated = set_else vs other l.leader spent no ∙ (set_else s.views id l.leader x ne ∙ l.seated); leads = l.leads; whole = l.whole }));
        each = each_set (Fits s.words r.owner (r.top + 2) n r.nodes) vs other spent empty
            (λ j d _. each_set (Fits s.words r.owner (r.top + 2) n r.nodes) s.views id x fitted (λ i u _. r.each i u) j d);
      }
