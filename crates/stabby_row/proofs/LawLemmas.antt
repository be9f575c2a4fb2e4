-- What the rule says of the row as a whole.
use Rattle.std.proofs.Common.{◌≡◌, ◌≢◌, ℕ, zero, suc, ◌+◌, ◌*◌, ◌^◌, ◌<◌, ◌≤◌, List, [], ◌∷◌, ◌++◌, length, get_or, sym, ap, ◌∙◌, append_assoc, length-append, arith}
use mathlib.Core.Logic.{dite}
use mathlib.Core.Option.{some, some-injective, some-ne-none}
use native.Mathlib.Decide.{ℕ_discrete}
use Rattle.std.proofs.lemmas.List.{append-nil}
use lib.ListN.{get_elem?}
use Rattle.stabby_row.specs.declared.view.Node.{Node}
use Rattle.stabby_row.specs.declared.view.View.{View}
use Rattle.stabby_row.specs.Rule.{RowRule, Stands, total, last_link, weight_of}
use Rattle.stabby_row.specs.Laws.{St, Grown, Apart, RangesLieApart, EachStepKeepsTheRule}
use Rattle.stabby_row.proofs.SumLemmas.{total_at}
use Rattle.stabby_row.proofs.StepsKeepRule.{shown, twice, capped, claims_on, stores_on, walks_on, passes_on, sizes_on, reads_on, links_on, notes_on}
use Rattle.stabby_row.proofs.MovesKeepRule.{learns_on}

module _ {A : Type 0} (f : A → ℕ) where
  -- two members of a list weigh no more than the whole
  pub total_two : (l : List A) (i j : ℕ) (a b : A) → i ≢ j → get_elem? l i ≡ some a → get_elem? l j ≡ some b → f a + f b ≤ total f l
  total_two [] i j a b n p q = absurd (some-ne-none a (sym p))
  total_two (x ∷ xs) zero zero a b n p q = absurd (n (omega arith))
  total_two (x ∷ xs) zero (suc j) a b n p q = let s = ap f (some-injective x a p) in let t = total_at f xs j b q in omega arith
  total_two (x ∷ xs) (suc i) zero a b n p q = let s = ap f (some-injective x b q) in let t = total_at f xs i a p in omega arith
  total_two (x ∷ xs) (suc i) (suc j) a b n p q = let t = total_two xs i j a b (λ e. n (ap suc e)) p q in omega arith

-- two nodes of a chain share no word
nodes_apart : (words : List ℕ) (owner : ℕ → ℕ) (bound k m : ℕ) (x y : Node) → Stands words owner bound k x → Stands words owner bound m y → k ≢ m → Apart x.at (2 + length x.table) y.at (2 + length y.table)
nodes_apart words owner bound k m x y a b ne i j l h e = let p = a.own i l in let q = b.own j h in let o = ap owner e in ne (omega arith)

module _ (n : ℕ) (s : St) (r : RowRule n s) where
  -- a whole pass has seen all
  pub whole_has_all : (j : ℕ) (v : View) → get_elem? s.views j ≡ some v → v.weight ≡ 2 ^ 32 → v.nodes ≡ r.nodes
  whole_has_all j v at w = dite (ℕ_discrete j r.led.leader)
      (λ e. let same = some-injective v r.led.best (sym at ∙ (ap (λ (z : ℕ). get_elem? s.views z) e ∙ r.led.seated)) in ap (λ (z : View). z.nodes) same ∙ r.led.whole)
      (λ ne. let t = total_two weight_of s.views j r.led.leader v r.led.best ne at r.led.seated in let a = r.weights in let b = r.led.leads in absurd (omega arith))

  stands : (done todo : List Node) (x : Node) → r.nodes ≡ done ++ x ∷ todo → Stands s.words r.owner (r.top + 2) (0 + length done) x
  stands done todo x e = (shown n s r r.nodes done todo [] x (sym (append-nil r.nodes)) e).1

  pub lie_apart : RangesLieApart n s r
  lie_apart = record {
    linked_inside = λ done todo x e. (let t = stands done todo x e in let a = t.low in let b = t.high in let c = r.within in record { low = omega arith; high = omega arith });
    claimed_inside = λ j v at. (let f = r.each j v at in let h = f.high in let c = r.within in omega arith);
    linked = λ done between todo x y e.
        let far : r.nodes ≡ (done ++ x ∷ between) ++ y ∷ todo = e ∙ sym (append_assoc done (x ∷ between) (y ∷ todo)) in
        let long = length-append done (x ∷ between) in
        nodes_apart s.words r.owner (r.top + 2) (0 + length done) (0 + length (done ++ x ∷ between)) x y (stands done (between ++ y ∷ todo) x e) (stands (done ++ x ∷ between) todo y far) (λ h. absurd (omega arith));
    linked_and_claimed = λ done todo x j v e at i k l h same.
        (let f = r.each j v at in let a = (stands done todo x e).own i l in let b = f.own k h in let o = ap r.owner same in absurd (omega arith));
    claimed = λ j k v w ne at there i m l h same. (let a = (r.each j v at).own i l in let b = (r.each k w there).own m h in let o = ap r.owner same in ne (omega arith));
    half = (let u = r.used in let t = twice n r.nodes in let c = r.within in omega arith);
  }

  pub never_wrap : (k : ℕ) → k ≤ n → get_or s.words 0 0 + k < 2 ^ 64
  never_wrap k l = let a = capped n s r in let b = r.small in omega arith

pub words_stay : (n : ℕ) (s s' : St) (r : RowRule n s) → Grown n s s' r → (done todo : List Node) (x : Node) → r.nodes ≡ done ++ x ∷ todo
    → (get_or s'.words (last_link 1 done) 0 ≡ get_or s.words (last_link 1 done) 0) × (get_or s'.words (x.at + 1) 0 ≡ get_or s.words (x.at + 1) 0)
    × ((i : ℕ) → i < length x.table → get_or s'.words (x.at + (2 + i)) 0 ≡ get_or s.words (x.at + (2 + i)) 0)
words_stay n s s' r g done todo x e =
    let a = shown n s r r.nodes done todo [] x (sym (append-nil r.nodes)) e in
    let b = shown n s' g.0 r.nodes done todo g.1.0 x g.1.1 e in
    (b.0 ∙ sym a.0, b.1.size ∙ sym a.1.size, λ i l. b.1.content i l ∙ sym (a.1.content i l))

pub each_step : (n : ℕ) → EachStepKeepsTheRule n
each_step n = record {
  claim = claims_on n;
  own_store = stores_on n;
  link_within = walks_on n;
  link_past = passes_on n;
  length_load = sizes_on n;
  content = reads_on n;
  link = links_on n;
  note = notes_on n;
  look = learns_on n;
}
