-- The views, where the words and one view change.
use Rattle.std.proofs.Common.{◌≡◌, ◌≢◌, ℕ, zero, suc, ◌+◌, ◌*◌, ◌<◌, ◌≤◌, List, [], ◌∷◌, ◌++◌, get_or, set, map, Bool, true, false, ◌||◌, if◌then◌else◌, sym, refl, ap, ◌∙◌, subst, ⊎_elim, append_assoc, arith}
use mathlib.Core.Logic.{dite}
use mathlib.Core.Option.{some, some-injective, some-ne-none}
use native.Mathlib.Decide.{ℕ_discrete}
use lib.ListN.{get_elem?}
use Rattle.atomic_table.proofs.Lists.{at_set, set_else}
use Rattle.stabby_tables.specs.Tables.{Table, is_same}
use Rattle.stabby_tables.specs.Lists.{has, IsDistinct}
use Rattle.stabby_tables.proofs.Growing.{equal_from_same, has-append}
use Rattle.stabby_tables.proofs.Distinctness.{Fresh, fold_from_fresh}
use Rattle.stabby_row.specs.declared.view.Node.{Node}
use Rattle.stabby_row.specs.declared.view.View.{View}
use Rattle.stabby_row.specs.Rule.{Fits, Led, StartsWith, Absent, Distinct, table_of}

module _ {A : Type 0} where
  pub set_there : (l : List A) (i : ℕ) (a b : A) → get_elem? l i ≡ some a → get_elem? (set l i b) i ≡ some b
  set_there [] i a b e = absurd (some-ne-none a (sym e))
  set_there (x ∷ xs) zero a b e = refl
  set_there (x ∷ xs) (suc i) a b e = set_there xs i a b e

  pub later : (xs ys zs : List A) → StartsWith xs ys → StartsWith ys zs → StartsWith xs zs
  later xs ys zs p q = (q.0 ++ p.0, p.1 ∙ (ap (λ (l : List A). l ++ p.0) q.1 ∙ append_assoc zs q.0 p.0))

  pub begins : (xs ys : List A) → StartsWith (xs ++ ys) xs
  begins xs ys = (ys, refl)

pub each_set : (K : ℕ → View → Type 0) (vs : List View) (id : ℕ) (w : View) → K id w → ((j : ℕ) (d : View) → j ≢ id → get_elem? vs j ≡ some d → K j d) → (j : ℕ) (d : View) → get_elem? (set vs id w) j ≡ some d → K j d
each_set K vs id w mine others j d e = ⊎_elim (λ (t : (j ≡ id) × (w ≡ d)). subst (λ (x : ℕ × View). K x.0 x.1) (λ i. (sym t.0 i, t.1 i)) mine)
    (λ (t : (j ≢ id) × (get_elem? vs j ≡ some d)). others j d t.0 t.1) (at_set vs id j w d e)

pub led_set : (vs : List View) (id : ℕ) (v w : View) (nodes : List Node) → get_elem? vs id ≡ some v → (1 ≤ v.weight → 1 ≤ w.weight) → (v.nodes ≡ nodes → w.nodes ≡ nodes) → Led vs nodes → Led (set vs id w) nodes
led_set vs id v w nodes at same covers l = dite (ℕ_discrete l.leader id)
    (λ e. let best : l.best ≡ v = some-injective l.best v (sym l.seated ∙ (ap (λ (z : ℕ). get_elem? vs z) e ∙ at)) in let heavy = l.leads in let weigh = ap (λ (z : View). z.weight) best in let still = same (omega arith) in
    record { leader = id; best = w; seated = set_there vs id v w at; leads = still; whole = covers (ap (λ (z : View). z.nodes) (sym best) ∙ l.whole) })
    (λ n. record { leader = l.leader; best = l.best; seated = set_else vs id l.leader w n ∙ l.seated; leads = l.leads; whole = l.whole })

module _ (words : List ℕ) (owner : ℕ → ℕ) (bound : ℕ) (words' : List ℕ) (owner' : ℕ → ℕ) (bound' : ℕ) (n : ℕ) (nodes nodes' : List Node) where
  pub refits : bound ≤ bound' → get_or words 0 0 ≤ get_or words' 0 0 → StartsWith nodes' nodes → (j : ℕ) (v : View)
      → ((p : ℕ) → 2 ≤ p → p < bound → owner p ≡ 2 * j + 1 → (get_or words' p 0 ≡ get_or words p 0) × (owner' p ≡ owner p))
      → Fits words owner bound n nodes j v → Fits words' owner' bound' n nodes' j v
  refits more rises longer j v same f =
      let low = f.low in
      let high = f.high in
      let short = f.short in
      let left = f.left in
      record {
        room = f.room;
        front = later nodes' nodes v.nodes longer f.front;
        told = later nodes' nodes v.told longer f.told;
        low = low;
        high = omega arith;
        own = λ i l. (let o = f.own i l in (same (v.claim.start + i) (omega arith) (omega arith) o).1 ∙ o);
        short = short;
        content = λ i l. (let o = f.own i (omega arith) in (same (v.claim.start + i) (omega arith) (omega arith) o).0 ∙ f.content i l);
        left = omega arith;
      }

pub Absent-append : (t : List ℕ) (xs : List Node) (y : Node) → y.table ≢ t → Absent t xs → Absent t (xs ++ y ∷ [])
Absent-append t [] y n a = (n, tt)
Absent-append t (x ∷ xs) y n a = (a.0, Absent-append t xs y n a.1)

pub Distinct-append : (xs : List Node) (y : Node) → Absent y.table xs → Distinct xs → Distinct (xs ++ y ∷ [])
Distinct-append [] y a d = (tt, tt)
Distinct-append (x ∷ xs) y a d = (Absent-append x.table xs y (λ e. a.0 (sym e)) d.0, Distinct-append xs y a.1 d.1)

pub Absent-before : (t : List ℕ) (xs ys : List Node) → Absent t (xs ++ ys) → Absent t xs
Absent-before t [] ys a = tt
Absent-before t (x ∷ xs) ys a = (a.0, Absent-before t xs ys a.1)

pub Distinct-before : (xs ys : List Node) → Distinct (xs ++ ys) → Distinct xs
Distinct-before [] ys d = tt
Distinct-before (x ∷ xs) ys d = (Absent-before x.table xs ys d.0, Distinct-before xs ys d.1)

-- what is absent from the nodes is absent from their tables
differs : (a b : Table) → a ≢ b → is_same a b ≡ false
differs a b n = by (is_same a b) refl
  where
    by : (v : Bool) → is_same a b ≡ v → v ≡ false
    by true e = absurd (n (equal_from_same a b e))
    by false e = refl

pub lacks : (t : Table) (xs : List Node) → Absent t xs → has (map table_of xs) t ≡ false
lacks t [] a = refl
lacks t (x ∷ xs) a = rw (differs x.table t a.0) (lacks t xs a.1)

abbrev Away : List Table → List Node → Type 0
Away acc [] = Unit {0}
Away acc (x ∷ xs) = (has acc x.table ≡ false) × Away acc xs

away_next : (acc : List Table) (x : Node) (xs : List Node) → Absent x.table xs → Away acc xs → Away (acc ++ x.table ∷ []) xs
away_next acc x [] a w = tt
away_next acc x (y ∷ ys) a w =
    (has-append acc (x.table ∷ []) y.table ∙ rw w.0 (rw (differs x.table y.table (λ e. a.0 (sym e))) refl), away_next acc x ys a.1 w.1)

away_none : (xs : List Node) → Away [] xs
away_none [] = tt
away_none (x ∷ xs) = (refl, away_none xs)

fresh_tables : (acc : List Table) (xs : List Node) → Distinct xs → Away acc xs → Fresh acc (map table_of xs)
fresh_tables acc [] d w = tt
fresh_tables acc (x ∷ xs) d w = (w.0, fresh_tables (acc ++ x.table ∷ []) xs d.1 (away_next acc x xs d.0 w.1))

-- distinct nodes have distinct tables
pub distinct_tables : (xs : List Node) → Distinct xs → IsDistinct (map table_of xs)
distinct_tables xs d = fold_from_fresh [] (map table_of xs) (fresh_tables [] xs d (away_none xs))
