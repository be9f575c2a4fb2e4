-- Where a key belongs among the entries of a node, by comparisons with some of them.
use Rattle.std.proofs.Common.{◌≡◌, ℕ, suc, ◌+◌, ◌*◌, ◌<◌, ◌≤◌, length, take, drop, get_or, Bool, true, false, List, [], ◌∷◌, ◌++◌, Option, None, refl, sym, ap, ◌∙◌, subst, arith, add-one, append_assoc}
use Prim.Native.Nat.{zero}
use Rattle.std.proofs.lemmas.List.{take_all}
use Rattle.std.specs.declared.cmp.Ordering.{Ordering}
use Rattle.std.specs.declared.cmp.Ordering.TheVariants.{Less, Equal, Greater}
use Rattle.std.specs.Cmp.{IsTotalOrder}
use Rattle.std.specs.declared.sync.Arc.{Arc}
use Rattle.stabby_tree.specs.declared.node.Item.{Item}
use Rattle.stabby_tree.specs.declared.spot.Spot.{Spot}
use Rattle.stabby_tree.specs.declared.spot.Spot.TheVariants.{Hit, Below}
use Rattle.stabby_tree.specs.Order.{AllByRecursion, match_ordering, IsRising, find}
use Rattle.stabby_tree.specs.Shape.{below, depth_of, flat, KeyAt}
use Rattle.stabby_tree.specs.Spot.{lower, meets, Hits, Leads, IsSpot}
use Rattle.stabby_tree.proofs.Entered.{heavy_at}
use Rattle.stabby_tree.proofs.Gap.{flat_gap, flat_last, flat_more}
use Rattle.stabby_tree.proofs.Found.{all_front, all_back, all_map, all_join, less_equal, rising_front, rising_back, rising_after, before_less, find_past, at_less, at_equal, at_greater}

-- a comparison less costs what it costs
pub cheaper : (c m n : ℕ) → m + 1 ≤ n → c * m + c ≤ c * n
cheaper zero m n p = omega arith
cheaper (suc c) m n p = let h = cheaper c m n p in omega (arith, h, p)

module _ {X K A : Type 0} (key : X → K) (cmp : K → K → Ordering) (o : IsTotalOrder cmp) where
  -- the values after the first entry
  pub rest_rises : (e : Item (List X × ℕ) X A) (es : List (Item (List X × ℕ) X A)) (g : Option (Arc (List X × ℕ) A)) → IsRising key cmp (flat (e ∷ es) g) → IsRising key cmp (flat es g)
  rest_rises e es g s = rising_after key cmp o (below e.smaller) e.value (flat es g) s

  module _ (k : K) where
    -- the order r of the first entry's key against k tells the rest
    pub hits_first : (e : Item (List X × ℕ) X A) (es : List (Item (List X × ℕ) X A)) (g : Option (Arc (List X × ℕ) A)) (n : ℕ) (r : Ordering)
        → IsRising key cmp (flat (e ∷ es) g) → r ≡ cmp (key e.value) k → r ≡ Equal → Hits key cmp k (e ∷ es) g n n e.value
    hits_first e es g n r s by h =
        let eq : cmp (key e.value) k ≡ Equal = sym by ∙ h in
        record { place = rw eq (omega arith); meets_it = rw eq refl; found = sym (at_equal key cmp o k (below e.smaller) e.value (flat es g) s eq) }

    pub leads_first : (e : Item (List X × ℕ) X A) (es : List (Item (List X × ℕ) X A)) (g : Option (Arc (List X × ℕ) A)) (n : ℕ) (r : Ordering)
        → IsRising key cmp (flat (e ∷ es) g) → r ≡ cmp (key e.value) k → r ≡ Greater → Leads key cmp k (e ∷ es) g n n e.smaller
    leads_first e es g n r s by h =
        let eq : cmp (key e.value) k ≡ Greater = sym by ∙ h in
        record {
          place = rw eq (omega arith);
          misses = rw eq refl;
          rises = rising_front key cmp o (below e.smaller) _ s;
          found = sym (at_greater key cmp o k (below e.smaller) e.value (flat es g) s eq);
          deep = λ m d heavy last. heavy.0.deep;
        }

    pub leads_past : (e : Item (List X × ℕ) X A) (g : Option (Arc (List X × ℕ) A)) (n : ℕ) (r : Ordering)
        → IsRising key cmp (flat (e ∷ []) g) → r ≡ cmp (key e.value) k → r ≡ Less → Leads key cmp k (e ∷ []) g n (n + 1) g
    leads_past e g n r s by h =
        let eq : cmp (key e.value) k ≡ Less = sym by ∙ h in
        record {
          place = rw eq (omega arith);
          misses = rw eq refl;
          rises = rest_rises e [] g s;
          found = sym (at_less key cmp o k (below e.smaller) e.value (below g) s eq);
          deep = λ m d heavy last. last;
        }

    pub spot_past : (e : Item (List X × ℕ) X A) (es : List (Item (List X × ℕ) X A)) (g : Option (Arc (List X × ℕ) A)) (n : ℕ) (r : Ordering) (s : Spot (List X × ℕ) X A)
        → IsRising key cmp (flat (e ∷ es) g) → r ≡ cmp (key e.value) k → r ≡ Less → IsSpot key cmp k es g (n + 1) s → IsSpot key cmp k (e ∷ es) g n s
    spot_past e es g n r (Hit at x) s by h t =
        let eq : cmp (key e.value) k ≡ Less = sym by ∙ h in
        record { place = rw eq (omega (arith, t.place)); meets_it = rw eq t.meets_it; found = t.found ∙ sym (at_less key cmp o k (below e.smaller) e.value (flat es g) s eq) }
    spot_past e es g n r (Below at l) s by h t =
        let eq : cmp (key e.value) k ≡ Less = sym by ∙ h in
        record {
          place = rw eq (omega (arith, t.place));
          misses = rw eq t.misses;
          rises = t.rises;
          found = t.found ∙ sym (at_less key cmp o k (below e.smaller) e.value (flat es g) s eq);
          deep = λ m d heavy last. t.deep m d heavy.1 last;
        }

    -- what `lower` and `meets` say of the entries
    pub record Placed (es : List (Item (List X × ℕ) X A)) (n : ℕ) (b : Bool) : Type 0 where
      pub within : n ≤ length es
      pub less : AllByRecursion (λ y. cmp (key y) k ≡ Less) (flat (take n es) None)
      pub hit : b ≡ true → (n < length es) × KeyAt key cmp es n k Equal
      pub miss : b ≡ false → n < length es → KeyAt key cmp es n k Greater

    placed_cases : (e : Item (List X × ℕ) X A) (es : List (Item (List X × ℕ) X A)) (n : ℕ) (b : Bool) (r : Ordering) → IsRising key cmp (flat (e ∷ es) None) → cmp (key e.value) k ≡ r
        → Placed es n b → Placed (e ∷ es) (match_ordering r (suc n) 0 0) (match_ordering r b true false)
    placed_cases e es n b Less s h t =
        let P : X → Type 0 = λ y. cmp (key y) k ≡ Less in
        let here : AllByRecursion P (below e.smaller) = all_map _ P (λ y q. o.trans _ _ _ q h) _ (before_less key cmp o (below e.smaller) e.value _ s) in
        record {
          within = omega (arith, t.within);
          less = all_join P (below e.smaller) _ here (h, t.less);
          hit = λ q. let low = (t.hit q).0 in (omega arith, λ d. (t.hit q).1 d);
          miss = λ q p d. t.miss q (omega arith) d;
        }
    placed_cases e es n b Equal s h t = record { within = omega arith; less = tt; hit = λ q. (omega arith, λ d. h); miss = λ q p d. absurd (cc q) }
    placed_cases e es n b Greater s h t = record { within = omega arith; less = tt; hit = λ q. absurd (cc q); miss = λ q p d. h }

    pub placed : (es : List (Item (List X × ℕ) X A)) → IsRising key cmp (flat es None) → Placed es (lower key cmp k es) (meets key cmp k es)
    placed [] s = record { within = omega arith; less = tt; hit = λ q. absurd (cc q); miss = λ q p d. absurd (omega arith) }
    placed (e ∷ es) s = placed_cases e es _ _ (cmp (key e.value) k) s refl (placed es (rest_rises e es None s))

    lower_gap : (es : List (Item (List X × ℕ) X A)) (i : ℕ) → AllByRecursion (λ y. cmp (key y) k ≡ Less) (flat (take i es) None) → i ≤ length es → (i < length es → KeyAt key cmp es i k Greater)
        → (lower key cmp k es ≡ i) × (meets key cmp k es ≡ false)
    lower_gap [] zero a p h = (refl, refl)
    lower_gap [] (suc i) a p h = absurd (omega arith)
    lower_gap (e ∷ es) zero a p h = let eq : cmp (key e.value) k ≡ Greater = h (omega arith) e in (rw eq refl, rw eq refl)
    lower_gap (e ∷ es) (suc i) a p h =
        let b = all_back (λ y. cmp (key y) k ≡ Less) (below e.smaller) (e.value ∷ flat (take i es) None) a in
        let rest = lower_gap es i b.1 (omega arith) (λ q d. h (omega arith) d) in
        (rw b.0 (ap suc rest.0), rw b.0 rest.1)

    lower_hit : (es : List (Item (List X × ℕ) X A)) (i : ℕ) (d : Item (List X × ℕ) X A) → AllByRecursion (λ y. cmp (key y) k ≡ Less) (flat (take i es) None) → i < length es → cmp (key (get_or es i d).value) k ≡ Equal
        → (lower key cmp k es ≡ i) × (meets key cmp k es ≡ true)
    lower_hit [] i d a p h = absurd (omega arith)
    lower_hit (e ∷ es) zero d a p h = let eq : cmp (key e.value) k ≡ Equal = h in (rw eq refl, rw eq refl)
    lower_hit (e ∷ es) (suc i) d a p h =
        let b = all_back (λ y. cmp (key y) k ≡ Less) (below e.smaller) (e.value ∷ flat (take i es) None) a in
        let rest = lower_hit es i d b.1 (omega arith) h in
        (rw b.0 (ap suc rest.0), rw b.0 rest.1)

    -- the i-th entry e stands in the order of the values
    around : (es : List (Item (List X × ℕ) X A)) (i : ℕ) (e : Item (List X × ℕ) X A) (g : Option (Arc (List X × ℕ) A)) → i < length es → e ≡ get_or es i e
        → flat es g ≡ flat (take i es) None ++ (below e.smaller ++ e.value ∷ flat (drop (suc i) es) g)
    around es i e g p is = flat_gap es i e g p ∙ ap (λ (x : Item (List X × ℕ) X A). flat (take i es) None ++ (below x.smaller ++ x.value ∷ flat (drop (suc i) es) g)) (sym is)

    under : (es : List (Item (List X × ℕ) X A)) (i : ℕ) (e : Item (List X × ℕ) X A) (g : Option (Arc (List X × ℕ) A)) → IsRising key cmp (flat es g) → i < length es → e ≡ get_or es i e
        → AllByRecursion (λ y. cmp (key y) (key e.value) ≡ Less) (flat (take i es) None ++ below e.smaller)
    under es i e g s p is =
        before_less key cmp o (flat (take i es) None ++ below e.smaller) e.value (flat (drop (suc i) es) g)
        (subst (IsRising key cmp) (around es i e g p is ∙ sym (append_assoc (flat (take i es) None) (below e.smaller) (e.value ∷ flat (drop (suc i) es) g))) s)

    pub front_less : (es : List (Item (List X × ℕ) X A)) (i : ℕ) (e : Item (List X × ℕ) X A) (g : Option (Arc (List X × ℕ) A)) (r : Ordering) → IsRising key cmp (flat es g) → i < length es → e ≡ get_or es i e
        → r ≡ cmp (key e.value) k → r ≡ Less → AllByRecursion (λ y. cmp (key y) k ≡ Less) (flat (take (i + 1) es) None)
    front_less es i e g r s p is by h =
        let P : X → Type 0 = λ y. cmp (key y) k ≡ Less in
        let eq : cmp (key e.value) k ≡ Less = sym by ∙ h in
        let a : AllByRecursion P (flat (take i es) None ++ below e.smaller) = all_map _ P (λ y q. o.trans _ _ _ q eq) _ (under es i e g s p is) in
        let whole : flat (take (i + 1) es) None ≡ (flat (take i es) None ++ below e.smaller) ++ e.value ∷ [] =
        ap (λ n. flat (take n es) None) (add-one i) ∙ flat_more es i e p ∙ ap (λ (x : Item (List X × ℕ) X A). flat (take i es) None ++ (below x.smaller ++ x.value ∷ [])) (sym is)
        ∙ sym (append_assoc (flat (take i es) None) (below e.smaller) (e.value ∷ [])) in
        subst (AllByRecursion P) (sym whole) (all_join P _ _ a (eq, tt))

    pub key_greater : (es : List (Item (List X × ℕ) X A)) (i : ℕ) (e : Item (List X × ℕ) X A) (r : Ordering) → i < length es → e ≡ get_or es i e → r ≡ cmp (key e.value) k → r ≡ Greater → KeyAt key cmp es i k Greater
    key_greater [] i e r p is by h = absurd (omega arith)
    key_greater (x ∷ es) zero e r p is by h = λ d. ap (λ (y : Item (List X × ℕ) X A). cmp (key y.value) k) (sym is) ∙ sym by ∙ h
    key_greater (x ∷ es) (suc i) e r p is by h = λ d. key_greater es i e r (omega arith) is by h d

    pub hits_at : (es : List (Item (List X × ℕ) X A)) (i : ℕ) (e : Item (List X × ℕ) X A) (g : Option (Arc (List X × ℕ) A)) (r : Ordering) → IsRising key cmp (flat es g) → i < length es → e ≡ get_or es i e
        → r ≡ cmp (key e.value) k → r ≡ Equal → Hits key cmp k es g 0 i e.value
    hits_at es i e g r s p is by h =
        let P : X → Type 0 = λ y. cmp (key y) k ≡ Less in
        let eq : cmp (key e.value) k ≡ Equal = sym by ∙ h in
        let F : List X = flat (take i es) None in
        let a : AllByRecursion P (F ++ below e.smaller) = all_map _ P (λ y q. less_equal key cmp o _ _ _ q eq) _ (under es i e g s p is) in
        let low : AllByRecursion P F = all_front P F (below e.smaller) a in
        let l = lower_hit es i e low p (subst (λ (x : Item (List X × ℕ) X A). cmp (key x.value) k ≡ Equal) is eq) in
        let rest : IsRising key cmp (below e.smaller ++ e.value ∷ flat (drop (suc i) es) g) = rising_back key cmp o F _ (subst (IsRising key cmp) (around es i e g p is) s) in
        record {
          place = omega (arith, l.0);
          meets_it = l.1;
          found = sym (ap (find key cmp k) (around es i e g p is) ∙ find_past key cmp o k F _ low ∙ at_equal key cmp o k (below e.smaller) e.value _ rest eq);
        }

    pub leads_at : (es : List (Item (List X × ℕ) X A)) (i : ℕ) (e : Item (List X × ℕ) X A) (g : Option (Arc (List X × ℕ) A)) → IsRising key cmp (flat es g) → i < length es → e ≡ get_or es i e
        → AllByRecursion (λ y. cmp (key y) k ≡ Less) (flat (take i es) None) → (i < length es → KeyAt key cmp es i k Greater) → Leads key cmp k es g 0 i e.smaller
    leads_at es i e g s p is low high =
        let F : List X = flat (take i es) None in
        let eq : cmp (key e.value) k ≡ Greater = ap (λ (x : Item (List X × ℕ) X A). cmp (key x.value) k) is ∙ high p e in
        let l = lower_gap es i low (omega arith) high in
        let rest : IsRising key cmp (below e.smaller ++ e.value ∷ flat (drop (suc i) es) g) = rising_back key cmp o F _ (subst (IsRising key cmp) (around es i e g p is) s) in
        record {
          place = omega (arith, l.0);
          misses = l.1;
          rises = rising_front key cmp o (below e.smaller) _ rest;
          found = sym (ap (find key cmp k) (around es i e g p is) ∙ find_past key cmp o k F _ low ∙ at_greater key cmp o k (below e.smaller) e.value _ rest eq);
          deep = λ m d heavy last. subst (λ (x : Item (List X × ℕ) X A). depth_of x.smaller ≡ d) (sym is) (heavy_at m d es i e p heavy).deep;
        }

    pub leads_last : (es : List (Item (List X × ℕ) X A)) (i : ℕ) (g : Option (Arc (List X × ℕ) A)) → IsRising key cmp (flat es g) → i ≤ length es → length es ≤ i
        → AllByRecursion (λ y. cmp (key y) k ≡ Less) (flat (take i es) None) → Leads key cmp k es g 0 i g
    leads_last es i g s p q low =
        let l = lower_gap es i low p (λ h. absurd (omega arith)) in
        let all : AllByRecursion (λ y. cmp (key y) k ≡ Less) (flat es None) = subst (λ (l : List (Item (List X × ℕ) X A)). AllByRecursion (λ y. cmp (key y) k ≡ Less) (flat l None)) (take_all i es q) low in
        record {
          place = omega (arith, l.0);
          misses = l.1;
          rises = rising_back key cmp o (flat es None) (below g) (subst (IsRising key cmp) (flat_last es g) s);
          found = sym (ap (find key cmp k) (flat_last es g) ∙ find_past key cmp o k (flat es None) (below g) all);
          deep = λ m d heavy last. last;
        }
