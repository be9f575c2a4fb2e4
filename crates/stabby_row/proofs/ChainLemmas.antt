-- The chain of nodes, and which words it reads.
use Rattle.std.proofs.Common.{◌≡◌, ◌≢◌, ℕ, ◌+◌, ◌*◌, ◌<◌, ◌≤◌, List, [], ◌∷◌, ◌++◌, length, get_or, sym, ap, ◌∙◌, subst, arith}
use Rattle.stabby_row.specs.declared.view.Node.{Node}
use Rattle.stabby_row.specs.Rule.{Stands, Chain, last_link}

-- the word `at` is the k-th link
pub record Rooted (owner : ℕ → ℕ) (bound at k : ℕ) : Type 0 where
  pub own : owner at ≡ 2 * k
  pub low : 1 ≤ at
  pub high : at < bound

module _ (words : List ℕ) (owner : ℕ → ℕ) (bound : ℕ) where
  pub roots : (k : ℕ) (x : Node) → Stands words owner bound k x → Rooted owner bound x.at (k + 1)
  roots k x s = let z : x.at + 0 ≡ x.at = omega arith in let o = ap owner z in let p = s.own 0 (omega arith) in record { own = omega arith; low = omega arith; high = omega arith }

  pub last_rooted : (at k : ℕ) (xs : List Node) → Rooted owner bound at k → Chain words owner bound at k xs → Rooted owner bound (last_link at xs) (k + length xs)
  last_rooted at k [] r c = record { own = omega arith; low = r.low; high = r.high }
  last_rooted at k (x ∷ xs) r c = let t = last_rooted x.at (k + 1) xs (roots k x c.1) c.2 in record { own = omega arith; low = t.low; high = t.high }

  pub last_empty : (at k : ℕ) (xs : List Node) → Chain words owner bound at k xs → get_or words (last_link at xs) 0 ≡ 0
  last_empty at k [] c = c
  last_empty at k (x ∷ xs) c = last_empty x.at (k + 1) xs c.2

  -- what the link behind `xs` shows
  pub shows : (at k : ℕ) (xs : List Node) (y : Node) (ys : List Node) → Chain words owner bound at k (xs ++ y ∷ ys)
      → (get_or words (last_link at xs) 0 ≡ y.at + 1) × Stands words owner bound (k + length xs) y
  shows at k [] y ys c = (c.0, subst (λ (z : ℕ). Stands words owner bound z y) (omega arith) c.1)
  shows at k (x ∷ xs) y ys c = let t = shows x.at (k + 1) xs y ys c.2 in (t.0, subst (λ (z : ℕ). Stands words owner bound z y) (omega arith) t.1)

  beyond : (k : ℕ) (x : Node) (xs : List Node) (p : ℕ) → Stands words owner bound k x → Chain words owner bound x.at (k + 1) xs → owner p ≡ 2 * k + 2 → p ≢ x.at → p ≢ last_link x.at xs
  beyond k x [] p s c o n e = n e
  beyond k x (y ∷ ys) p s c o n e = let r = last_rooted x.at (k + 1) (y ∷ ys) (roots k x s) c in let f = ap owner e in let h = r.own in absurd (omega arith)

  module _ (words' : List ℕ) (owner' : ℕ → ℕ) (bound' : ℕ) (more : bound ≤ bound') where
    -- the chain reads only words of links
    pub framed : ((p m : ℕ) → 1 ≤ p → p < bound → owner p ≡ 2 * m → (get_or words' p 0 ≡ get_or words p 0) × (owner' p ≡ owner p))
        → (at k : ℕ) (xs : List Node) → Rooted owner bound at k → Chain words owner bound at k xs → Chain words' owner' bound' at k xs
    framed same at k [] r c = (same at k r.low r.high r.own).0 ∙ c
    framed same at k (x ∷ xs) r c =
        let s = c.1 in
        let here = λ (i : ℕ) (l : i < 2 + length x.table). (let o = s.own i l in let lo = s.low in let hi = s.high in same (x.at + i) (k + 1) (omega arith) (omega arith) (omega arith)) in (
          (same at k r.low r.high r.own).0 ∙ c.0,
          record {
            low = s.low;
            high = (let hi = s.high in omega arith);
            own = λ i l. (here i l).1 ∙ s.own i l;
            size = (here 1 (omega arith)).0 ∙ s.size;
            content = λ i l. (here (2 + i) (omega arith)).0 ∙ s.content i l;
          },
          framed same x.at (k + 1) xs (roots k x s) c.2,
        )

    -- a node is hung on the last link
    pub appended : (last : ℕ) (y : Node) → ((p m : ℕ) → 1 ≤ p → p < bound → owner p ≡ 2 * m → p ≢ last → get_or words' p 0 ≡ get_or words p 0) → ((p m : ℕ) → 1 ≤ p → p < bound → owner p ≡ 2 * m → owner' p ≡ owner p)
        → get_or words' last 0 ≡ y.at + 1 → get_or words' y.at 0 ≡ 0
        → (at k : ℕ) (xs : List Node) → last_link at xs ≡ last → Stands words' owner' bound' (k + length xs) y → Rooted owner bound at k → Chain words owner bound at k xs → Chain words' owner' bound' at k (xs ++ y ∷ [])
    appended last y same owns hung empty at k [] is stands r c = (ap (λ (z : ℕ). get_or words' z 0) is ∙ hung, subst (λ (z : ℕ). Stands words' owner' bound' z y) (omega arith) stands, empty)
    appended last y same owns hung empty at k (x ∷ xs) is stands r c =
        let s = c.1 in
        let far = last_rooted x.at (k + 1) xs (roots k x s) c.2 in
        let far_own : owner last ≡ 2 * (k + 1 + length xs) = subst (λ (z : ℕ). owner z ≡ 2 * (k + 1 + length xs)) is far.own in
        let apart : at ≢ last = λ e. (let f = ap owner e in let g = r.own in absurd (omega arith)) in
        let keep = λ (i : ℕ) (l : i < 2 + length x.table) (up : 1 ≤ i). (let o = s.own i l in let lo = s.low in let hi = s.high in
        same (x.at + i) (k + 1) (omega arith) (omega arith) (omega arith) (λ e. beyond k x xs (x.at + i) s c.2 o (λ f. absurd (omega arith)) (e ∙ sym is))) in (
          same at k r.low r.high r.own apart ∙ c.0,
          record {
            low = s.low;
            high = (let hi = s.high in omega arith);
            own = λ i l. (let o = s.own i l in let lo = s.low in let hi = s.high in owns (x.at + i) (k + 1) (omega arith) (omega arith) (omega arith) ∙ o);
            size = keep 1 (omega arith) (omega arith) ∙ s.size;
            content = λ i l. keep (2 + i) (omega arith) (omega arith) ∙ s.content i l;
          },
          appended last y same owns hung empty x.at (k + 1) xs is (subst (λ (z : ℕ). Stands words' owner' bound' z y) (omega arith) stands) (roots k x s) c.2,
        )
