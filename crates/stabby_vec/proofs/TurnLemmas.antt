-- Steps of a turn: an item that is taken to wait, and put behind the others.
use Rattle.std.proofs.Common.{◌≡◌, ℕ, ◌+◌, ◌-◌, ◌<◌, ◌≤◌, List, ◌++◌, Bool, true, false, length, take, drop, reverse, get_or, set, inl, inr, ◌⊎◌, ⊎_elim, refl, sym, ap, ◌∙◌, arith, ltb, ltb-true, ltb-false, length-append, length-take, length-drop, get_or-set_same, get_or-set_other, get_or-take, get_or-drop}
use Rattle.std.proofs.lemmas.List.{same_lists, length-reverse, get_or-reverse, get_or_default}
use Rattle.std.proofs.Math.ListN.{get_or-append}
use Rattle.std.proofs.Math.Seq.{get_or-append_right}
use Rattle.std.specs.Mem.Slots.{slots_items, slots_len, slots_filled, SamePlaces, slots_counts}
use Rattle.std.specs.Mem.Slots.Ownership.{Filled}
use Rattle.core.specs.declared.slots.Slots.{Slots}
use Rattle.stabby_vec.specs.Inside.Turns.{TurnedFrom}

below_by : (a b : ℕ) (t : Bool) → ltb a b ≡ t → (a < b) ⊎ (b ≤ a)
below_by a b true e = inl (ltb-true a b e)
below_by a b false e = inr (ltb-false a b e)

below_or_not : (a b : ℕ) → (a < b) ⊎ (b ≤ a)
below_or_not a b = below_by a b _ refl

-- the place at is empty now, and those behind it are filled as before
pub filled_after_take : (fs gs : List Bool) (at n next : ℕ) → gs ≡ set fs at false → at < next → Filled fs at n → Filled gs next n
filled_after_take fs gs at n next is above full k low high =
    ap (λ l. get_or l k false) is ∙ get_or-set_other fs at k false false (omega arith) ∙ full k (omega arith) high

-- one more place is filled
filled_after_put : (fs gs : List Bool) (m n : ℕ) → gs ≡ set fs m true → m < length fs → n ≡ m + 1 → Filled fs 0 m → Filled gs 0 n
filled_after_put fs gs m n is within next full k low high =
    ap (λ l. get_or l k false) is ∙ ⊎_elim
    (λ p. get_or-set_other fs m k true false (omega arith) ∙ full k low p)
    (λ p. let same : k ≡ m = omega arith in ap (λ j. get_or (set fs m true) j false) same ∙ get_or-set_same fs m true false within)
    (below_or_not k m)

module _ {X : Type 0} where
  -- a to b takes the item at `at`; b to d turns those behind it; d to e puts it behind them
  pub turned_step : {a b d e : Slots X} (at next count m : ℕ) (x : X) → TurnedFrom b d next count → next ≡ at + 1 → at < count → count ≤ slots_len a → m ≡ slots_len a - 1 - at
      → x ≡ get_or (slots_items a) at x → slots_items b ≡ slots_items a → SamePlaces a b
      → slots_items e ≡ set (slots_items d) m x → slots_filled e ≡ set (slots_filled d) m true → SamePlaces d e → TurnedFrom a e at count
  turned_step {a} {b} {d} {e} at next count m x t above low high there is are same items filled after =
      let n = t.places.count in let long = slots_counts d in let own = slots_counts a in let here = same.count in
      record {
        places = record { start = after.start ∙ t.places.start ∙ same.start; count = after.count ∙ n ∙ here };
        filled = filled_after_put _ _ m _ filled (omega arith) (omega arith) (λ k p q. t.filled k p (omega arith));
        rest = λ k z p. ap (λ l. get_or l k z) items ∙ get_or-set_other (slots_items d) m k x z (omega arith) ∙ t.rest k z (omega arith) ∙ ap (λ l. get_or l (count + k) z) are;
        held = λ k z p q. ap (λ l. get_or l (slots_len a - 1 - k) z) items ∙ ⊎_elim
            (λ s. get_or-set_other (slots_items d) m (slots_len a - 1 - k) x z (omega arith) ∙ ap (λ j. get_or (slots_items d) (j - 1 - k) z) (sym here)
            ∙ t.held k z (omega arith) q ∙ ap (λ l. get_or l k z) are)
            (λ s. let k_is : k ≡ at = omega arith in let m_is : slots_len a - 1 - k ≡ m = omega arith in
            ap (λ j. get_or (set (slots_items d) m x) j z) m_is ∙ get_or-set_same (slots_items d) m x z (omega arith)
            ∙ is ∙ get_or_default (slots_items a) at x z (omega arith) ∙ ap (λ j. get_or (slots_items a) j z) (sym k_is))
            (below_or_not at k);
      }

  -- the whole turn, as lists
  pub turned_lists : {a b : Slots X} {count : ℕ} → TurnedFrom a b 0 count → count ≤ slots_len a → slots_items b ≡ drop count (slots_items a) ++ reverse (take count (slots_items a))
  turned_lists {a} {b} {count} t within =
      let xs = slots_items a in let ys = slots_items b in let n = slots_len a in
      let long_a = slots_counts a in let long_b = slots_counts b in let same = t.places.count in
      let first = length-take count xs in let behind = length-drop count xs in let back = length-reverse (take count xs) in
      let all = length-append (drop count xs) (reverse (take count xs)) in
      same_lists ys (drop count xs ++ reverse (take count xs)) (omega arith) (λ k d p. ⊎_elim
      (λ s. t.rest k d s ∙ sym (get_or-drop count xs k d) ∙ sym (get_or-append (drop count xs) (reverse (take count xs)) d k (omega arith)))
      (λ s. let j = n - 1 - k in let e : k ≡ n - 1 - j = omega arith in
      let f : length (take count xs) - 1 - (k - length (drop count xs)) ≡ j = omega arith in
      ap (λ i. get_or ys i d) e ∙ t.held j d (omega arith) (omega arith) ∙ sym (get_or-take count xs j d (omega arith))
      ∙ ap (λ i. get_or (take count xs) i d) (sym f) ∙ sym (get_or-reverse (take count xs) (k - length (drop count xs)) d (omega arith))
      ∙ sym (get_or-append_right (drop count xs) (reverse (take count xs)) k d (omega arith)))
      (below_or_not k (n - count)))
