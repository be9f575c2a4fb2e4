-- Steps of the machine that three totals make: the strong shares, the weak shares and the due views.
use Rattle.std.proofs.Common.{◌≡◌, ◌≢◌, ℕ, ◌+◌, ◌-◌, ◌*◌, ◌/◌, ◌%◌, ◌<◌, refl, sym, ap, ◌∙◌, arith, eqb, eq-eqb, ne_eqb, ⊎_elim}
use Rattle.std.proofs.lemmas.Bool.Decides.{eqb_tells}
use Rattle.std.proofs.lemmas.Grind.{common_steps}
use mathlib.Core.Bool.{true, false, cond}
use Rattle.stabby_count.specs.Handles.{handles, live_count, stepped}
use Rattle.stabby_count.specs.Rule.{value_of}
use Rattle.stabby_count.specs.declared.machine.ValueState.{ValueState}
use Rattle.stabby_count.specs.declared.machine.ValueState.TheVariants.{Live, Taken, Released}
use Rattle.stabby_count.specs.declared.machine.Step.TheVariants.{Clone, Downgrade, Upgrade, EndStrong, EndWeak, Look, Take}
use Rattle.stabby_count.specs.declared.machine.Reply.TheVariants.{Done, Last, Freed, Full, Gone, Counts}

pub is_live : (s w d : ℕ) → 0 < s + d → value_of s w d ≡ Live
is_live s w d some_ = ⊎_elim
    (λ (y : (eqb (s + d) 0 ≡ true) × (s + d ≡ 0)). let e = y.1 in absurd (omega arith))
    (λ (y : (eqb (s + d) 0 ≡ false) × (s + d ≢ 0)). rw y.0 refl)
    (eqb_tells (s + d) 0)

pub is_taken : (s w d : ℕ) → s + d ≡ 0 → 0 < w → value_of s w d ≡ Taken
is_taken s w d none_ some_ = ⊎_elim
    (λ (y : (eqb (s + d) 0 ≡ true) × (s + d ≡ 0)). ⊎_elim
    (λ (z : (eqb w 0 ≡ true) × (w ≡ 0)). let e = z.1 in absurd (omega arith))
    (λ (z : (eqb w 0 ≡ false) × (w ≢ 0)). rw (y.0, z.0) refl)
    (eqb_tells w 0))
    (λ (y : (eqb (s + d) 0 ≡ false) × (s + d ≢ 0)). absurd (y.1 none_))
    (eqb_tells (s + d) 0)

pub is_released : (s w d : ℕ) → s + d ≡ 0 → w ≡ 0 → value_of s w d ≡ Released
is_released s w d none_ no_weak = ⊎_elim
    (λ (y : (eqb (s + d) 0 ≡ true) × (s + d ≡ 0)). ⊎_elim
    (λ (z : (eqb w 0 ≡ true) × (w ≡ 0)). rw (y.0, z.0) refl)
    (λ (z : (eqb w 0 ≡ false) × (w ≢ 0)). absurd (z.1 no_weak))
    (eqb_tells w 0))
    (λ (y : (eqb (s + d) 0 ≡ false) × (s + d ≢ 0)). absurd (y.1 none_))
    (eqb_tells (s + d) 0)

-- an unchanged machine
pub same_machine : (s w d s' w' d' : ℕ) → s' ≡ s → w' ≡ w → d' ≡ d → handles s' w' (value_of s' w' d') ≡ handles s w (value_of s w d)
same_machine s w d s' w' d' es ew ed i = handles (es i) (ew i) (value_of (es i) (ew i) (ed i))

clone_to : (s w : ℕ) (v : ValueState) → 0 < s → s < 4294967295 → stepped (handles s w v) Clone ≡ (handles (s + 1) w v, Done)
clone_to s w v has few = grind (arith, common_steps)

upgrade_to : (s w : ℕ) (v : ValueState) → 0 < w → 0 < s → s < 4294967295 → stepped (handles s w v) Upgrade ≡ (handles (s + 1) w v, Done)
upgrade_to s w v has_weak has few = grind (arith, common_steps)

downgrade_to : (s w : ℕ) (v : ValueState) → 0 < s + w → w + live_count v < 4294967295 → stepped (handles s w v) Downgrade ≡ (handles s (w + 1) v, Done)
downgrade_to s w v has few = grind (arith, common_steps)

look_to : (s w : ℕ) (v : ValueState) → 0 < s + w → stepped (handles s w v) Look ≡ (handles s w v, Counts s (w + live_count v))
look_to s w v has = grind (arith, common_steps)

end_strong_to : (s w : ℕ) (v : ValueState) → 0 < s → stepped (handles s w v) EndStrong ≡ (handles (s - 1) w v, cond (eqb s 1) Last Done)
end_strong_to s w v has = grind (arith, common_steps)

end_weak_live : (s w : ℕ) → 0 < w → stepped (handles s w Live) EndWeak ≡ (handles s (w - 1) Live, Done)
end_weak_live s w has = grind (arith, common_steps)

end_weak_more : (s w : ℕ) → 1 < w → stepped (handles s w Taken) EndWeak ≡ (handles s (w - 1) Taken, Done)
end_weak_more s w has = grind (arith, common_steps)

end_weak_last : (s w : ℕ) → w ≡ 1 → stepped (handles s w Taken) EndWeak ≡ (handles s (w - 1) Released, Freed)
end_weak_last s w last = grind (arith, common_steps)

take_last : (s w : ℕ) → s ≡ 0 → w ≡ 0 → stepped (handles s w Live) Take ≡ (handles s w Released, Freed)
take_last s w es ew = grind (arith, common_steps)

take_more : (s w : ℕ) → s ≡ 0 → 0 < w → stepped (handles s w Live) Take ≡ (handles s w Taken, Done)
take_more s w es has = grind (arith, common_steps)

-- the answer that tells whether the block is free
freed : (n : ℕ) → n ≡ 1 → Freed ≡ cond (eqb n 1) Freed Done
freed n e = rw (eq-eqb n 1 e) refl

not_freed : (n : ℕ) → n ≢ 1 → Done ≡ cond (eqb n 1) Freed Done
not_freed n ne = rw (ne_eqb n 1 ne) refl

both_live : (s w d s' w' d' : ℕ) → 0 < s + d → 0 < s' + d' → value_of s w d ≡ value_of s' w' d'
both_live s w d s' w' d' has has' = is_live s w d has ∙ sym (is_live s' w' d' has')

weak_kept : (s w d s' w' d' : ℕ) → s ≡ s' → d ≡ d' → 0 < w → 0 < w' → value_of s w d ≡ value_of s' w' d'
weak_kept s w d s' w' d' es ed has has' = ⊎_elim
    (λ (y : (eqb (s + d) 0 ≡ true) × (s + d ≡ 0)). let e = y.1 in is_taken s w d e has ∙ sym (is_taken s' w' d' (omega arith) has'))
    (λ (y : (eqb (s + d) 0 ≡ false) × (s + d ≢ 0)). let ne = y.1 in both_live s w d s' w' d' (omega arith) (omega arith))
    (eqb_tells (s + d) 0)

more_weak : (s w d s' w' d' : ℕ) → s ≡ s' → d ≡ d' → w + 1 ≡ w' → 0 < s + w → value_of s w d ≡ value_of s' w' d'
more_weak s w d s' w' d' es ed ew has = ⊎_elim
    (λ (y : (eqb w 0 ≡ true) × (w ≡ 0)). let e = y.1 in both_live s w d s' w' d' (omega arith) (omega arith))
    (λ (y : (eqb w 0 ≡ false) × (w ≢ 0)). let ne = y.1 in weak_kept s w d s' w' d' es ed (omega arith) (omega arith))
    (eqb_tells w 0)

-- s, w and d before a step of the word n, and after it
module _ (n s w d s' w' d' : ℕ) where
  pub clone_machine : 0 < s → s < 4294967295 → s + 1 ≡ s' → w ≡ w' → stepped (handles s w (value_of s w d)) Clone ≡ (handles s' w' (value_of s' w' d'), Done)
  clone_machine has few es ew = let v = both_live s w d s' w' d' (omega arith) (omega arith) in clone_to s w (value_of s w d) has few ∙ (λ i. (handles (es i) (ew i) (v i), Done))

  pub upgrade_machine : 0 < w → 0 < s → s < 4294967295 → s + 1 ≡ s' → w ≡ w' → stepped (handles s w (value_of s w d)) Upgrade ≡ (handles s' w' (value_of s' w' d'), Done)
  upgrade_machine has_weak has few es ew = let v = both_live s w d s' w' d' (omega arith) (omega arith) in upgrade_to s w (value_of s w d) has_weak has few ∙ (λ i. (handles (es i) (ew i) (v i), Done))

  pub downgrade_machine : 0 < s + w → w + live_count (value_of s w d) < 4294967295 → s ≡ s' → w + 1 ≡ w' → d ≡ d' → stepped (handles s w (value_of s w d)) Downgrade ≡ (handles s' w' (value_of s' w' d'), Done)
  downgrade_machine has few es ew ed = let v = more_weak s w d s' w' d' es ed ew has in downgrade_to s w (value_of s w d) has few ∙ (λ i. (handles (es i) (ew i) (v i), Done))

  pub look_machine : 0 < s + w → s ≡ n / 4294967296 → w + live_count (value_of s w d) ≡ n % 4294967296 → s ≡ s' → w ≡ w' → d ≡ d' → stepped (handles s w (value_of s w d)) Look ≡ (handles s' w' (value_of s' w' d'), Counts (n / 4294967296) (n % 4294967296))
  look_machine has upper lower es ew ed = look_to s w (value_of s w d) has ∙ (λ i. (handles (es i) (ew i) (value_of (es i) (ew i) (ed i)), Counts (upper i) (lower i)))

  pub end_strong_machine : 0 < s → 0 < s' + d' → s ≡ n / 4294967296 → s - 1 ≡ s' → w ≡ w' → stepped (handles s w (value_of s w d)) EndStrong ≡ (handles s' w' (value_of s' w' d'), cond (eqb (n / 4294967296) 1) Last Done)
  end_strong_machine has has' upper es ew = let v = both_live s w d s' w' d' (omega arith) has' in end_strong_to s w (value_of s w d) has ∙ (λ i. (handles (es i) (ew i) (v i), cond (eqb (upper i) 1) Last Done))

  pub end_weak_machine : 0 < w → n ≡ s * 4294967296 + (w + live_count (value_of s w d)) → w - 1 ≡ w' → s ≡ s' → d ≡ d' → stepped (handles s w (value_of s w d)) EndWeak ≡ (handles s' w' (value_of s' w' d'), cond (eqb n 1) Freed Done)
  end_weak_machine has word ew es ed = ⊎_elim
      (λ (y : (eqb (s + d) 0 ≡ true) × (s + d ≡ 0)). let e = y.1 in let v = is_taken s w d e has in let k : live_count (value_of s w d) ≡ 0 = ap live_count v in ⊎_elim
      (λ (z : (eqb w 1 ≡ true) × (w ≡ 1)). let one = z.1 in let r = is_released s' w' d' (omega arith) (omega arith) in let f = freed n (omega arith) in
      ap (λ x. stepped (handles s w x) EndWeak) v ∙ end_weak_last s w one ∙ (λ i. (handles (es i) (ew i) (sym r i), f i)))
      (λ (z : (eqb w 1 ≡ false) × (w ≢ 1)). let ne = z.1 in let r = is_taken s' w' d' (omega arith) (omega arith) in let f = not_freed n (λ m. omega arith) in
      ap (λ x. stepped (handles s w x) EndWeak) v ∙ end_weak_more s w (omega arith) ∙ (λ i. (handles (es i) (ew i) (sym r i), f i)))
      (eqb_tells w 1))
      (λ (y : (eqb (s + d) 0 ≡ false) × (s + d ≢ 0)). let ne = y.1 in let v = is_live s w d (omega arith) in let k : live_count (value_of s w d) ≡ 1 = ap live_count v in
      let r = is_live s' w' d' (omega arith) in let f = not_freed n (λ m. omega arith) in
      ap (λ x. stepped (handles s w x) EndWeak) v ∙ end_weak_live s w has ∙ (λ i. (handles (es i) (ew i) (sym r i), f i)))
      (eqb_tells (s + d) 0)

  pub take_machine : d ≡ 1 → s ≡ 0 → n ≡ w + 1 → s ≡ s' → w ≡ w' → d' ≡ 0 → stepped (handles s w (value_of s w d)) Take ≡ (handles s' w' (value_of s' w' d'), cond (eqb n 1) Freed Done)
  take_machine one none_ word es ew gone = let v = is_live s w d (omega arith) in ⊎_elim
      (λ (z : (eqb w 0 ≡ true) × (w ≡ 0)). let e = z.1 in let r = is_released s' w' d' (omega arith) (omega arith) in let f = freed n (omega arith) in
      ap (λ x. stepped (handles s w x) Take) v ∙ take_last s w none_ e ∙ (λ i. (handles (es i) (ew i) (sym r i), f i)))
      (λ (z : (eqb w 0 ≡ false) × (w ≢ 0)). let ne = z.1 in let r = is_taken s' w' d' (omega arith) (omega arith) in let f = not_freed n (λ m. omega arith) in
      ap (λ x. stepped (handles s w x) Take) v ∙ take_more s w none_ (omega arith) ∙ (λ i. (handles (es i) (ew i) (sym r i), f i)))
      (eqb_tells w 0)

  pub clone_full : 0 < s → s ≡ 4294967295 → (v : ValueState) → stepped (handles s w v) Clone ≡ (handles s w v, Full)
  clone_full has full v = grind (arith, common_steps)

  pub upgrade_full : 0 < w → s ≡ 4294967295 → (v : ValueState) → stepped (handles s w v) Upgrade ≡ (handles s w v, Full)
  upgrade_full has full v = grind (arith, common_steps)

  pub upgrade_gone : 0 < w → s ≡ 0 → (v : ValueState) → stepped (handles s w v) Upgrade ≡ (handles s w v, Gone)
  upgrade_gone has gone v = grind (arith, common_steps)

  pub downgrade_full : 0 < s + w → (v : ValueState) → w + live_count v ≡ 4294967295 → stepped (handles s w v) Downgrade ≡ (handles s w v, Full)
  downgrade_full has v full = grind (arith, common_steps)
