-- The rule over plain numbers, in a form that `omega` reads: t is 1 while the value is there, else 0.
use Rattle.std.proofs.Common.{◌≡◌, ◌≢◌, ℕ, zero, suc, ◌+◌, ◌*◌, ◌<◌, ◌≤◌, refl, arith, eqb, ◌⊎◌, inl, inr, ⊎_elim}
use mathlib.Core.Bool.{true, false, cond}
use Rattle.std.proofs.lemmas.Bool.Decides.{eqb_tells}
use Rattle.stabby_count.specs.Handles.{live_count}
use Rattle.stabby_count.specs.declared.machine.ValueState.TheVariants.{Taken, Released}
use Rattle.stabby_count.specs.Rule.{Totals, value_of, IsCount}

abbrev pub all : ℕ → ℕ → ℕ → ℕ → ℕ → Totals
all s w d f o = record { strong = s; weak = w; due = d; free = f; sole = o }

pub record Linear (n t s w d f o : ℕ) : Type 0 where
  pub word : n ≡ s * 4294967296 + (w + t)
  pub strong_fits : s < 4294967296
  pub weak_fits : w + t < 4294967296
  pub untaken : t ≤ 1
  pub strong_untaken : s ≤ 4294967295 * t
  pub due_untaken : d ≤ t
  pub untaken_held : t ≤ s + d
  pub one_due : s + 4294967295 * d ≤ 4294967295
  pub free_taken : f + t ≤ 1
  pub free_alone : w + 4294967295 * f ≤ 4294967295
  pub sole_strong : o ≤ s
  pub sole_one : s + 4294967294 * o ≤ 4294967295
  pub sole_alone : w + 4294967295 * o ≤ 4294967295

-- the fields, where a tactic reads them
pub fields : {n t s w d f o : ℕ} → Linear n t s w d f o → (C : Type 0) → (n ≡ s * 4294967296 + (w + t) → s < 4294967296 → w + t < 4294967296 → t ≤ 1 → s ≤ 4294967295 * t → d ≤ t → t ≤ s + d → s + 4294967295 * d ≤ 4294967295
    → f + t ≤ 1 → w + 4294967295 * f ≤ 4294967295 → o ≤ s → s + 4294967294 * o ≤ 4294967295 → w + 4294967295 * o ≤ 4294967295 → C) → C
fields h C k = k h.word h.strong_fits h.weak_fits h.untaken h.strong_untaken h.due_untaken h.untaken_held h.one_due h.free_taken h.free_alone h.sole_strong h.sole_one h.sole_alone

-- the value that three totals tell
pub live_cases : (s w d : ℕ) → ((s + d ≡ 0) × (live_count (value_of s w d) ≡ 0)) ⊎ ((0 < s + d) × (live_count (value_of s w d) ≡ 1))
live_cases s w d = ⊎_elim
    (λ (y : (eqb (s + d) 0 ≡ true) × (s + d ≡ 0)). inl (y.1, rw y.0 (none_live w)))
    (λ (y : (eqb (s + d) 0 ≡ false) × (s + d ≢ 0)). inr (let ne = y.1 in omega arith, rw y.0 refl))
    (eqb_tells (s + d) 0)
  where
    none_live : (w : ℕ) → live_count (cond (eqb w 0) Released Taken) ≡ 0
    none_live w = ⊎_elim (λ (y : (eqb w 0 ≡ true) × (w ≡ 0)). rw y.0 refl) (λ (y : (eqb w 0 ≡ false) × (w ≢ 0)). rw y.0 refl) (eqb_tells w 0)

-- by whether there is a due view, one that may free, and a sole one
linear_from : (n t s w d f o : ℕ) → ((s + d ≡ 0) × (t ≡ 0)) ⊎ ((0 < s + d) × (t ≡ 1)) → n ≡ s * 4294967296 + (w + t) → s < 4294967296 → w + t < 4294967296
    → (d ≡ 0) ⊎ ((d ≡ 1) × (s ≡ 0)) → (f ≡ 0) ⊎ ((f ≡ 1) × (s + w + d ≡ 0)) → (o ≡ 0) ⊎ ((o ≡ 1) × (s ≡ 1) × (w ≡ 0)) → Linear n t s w d f o
linear_from n t s w d f o value word sf wf due free sole = record {
  word = word;
  strong_fits = sf;
  weak_fits = wf;
  untaken = omega arith;
  strong_untaken = omega arith;
  due_untaken = omega arith;
  untaken_held = omega arith;
  one_due = omega arith;
  free_taken = omega arith;
  free_alone = omega arith;
  sole_strong = omega arith;
  sole_one = omega arith;
  sole_alone = omega arith;
}

none_or_one : (x : ℕ) (P : Type 0) → x ≤ 1 → (0 < x → P) → (x ≡ 0) ⊎ ((x ≡ 1) × P)
none_or_one zero P le h = inl refl
none_or_one (suc zero) P le h = inr (refl, h (omega arith))
none_or_one (suc (suc k)) P le h = absurd (omega arith)

pub linear : (n s w d f o : ℕ) → IsCount n (all s w d f o) → Linear n (live_count (value_of s w d)) s w d f o
linear n s w d f o h = linear_from n (live_count (value_of s w d)) s w d f o (live_cases s w d) h.word h.strong_fits h.weak_fits
    (none_or_one d (s ≡ 0) h.one_due h.due_alone) (none_or_one f (s + w + d ≡ 0) h.one_free h.free_alone) (soles o h.sole_alone)
  where
    soles : (o : ℕ) → (0 < o → (o ≡ 1) × (s ≡ 1) × (w ≡ 0)) → (o ≡ 0) ⊎ ((o ≡ 1) × (s ≡ 1) × (w ≡ 0))
    soles zero k = inl refl
    soles (suc m) k = inr (k (omega arith))

live_is : (n t s w d f o : ℕ) → Linear n t s w d f o → t ≡ live_count (value_of s w d)
live_is n t s w d f o h = fields h _ (λ a b c d' e f' g i j k l m p. let q = live_cases s w d in omega arith)

pub counted : (n t s w d f o : ℕ) → Linear n t s w d f o → IsCount n (all s w d f o)
counted n t s w d f o h = let same = live_is n t s w d f o h in fields h _ (λ a b c d' e f' g i j k l m p. record {
  word = omega arith;
  strong_fits = b;
  weak_fits = omega arith;
  one_due = omega arith;
  due_alone = λ has. omega arith;
  one_free = omega arith;
  free_alone = λ has. omega arith;
  sole_alone = λ has. (omega arith, omega arith, omega arith);
})
