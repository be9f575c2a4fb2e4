-- Each row of the table of steps keeps the rule and is the machine's step.
use Rattle.std.proofs.Common.{◌≡◌, ◌≢◌, ℕ, zero, suc, ◌+◌, ◌-◌, ◌*◌, ◌/◌, ◌%◌, ◌<◌, ◌≤◌, List, [], ◌∷◌, ◌++◌, set, refl, ap, arith, eqb, ◌⊎◌, inl, inr, ⊎_elim}
use Rattle.std.specs.Prelude.{slice_get, sum_by, All, Some}
use Rattle.std.proofs.lemmas.Bool.Decides.{eqb_tells}
use Rattle.std.proofs.lemmas.Option.{none-some}
use Rattle.std.proofs.lemmas.List.Sums.{sum_by-cons}
use Rattle.std.proofs.lemmas.List.Elements.{All-head, All-tail, All-set, All-append, All-cons, All-nil}
use mathlib.Core.Bool.{Bool, true, false, cond}
use Rattle.stabby_count.specs.Handles.{live_count}
use Rattle.stabby_count.specs.Views.{opening, looked, looked_sole, cloned, ended_strong, took, downgraded, upgraded, ended_weak, without_strong, with_strong, without_weak, with_weak, spent, HasStrong, HasWeak, HasShare, HasSeveral, HoldsNothing}
use Rattle.stabby_count.specs.Rule.{value_of, IsSound, Rule, machine_of}
use Rattle.stabby_count.specs.Rows.{IsStep, IsMove, IsRefused, IsUntakenWhereHeld}
use Rattle.stabby_count.specs.declared.machine.ValueState.TheVariants.{Live}
use Rattle.stabby_count.specs.declared.machine.Step.TheVariants.{Clone, Downgrade, Upgrade, EndStrong, EndWeak, Look, Take}
use Rattle.stabby_count.specs.declared.machine.Reply.TheVariants.{Done, Last, Freed, Counts}
use Rattle.stabby_count.specs.declared.view.View.{View}
use Rattle.stabby_count.proofs.Sums.{same_at, All-at, sum_replaced, sum_has, sum_has_two, sum_more}
use Rattle.stabby_count.proofs.Totals.{Linear, fields, linear, counted}
use Rattle.stabby_count.proofs.Machines as machines

abbrev pub strong : View → ℕ
strong v = v.strong

abbrev pub weak : View → ℕ
weak v = v.weak

abbrev pub due : View → ℕ
due v = v.due

abbrev pub free : View → ℕ
free v = v.free

abbrev pub sole : View → ℕ
sole v = v.sole

-- 1 while the value is there
abbrev pub untaken : List View → ℕ
untaken vs = live_count (value_of (sum_by strong vs) (sum_by weak vs) (sum_by due vs))

abbrev pub LinearOf : ℕ → ℕ → List View → Type 0
LinearOf n t vs = Linear n t (sum_by strong vs) (sum_by weak vs) (sum_by due vs) (sum_by free vs) (sum_by sole vs)

linear_of : (n : ℕ) (vs : List View) → Rule n vs → LinearOf n (untaken vs) vs
linear_of n vs rule = linear n (sum_by strong vs) (sum_by weak vs) (sum_by due vs) (sum_by free vs) (sum_by sole vs) rule.count

rule_of : (n t : ℕ) (vs : List View) → LinearOf n t vs → All IsSound vs → Rule n vs
rule_of n t vs l sound = record { count = counted n t (sum_by strong vs) (sum_by weak vs) (sum_by due vs) (sum_by free vs) (sum_by sole vs) l; sound = sound }

-- each sole view has a strong share
sole_strong : (vs : List View) → All IsSound vs → sum_by sole vs ≤ sum_by strong vs
sole_strong [] a = omega arith
sole_strong (x ∷ xs) a = let r = sole_strong xs (All-tail IsSound x xs a) in let h = (All-head IsSound x xs a).sole in let p = sum_by-cons sole x xs in let q = sum_by-cons strong x xs in omega arith

-- beside the sole views a view that is not sole has its shares
shares_beside : (vs : List View) (i : ℕ) (v : View) → slice_get vs i ≡ Some v → All IsSound vs → sum_by sole vs + v.strong ≤ sum_by strong vs + v.sole
shares_beside [] i v at a = absurd (none-some v at)
shares_beside (x ∷ xs) zero v at a = let r = sole_strong xs (All-tail IsSound x xs a) in let e : x.strong ≡ v.strong = ap strong (same_at x v at) in let f : x.sole ≡ v.sole = ap sole (same_at x v at) in
    let p = sum_by-cons sole x xs in let q = sum_by-cons strong x xs in omega arith
shares_beside (x ∷ xs) (suc i) v at a = let r = shares_beside xs i v at (All-tail IsSound x xs a) in let h = (All-head IsSound x xs a).sole in let p = sum_by-cons sole x xs in let q = sum_by-cons strong x xs in omega arith

-- a right of 1 by a test
abbrev pub flag : Bool → ℕ
flag b = cond b 1 0

right_if : (x k : ℕ) → ((x ≡ k) × (flag (eqb x k) ≡ 1)) ⊎ ((x ≢ k) × (flag (eqb x k) ≡ 0))
right_if x k = ⊎_elim (λ (y : (eqb x k ≡ true) × (x ≡ k)). inl (y.1, rw y.0 refl)) (λ (y : (eqb x k ≡ false) × (x ≢ k)). inr (y.1, rw y.0 refl)) (eqb_tells x k)

module _ (n place : ℕ) (views : List View) (v : View) (rule : Rule n views) (at : slice_get views place ≡ Some v) where
  sound_here : IsSound v
  sound_here = All-at IsSound views place v at rule.sound

  -- what the rule, the view and the sums with w in its place say, where a tactic reads it
  pub reading : (w : View) (C : Type 0)
      → (n ≡ sum_by strong views * 4294967296 + (sum_by weak views + untaken views) → sum_by strong views < 4294967296 → sum_by weak views + untaken views < 4294967296 → untaken views ≤ 1
      → sum_by strong views ≤ 4294967295 * untaken views → sum_by due views ≤ untaken views → untaken views ≤ sum_by strong views + sum_by due views → sum_by strong views + 4294967295 * sum_by due views ≤ 4294967295
      → sum_by free views + untaken views ≤ 1 → sum_by weak views + 4294967295 * sum_by free views ≤ 4294967295 → sum_by sole views ≤ sum_by strong views → sum_by strong views + 4294967294 * sum_by sole views ≤ 4294967295
      → sum_by weak views + 4294967295 * sum_by sole views ≤ 4294967295
      → sum_by strong (set views place w) + v.strong ≡ sum_by strong views + w.strong → sum_by weak (set views place w) + v.weak ≡ sum_by weak views + w.weak → sum_by due (set views place w) + v.due ≡ sum_by due views + w.due
      → sum_by free (set views place w) + v.free ≡ sum_by free views + w.free → sum_by sole (set views place w) + v.sole ≡ sum_by sole views + w.sole
      → v.strong ≤ sum_by strong views → v.weak ≤ sum_by weak views → v.due ≤ sum_by due views → v.free ≤ sum_by free views → v.sole ≤ sum_by sole views → sum_by sole views + v.strong ≤ sum_by strong views + v.sole → C) → C
  reading w C k = fields (linear_of n views rule) C (λ a b c d e f g h i j l m p. k a b c d e f g h i j l m p
      (sum_replaced strong views place v w at) (sum_replaced weak views place v w at) (sum_replaced due views place v w at) (sum_replaced free views place v w at) (sum_replaced sole views place v w at)
      (sum_has strong views place v at) (sum_has weak views place v at) (sum_has due views place v at) (sum_has free views place v at) (sum_has sole views place v at) (shares_beside views place v at rule.sound))

  -- a load that is noted
  pub looks : Rule n (set views place (looked v n))
  looks = rule_of (n) (untaken views) (set views place (looked v n)) (reading (looked v n) _ (λ a b c d e f g h i j l m p q r x y z s₁ s₂ s₃ s₄ s₅ s₆. record {
    word = omega arith;
    strong_fits = omega arith;
    weak_fits = omega arith;
    untaken = omega arith;
    strong_untaken = omega arith;
    due_untaken = omega arith;
    untaken_held = omega arith;
    one_due = omega arith;
    free_taken = omega arith;
    free_alone = omega arith;
    sole_strong = omega arith;
    sole_one = omega arith;
    sole_alone = omega arith;
  }))
      (All-set IsSound views place (looked v n) (record { sole = sound_here.sole; due = sound_here.due; free = sound_here.free }) rule.sound)

  -- a load that is not noted
  pub rests : Rule n (set views place v)
  rests = rule_of (n) (untaken views) (set views place (v)) (reading (v) _ (λ a b c d e f g h i j l m p q r x y z s₁ s₂ s₃ s₄ s₅ s₆. record {
    word = omega arith;
    strong_fits = omega arith;
    weak_fits = omega arith;
    untaken = omega arith;
    strong_untaken = omega arith;
    due_untaken = omega arith;
    untaken_held = omega arith;
    one_due = omega arith;
    free_taken = omega arith;
    free_alone = omega arith;
    sole_strong = omega arith;
    sole_one = omega arith;
    sole_alone = omega arith;
  }))
      (All-set IsSound views place (v) (sound_here) rule.sound)

  -- a load, or an exchange that read another word

  -- a load, or an exchange that read another word
  pub look_row : HasShare v → IsStep views (set views place (looked v n)) (n) Look (Counts (n / 4294967296) (n % 4294967296))
  look_row has = record {
    rule = rule_of (n) (untaken views) (set views place (looked v n)) (reading (looked v n) _ (λ a b c d e f g h i j l m p q r x y z s₁ s₂ s₃ s₄ s₅ s₆. record {
      word = omega arith;
      strong_fits = omega arith;
      weak_fits = omega arith;
      untaken = omega arith;
      strong_untaken = omega arith;
      due_untaken = omega arith;
      untaken_held = omega arith;
      one_due = omega arith;
      free_taken = omega arith;
      free_alone = omega arith;
      sole_strong = omega arith;
      sole_one = omega arith;
      sole_alone = omega arith;
    }))
        (All-set IsSound views place (looked v n) (record { sole = sound_here.sole; due = sound_here.due; free = sound_here.free }) rule.sound);
    machine = reading (looked v n) _ (λ a b c d e f g h i j l m p q r x y z s₁ s₂ s₃ s₄ s₅ s₆. machines.look_machine n (sum_by strong views) (sum_by weak views) (sum_by due views) (sum_by strong (set views place (looked v n))) (sum_by weak (set views place (looked v n))) (sum_by due (set views place (looked v n))) (omega arith) (omega arith) (omega arith) (omega arith) (omega arith) (omega arith));
  }

  -- a strong view's look that read one strong and one weak
  pub sole_look_row : HasStrong v → n ≡ 4294967297 → IsStep views (set views place (looked_sole v n)) (n) Look (Counts (n / 4294967296) (n % 4294967296))
  sole_look_row has one = record {
    rule = rule_of (n) (untaken views) (set views place (looked_sole v n)) (reading (looked_sole v n) _ (λ a b c d e f g h i j l m p q r x y z s₁ s₂ s₃ s₄ s₅ s₆. record {
      word = omega arith;
      strong_fits = omega arith;
      weak_fits = omega arith;
      untaken = omega arith;
      strong_untaken = omega arith;
      due_untaken = omega arith;
      untaken_held = omega arith;
      one_due = omega arith;
      free_taken = omega arith;
      free_alone = omega arith;
      sole_strong = omega arith;
      sole_one = omega arith;
      sole_alone = omega arith;
    }))
        (All-set IsSound views place (looked_sole v n) (record { sole = has; due = sound_here.due; free = sound_here.free }) rule.sound);
    machine = reading (looked_sole v n) _ (λ a b c d e f g h i j l m p q r x y z s₁ s₂ s₃ s₄ s₅ s₆. machines.look_machine n (sum_by strong views) (sum_by weak views) (sum_by due views) (sum_by strong (set views place (looked_sole v n))) (sum_by weak (set views place (looked_sole v n))) (sum_by due (set views place (looked_sole v n))) (omega arith) (omega arith) (omega arith) (omega arith) (omega arith) (omega arith));
  }

  -- one strong share more, made from a strong one
  pub clone_row : HasStrong v → n / 4294967296 < 4294967295 → IsStep views (set views place (cloned v n)) (n + 4294967296) Clone (Done)
  clone_row has few = record {
    rule = rule_of (n + 4294967296) (untaken views) (set views place (cloned v n)) (reading (cloned v n) _ (λ a b c d e f g h i j l m p q r x y z s₁ s₂ s₃ s₄ s₅ s₆. record {
      word = omega arith;
      strong_fits = omega arith;
      weak_fits = omega arith;
      untaken = omega arith;
      strong_untaken = omega arith;
      due_untaken = omega arith;
      untaken_held = omega arith;
      one_due = omega arith;
      free_taken = omega arith;
      free_alone = omega arith;
      sole_strong = omega arith;
      sole_one = omega arith;
      sole_alone = omega arith;
    }))
        (All-set IsSound views place (cloned v n) (record { sole = omega arith; due = λ right. absurd (let g = sound_here.due right in omega arith); free = λ right. absurd (let g = sound_here.free right in omega arith) }) rule.sound);
    machine = reading (cloned v n) _ (λ a b c d e f g h i j l m p q r x y z s₁ s₂ s₃ s₄ s₅ s₆. machines.clone_machine n (sum_by strong views) (sum_by weak views) (sum_by due views) (sum_by strong (set views place (cloned v n))) (sum_by weak (set views place (cloned v n))) (sum_by due (set views place (cloned v n))) (omega arith) (omega arith) (omega arith) (omega arith));
  }

  -- one strong share more, made from a weak one
  pub upgrade_row : HasWeak v → 0 < n / 4294967296 → n / 4294967296 < 4294967295 → IsStep views (set views place (upgraded v n)) (n + 4294967296) Upgrade (Done)
  upgrade_row has there few = record {
    rule = rule_of (n + 4294967296) (untaken views) (set views place (upgraded v n)) (reading (upgraded v n) _ (λ a b c d e f g h i j l m p q r x y z s₁ s₂ s₃ s₄ s₅ s₆. record {
      word = omega arith;
      strong_fits = omega arith;
      weak_fits = omega arith;
      untaken = omega arith;
      strong_untaken = omega arith;
      due_untaken = omega arith;
      untaken_held = omega arith;
      one_due = omega arith;
      free_taken = omega arith;
      free_alone = omega arith;
      sole_strong = omega arith;
      sole_one = omega arith;
      sole_alone = omega arith;
    }))
        (All-set IsSound views place (upgraded v n) (record { sole = let k = sound_here.sole in omega arith; due = λ right. absurd (let g = sound_here.due right in omega arith); free = λ right. absurd (let g = sound_here.free right in omega arith) }) rule.sound);
    machine = reading (upgraded v n) _ (λ a b c d e f g h i j l m p q r x y z s₁ s₂ s₃ s₄ s₅ s₆. machines.upgrade_machine n (sum_by strong views) (sum_by weak views) (sum_by due views) (sum_by strong (set views place (upgraded v n))) (sum_by weak (set views place (upgraded v n))) (sum_by due (set views place (upgraded v n))) (omega arith) (omega arith) (omega arith) (omega arith) (omega arith));
  }

  -- one weak share more, made from a strong or a weak one
  pub downgrade_row : HasShare v → n % 4294967296 < 4294967295 → IsStep views (set views place (downgraded v n)) (n + 1) Downgrade (Done)
  downgrade_row has few = record {
    rule = rule_of (n + 1) (untaken views) (set views place (downgraded v n)) (reading (downgraded v n) _ (λ a b c d e f g h i j l m p q r x y z s₁ s₂ s₃ s₄ s₅ s₆. record {
      word = omega arith;
      strong_fits = omega arith;
      weak_fits = omega arith;
      untaken = omega arith;
      strong_untaken = omega arith;
      due_untaken = omega arith;
      untaken_held = omega arith;
      one_due = omega arith;
      free_taken = omega arith;
      free_alone = omega arith;
      sole_strong = omega arith;
      sole_one = omega arith;
      sole_alone = omega arith;
    }))
        (All-set IsSound views place (downgraded v n) (record { sole = omega arith; due = λ right. absurd (let g = sound_here.due right in omega arith); free = λ right. absurd (let g = sound_here.free right in omega arith) }) rule.sound);
    machine = reading (downgraded v n) _ (λ a b c d e f g h i j l m p q r x y z s₁ s₂ s₃ s₄ s₅ s₆. machines.downgrade_machine n (sum_by strong views) (sum_by weak views) (sum_by due views) (sum_by strong (set views place (downgraded v n))) (sum_by weak (set views place (downgraded v n))) (sum_by due (set views place (downgraded v n))) (omega arith) (omega arith) (omega arith) (omega arith) (omega arith));
  }

  -- the end of a strong view with its one share
  pub end_strong_row : v.strong ≡ 1 → v.weak ≡ 0 → IsStep views (set views place (ended_strong v n)) (n - 4294967296) EndStrong (cond (eqb (n / 4294967296) 1) Last Done)
  end_strong_row one none_ = record {
    rule = ⊎_elim
        (λ (yes_ : (n / 4294967296 ≡ 1) × (flag (eqb (n / 4294967296) 1) ≡ 1)). let is = yes_.0 in let right = yes_.1 in rule_of (n - 4294967296) (untaken views) (set views place (ended_strong v n)) (reading (ended_strong v n) _ (λ a b c d e f g h i j l m p q r x y z s₁ s₂ s₃ s₄ s₅ s₆. record {
          word = omega arith;
          strong_fits = omega arith;
          weak_fits = omega arith;
          untaken = omega arith;
          strong_untaken = omega arith;
          due_untaken = omega arith;
          untaken_held = omega arith;
          one_due = omega arith;
          free_taken = omega arith;
          free_alone = omega arith;
          sole_strong = omega arith;
          sole_one = omega arith;
          sole_alone = omega arith;
        }))
        (All-set IsSound views place (ended_strong v n) (record { sole = omega arith; due = λ has. omega arith; free = λ has. omega arith }) rule.sound))
        (λ (no_ : (n / 4294967296 ≢ 1) × (flag (eqb (n / 4294967296) 1) ≡ 0)). let isnt = no_.0 in let right = no_.1 in rule_of (n - 4294967296) (untaken views) (set views place (ended_strong v n)) (reading (ended_strong v n) _ (λ a b c d e f g h i j l m p q r x y z s₁ s₂ s₃ s₄ s₅ s₆. record {
          word = omega arith;
          strong_fits = omega arith;
          weak_fits = omega arith;
          untaken = omega arith;
          strong_untaken = omega arith;
          due_untaken = omega arith;
          untaken_held = omega arith;
          one_due = omega arith;
          free_taken = omega arith;
          free_alone = omega arith;
          sole_strong = omega arith;
          sole_one = omega arith;
          sole_alone = omega arith;
        }))
        (All-set IsSound views place (ended_strong v n) (record { sole = omega arith; due = λ has. omega arith; free = λ has. omega arith }) rule.sound))
        (right_if (n / 4294967296) 1);
    machine = ⊎_elim
        (λ (yes_ : (n / 4294967296 ≡ 1) × (flag (eqb (n / 4294967296) 1) ≡ 1)). let is = yes_.0 in let right = yes_.1 in reading (ended_strong v n) _ (λ a b c d e f g h i j l m p q r x y z s₁ s₂ s₃ s₄ s₅ s₆. machines.end_strong_machine n (sum_by strong views) (sum_by weak views) (sum_by due views) (sum_by strong (set views place (ended_strong v n))) (sum_by weak (set views place (ended_strong v n))) (sum_by due (set views place (ended_strong v n))) (omega arith) (omega arith) (omega arith) (omega arith) (omega arith)))
        (λ (no_ : (n / 4294967296 ≢ 1) × (flag (eqb (n / 4294967296) 1) ≡ 0)). let isnt = no_.0 in let right = no_.1 in reading (ended_strong v n) _ (λ a b c d e f g h i j l m p q r x y z s₁ s₂ s₃ s₄ s₅ s₆. machines.end_strong_machine n (sum_by strong views) (sum_by weak views) (sum_by due views) (sum_by strong (set views place (ended_strong v n))) (sum_by weak (set views place (ended_strong v n))) (sum_by due (set views place (ended_strong v n))) (omega arith) (omega arith) (omega arith) (omega arith) (omega arith)))
        (right_if (n / 4294967296) 1);
  }

  -- the end of a weak view with its one share
  pub end_weak_row : v.strong ≡ 0 → v.weak ≡ 1 → IsStep views (set views place (ended_weak v n)) (n - 1) EndWeak (cond (eqb n 1) Freed Done)
  end_weak_row none_ one = record {
    rule = ⊎_elim
        (λ (yes_ : (n ≡ 1) × (flag (eqb (n) 1) ≡ 1)). let is = yes_.0 in let right = yes_.1 in rule_of (n - 1) (untaken views) (set views place (ended_weak v n)) (reading (ended_weak v n) _ (λ a b c d e f g h i j l m p q r x y z s₁ s₂ s₃ s₄ s₅ s₆. record {
          word = omega arith;
          strong_fits = omega arith;
          weak_fits = omega arith;
          untaken = omega arith;
          strong_untaken = omega arith;
          due_untaken = omega arith;
          untaken_held = omega arith;
          one_due = omega arith;
          free_taken = omega arith;
          free_alone = omega arith;
          sole_strong = omega arith;
          sole_one = omega arith;
          sole_alone = omega arith;
        }))
        (All-set IsSound views place (ended_weak v n) (record { sole = let k = sound_here.sole in omega arith; due = λ has. omega arith; free = λ has. omega arith }) rule.sound))
        (λ (no_ : (n ≢ 1) × (flag (eqb (n) 1) ≡ 0)). let isnt = no_.0 in let right = no_.1 in rule_of (n - 1) (untaken views) (set views place (ended_weak v n)) (reading (ended_weak v n) _ (λ a b c d e f g h i j l m p q r x y z s₁ s₂ s₃ s₄ s₅ s₆. record {
          word = omega arith;
          strong_fits = omega arith;
          weak_fits = omega arith;
          untaken = omega arith;
          strong_untaken = omega arith;
          due_untaken = omega arith;
          untaken_held = omega arith;
          one_due = omega arith;
          free_taken = omega arith;
          free_alone = omega arith;
          sole_strong = omega arith;
          sole_one = omega arith;
          sole_alone = omega arith;
        }))
        (All-set IsSound views place (ended_weak v n) (record { sole = let k = sound_here.sole in omega arith; due = λ has. omega arith; free = λ has. omega arith }) rule.sound))
        (right_if (n) 1);
    machine = ⊎_elim
        (λ (yes_ : (n ≡ 1) × (flag (eqb (n) 1) ≡ 1)). let is = yes_.0 in let right = yes_.1 in reading (ended_weak v n) _ (λ a b c d e f g h i j l m p q r x y z s₁ s₂ s₃ s₄ s₅ s₆. machines.end_weak_machine n (sum_by strong views) (sum_by weak views) (sum_by due views) (sum_by strong (set views place (ended_weak v n))) (sum_by weak (set views place (ended_weak v n))) (sum_by due (set views place (ended_weak v n))) (omega arith) (omega arith) (omega arith) (omega arith) (omega arith)))
        (λ (no_ : (n ≢ 1) × (flag (eqb (n) 1) ≡ 0)). let isnt = no_.0 in let right = no_.1 in reading (ended_weak v n) _ (λ a b c d e f g h i j l m p q r x y z s₁ s₂ s₃ s₄ s₅ s₆. machines.end_weak_machine n (sum_by strong views) (sum_by weak views) (sum_by due views) (sum_by strong (set views place (ended_weak v n))) (sum_by weak (set views place (ended_weak v n))) (sum_by due (set views place (ended_weak v n))) (omega arith) (omega arith) (omega arith) (omega arith) (omega arith)))
        (right_if (n) 1);
  }

  -- a due view takes the value
  pub take_row : v.due ≡ 1 → IsStep views (set views place (took v n)) (n - 1) Take (cond (eqb n 1) Freed Done)
  take_row one = record {
    rule = ⊎_elim
        (λ (yes_ : (n ≡ 1) × (flag (eqb (n) 1) ≡ 1)). let is = yes_.0 in let right = yes_.1 in rule_of (n - 1) (0) (set views place (took v n)) (reading (took v n) _ (λ a b c d e f g h i j l m p q r x y z s₁ s₂ s₃ s₄ s₅ s₆. record {
          word = omega arith;
          strong_fits = omega arith;
          weak_fits = omega arith;
          untaken = omega arith;
          strong_untaken = omega arith;
          due_untaken = omega arith;
          untaken_held = omega arith;
          one_due = omega arith;
          free_taken = omega arith;
          free_alone = omega arith;
          sole_strong = omega arith;
          sole_one = omega arith;
          sole_alone = omega arith;
        }))
        (All-set IsSound views place (took v n) (let g = sound_here.due (omega arith) in record { sole = let k = sound_here.sole in omega arith; due = λ has. omega arith; free = λ has. omega arith }) rule.sound))
        (λ (no_ : (n ≢ 1) × (flag (eqb (n) 1) ≡ 0)). let isnt = no_.0 in let right = no_.1 in rule_of (n - 1) (0) (set views place (took v n)) (reading (took v n) _ (λ a b c d e f g h i j l m p q r x y z s₁ s₂ s₃ s₄ s₅ s₆. record {
          word = omega arith;
          strong_fits = omega arith;
          weak_fits = omega arith;
          untaken = omega arith;
          strong_untaken = omega arith;
          due_untaken = omega arith;
          untaken_held = omega arith;
          one_due = omega arith;
          free_taken = omega arith;
          free_alone = omega arith;
          sole_strong = omega arith;
          sole_one = omega arith;
          sole_alone = omega arith;
        }))
        (All-set IsSound views place (took v n) (let g = sound_here.due (omega arith) in record { sole = let k = sound_here.sole in omega arith; due = λ has. omega arith; free = λ has. omega arith }) rule.sound))
        (right_if (n) 1);
    machine = ⊎_elim
        (λ (yes_ : (n ≡ 1) × (flag (eqb (n) 1) ≡ 1)). let is = yes_.0 in let right = yes_.1 in reading (took v n) _ (λ a b c d e f g h i j l m p q r x y z s₁ s₂ s₃ s₄ s₅ s₆. machines.take_machine n (sum_by strong views) (sum_by weak views) (sum_by due views) (sum_by strong (set views place (took v n))) (sum_by weak (set views place (took v n))) (sum_by due (set views place (took v n))) (omega arith) (omega arith) (omega arith) (omega arith) (omega arith) (omega arith)))
        (λ (no_ : (n ≢ 1) × (flag (eqb (n) 1) ≡ 0)). let isnt = no_.0 in let right = no_.1 in reading (took v n) _ (λ a b c d e f g h i j l m p q r x y z s₁ s₂ s₃ s₄ s₅ s₆. machines.take_machine n (sum_by strong views) (sum_by weak views) (sum_by due views) (sum_by strong (set views place (took v n))) (sum_by weak (set views place (took v n))) (sum_by due (set views place (took v n))) (omega arith) (omega arith) (omega arith) (omega arith) (omega arith) (omega arith)))
        (right_if (n) 1);
  }

  -- a seat that holds nothing ends
  pub end_row : HoldsNothing v → IsMove views (set views place (spent v)) n
  end_row none_ = let empty = none_.0 in let no_due = none_.1 in record {
    rule = rule_of (n) (untaken views) (set views place (spent v)) (reading (spent v) _ (λ a b c d e f g h i j l m p q r x y z s₁ s₂ s₃ s₄ s₅ s₆. record {
      word = omega arith;
      strong_fits = omega arith;
      weak_fits = omega arith;
      untaken = omega arith;
      strong_untaken = omega arith;
      due_untaken = omega arith;
      untaken_held = omega arith;
      one_due = omega arith;
      free_taken = omega arith;
      free_alone = omega arith;
      sole_strong = omega arith;
      sole_one = omega arith;
      sole_alone = omega arith;
    }))
        (All-set IsSound views place (spent v) (record { sole = omega arith; due = λ has. omega arith; free = λ has. omega arith }) rule.sound);
    machine = reading (spent v) _ (λ a b c d e f g h i j l m p q r x y z s₁ s₂ s₃ s₄ s₅ s₆. machines.same_machine (sum_by strong views) (sum_by weak views) (sum_by due views) (sum_by strong (set views place (spent v))) (sum_by weak (set views place (spent v))) (sum_by due (set views place (spent v))) (omega arith) (omega arith) (omega arith));
  }

  -- one of several shares, a strong one, goes to a new seat
  pub strong_split_row : HasStrong v → HasSeveral v → IsMove views (set views place (without_strong v) ++ with_strong v ∷ []) n
  strong_split_row has several = record {
    rule = rule_of n (untaken views) (set views place (without_strong v) ++ with_strong v ∷ []) (reading (without_strong v) _ (λ a b c d e f g h i j l m p q r x y z s₁ s₂ s₃ s₄ s₅ s₆. let m0 = sum_more strong (set views place (without_strong v)) (with_strong v) in let m1 = sum_more weak (set views place (without_strong v)) (with_strong v) in let m2 = sum_more due (set views place (without_strong v)) (with_strong v) in let m3 = sum_more free (set views place (without_strong v)) (with_strong v) in let m4 = sum_more sole (set views place (without_strong v)) (with_strong v) in record {
      word = omega arith;
      strong_fits = omega arith;
      weak_fits = omega arith;
      untaken = omega arith;
      strong_untaken = omega arith;
      due_untaken = omega arith;
      untaken_held = omega arith;
      one_due = omega arith;
      free_taken = omega arith;
      free_alone = omega arith;
      sole_strong = omega arith;
      sole_one = omega arith;
      sole_alone = omega arith;
    }))
        (All-append IsSound (set views place (without_strong v)) (with_strong v ∷ [])
        (All-set IsSound views place (without_strong v) (reading (without_strong v) _ (λ a b c d e f g h i j l m p q r x y z s₁ s₂ s₃ s₄ s₅ s₆. record { sole = let k = sound_here.sole in omega arith; due = λ right. absurd (let g = sound_here.due right in omega arith); free = λ right. absurd (let g = sound_here.free right in omega arith) })) rule.sound)
        (All-cons IsSound (with_strong v) [] (record { sole = omega arith; due = λ right. absurd (omega arith); free = λ right. absurd (omega arith) }) (All-nil IsSound)));
    machine = reading (without_strong v) _ (λ a b c d e f g h i j l m p q r x y z s₁ s₂ s₃ s₄ s₅ s₆. let m0 = sum_more strong (set views place (without_strong v)) (with_strong v) in let m1 = sum_more weak (set views place (without_strong v)) (with_strong v) in let m2 = sum_more due (set views place (without_strong v)) (with_strong v) in let m3 = sum_more free (set views place (without_strong v)) (with_strong v) in let m4 = sum_more sole (set views place (without_strong v)) (with_strong v) in machines.same_machine (sum_by strong views) (sum_by weak views) (sum_by due views) (sum_by strong (set views place (without_strong v) ++ with_strong v ∷ [])) (sum_by weak (set views place (without_strong v) ++ with_strong v ∷ [])) (sum_by due (set views place (without_strong v) ++ with_strong v ∷ [])) (omega arith) (omega arith) (omega arith));
  }

  -- one of several shares, a weak one, goes to a new seat
  pub weak_split_row : HasWeak v → HasSeveral v → IsMove views (set views place (without_weak v) ++ with_weak v ∷ []) n
  weak_split_row has several = record {
    rule = rule_of n (untaken views) (set views place (without_weak v) ++ with_weak v ∷ []) (reading (without_weak v) _ (λ a b c d e f g h i j l m p q r x y z s₁ s₂ s₃ s₄ s₅ s₆. let m0 = sum_more strong (set views place (without_weak v)) (with_weak v) in let m1 = sum_more weak (set views place (without_weak v)) (with_weak v) in let m2 = sum_more due (set views place (without_weak v)) (with_weak v) in let m3 = sum_more free (set views place (without_weak v)) (with_weak v) in let m4 = sum_more sole (set views place (without_weak v)) (with_weak v) in record {
      word = omega arith;
      strong_fits = omega arith;
      weak_fits = omega arith;
      untaken = omega arith;
      strong_untaken = omega arith;
      due_untaken = omega arith;
      untaken_held = omega arith;
      one_due = omega arith;
      free_taken = omega arith;
      free_alone = omega arith;
      sole_strong = omega arith;
      sole_one = omega arith;
      sole_alone = omega arith;
    }))
        (All-append IsSound (set views place (without_weak v)) (with_weak v ∷ [])
        (All-set IsSound views place (without_weak v) (reading (without_weak v) _ (λ a b c d e f g h i j l m p q r x y z s₁ s₂ s₃ s₄ s₅ s₆. record { sole = let k = sound_here.sole in omega arith; due = λ right. absurd (let g = sound_here.due right in omega arith); free = λ right. absurd (let g = sound_here.free right in omega arith) })) rule.sound)
        (All-cons IsSound (with_weak v) [] (record { sole = omega arith; due = λ right. absurd (omega arith); free = λ right. absurd (omega arith) }) (All-nil IsSound)));
    machine = reading (without_weak v) _ (λ a b c d e f g h i j l m p q r x y z s₁ s₂ s₃ s₄ s₅ s₆. let m0 = sum_more strong (set views place (without_weak v)) (with_weak v) in let m1 = sum_more weak (set views place (without_weak v)) (with_weak v) in let m2 = sum_more due (set views place (without_weak v)) (with_weak v) in let m3 = sum_more free (set views place (without_weak v)) (with_weak v) in let m4 = sum_more sole (set views place (without_weak v)) (with_weak v) in machines.same_machine (sum_by strong views) (sum_by weak views) (sum_by due views) (sum_by strong (set views place (without_weak v) ++ with_weak v ∷ [])) (sum_by weak (set views place (without_weak v) ++ with_weak v ∷ [])) (sum_by due (set views place (without_weak v) ++ with_weak v ∷ [])) (omega arith) (omega arith) (omega arith));
  }

  pub refused : IsRefused n views v
  refused = record {
    clone_full = λ has full. reading v _ (λ a b c d e f g h i j l m p q r x y z s₁ s₂ s₃ s₄ s₅ s₆. machines.clone_full n (sum_by strong views) (sum_by weak views) (sum_by due views) (sum_by strong views) (sum_by weak views) (sum_by due views) (omega arith) (omega arith) (value_of (sum_by strong views) (sum_by weak views) (sum_by due views)));
    downgrade_full = λ has full. reading v _ (λ a b c d e f g h i j l m p q r x y z s₁ s₂ s₃ s₄ s₅ s₆. machines.downgrade_full n (sum_by strong views) (sum_by weak views) (sum_by due views) (sum_by strong views) (sum_by weak views) (sum_by due views) (omega arith) (value_of (sum_by strong views) (sum_by weak views) (sum_by due views)) (omega arith));
    upgrade_full = λ has full. reading v _ (λ a b c d e f g h i j l m p q r x y z s₁ s₂ s₃ s₄ s₅ s₆. machines.upgrade_full n (sum_by strong views) (sum_by weak views) (sum_by due views) (sum_by strong views) (sum_by weak views) (sum_by due views) (omega arith) (omega arith) (value_of (sum_by strong views) (sum_by weak views) (sum_by due views)));
    upgrade_gone = λ has gone. reading v _ (λ a b c d e f g h i j l m p q r x y z s₁ s₂ s₃ s₄ s₅ s₆. machines.upgrade_gone n (sum_by strong views) (sum_by weak views) (sum_by due views) (sum_by strong views) (sum_by weak views) (sum_by due views) (omega arith) (omega arith) (value_of (sum_by strong views) (sum_by weak views) (sum_by due views)));
  }

  pub sole_reads : 0 < v.sole → n ≡ 4294967297
  sole_reads has = reading v _ (λ a b c d e f g h i j l m p q r x y z s₁ s₂ s₃ s₄ s₅ s₆. omega arith)

-- where a strong view reads one strong and one weak, the others have nothing
pub alone : (place other : ℕ) (views : List View) (v u : View) → Rule 4294967297 views → slice_get views place ≡ Some v → HasStrong v → slice_get views other ≡ Some u → other ≢ place
    → u.strong + u.weak + u.due + u.free + u.sole ≡ 0
alone place other views v u rule at has there apart = reading 4294967297 place views v rule at v _ (λ a b c d e f g h i j l m p q r x y z s₁ s₂ s₃ s₄ s₅ s₆.
    let two = sum_has_two strong views place other v u at there apart in let h1 = sum_has weak views other u there in let h2 = sum_has due views other u there in let h3 = sum_has free views other u there in
    let k = (All-at IsSound views other u there rule.sound).sole in omega arith)

pub opens : Rule 4294967297 (opening ∷ [])
opens = rule_of 4294967297 1 (opening ∷ []) record {
  word = omega arith;
  strong_fits = omega arith;
  weak_fits = omega arith;
  untaken = omega arith;
  strong_untaken = omega arith;
  due_untaken = omega arith;
  untaken_held = omega arith;
  one_due = omega arith;
  free_taken = omega arith;
  free_alone = omega arith;
  sole_strong = omega arith;
  sole_one = omega arith;
  sole_alone = omega arith;
} (All-cons IsSound opening [] (record { sole = omega arith; due = λ right. absurd (omega arith); free = λ right. absurd (omega arith) }) (All-nil IsSound))

pub held : (n : ℕ) (views : List View) → Rule n views → IsUntakenWhereHeld views
held n views rule = record {
  untaken = (there, λ has. machines.is_live (sum_by strong views) (sum_by weak views) (sum_by due views) has);
  never_both = fields (linear_of n views rule) _ (λ a b c d e f g h i j l m p. ⊎_elim
      (λ (y : (eqb (sum_by due views) 0 ≡ true) × (sum_by due views ≡ 0)). inr y.1)
      (λ (y : (eqb (sum_by due views) 0 ≡ false) × (sum_by due views ≢ 0)). let ne = y.1 in inl (omega arith))
      (eqb_tells (sum_by due views) 0));
}
  where
    there : (machine_of views).value ≡ Live → 0 < sum_by strong views + sum_by due views
    there is = let one : untaken views ≡ 1 = ap live_count is in fields (linear_of n views rule) _ (λ a b c d e f g h i j l m p. omega arith)
