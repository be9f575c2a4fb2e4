-- What each step keeps, and so every list of steps.
use Rattle.std.proofs.Common.{◌≡◌, ℕ, ◌+◌, ◌<◌, ◌≤◌, List, [], ◌∷◌, ◌++◌, refl, subst, arith}
use Rattle.std.proofs.lemmas.Grind.{common_steps}
use Rattle.stabby_count.specs.Handles.{Handles, handles, start, stepped, word_of, IsDue}
use Rattle.stabby_count.specs.Runs.{after_from, after, taken_by, freed_by, takes_from, takes, frees_from, frees, place_of, IsWordOf, IsTakenOnce, IsFreedOnce, IsEnded}
use Rattle.stabby_count.specs.declared.machine.ValueState.{ValueState}
use Rattle.stabby_count.specs.declared.machine.ValueState.TheVariants.{Live, Taken, Released}
use Rattle.stabby_count.specs.declared.machine.Step.{Step}
use Rattle.stabby_count.specs.declared.machine.Step.TheVariants.{Clone, Downgrade, Upgrade, EndStrong, EndWeak, Look, Take}

-- a machine after t takes and f frees: its counts fit, and its state tells both numbers
abbrev pub Keeps : ℕ → ℕ → ValueState → ℕ → ℕ → Type 0
Keeps s w Live t f = (s < 4294967296) × (w + 1 < 4294967296) × (t ≡ 0) × (f ≡ 0)
Keeps s w Taken t f = (s ≡ 0) × (0 < w) × (w < 4294967296) × (t ≡ 1) × (f ≡ 0)
Keeps s w Released t f = (s ≡ 0) × (w ≡ 0) × (t ≡ 1) × (f ≡ 1)

abbrev pub IsKept : Handles → ℕ → ℕ → Type 0
IsKept m t f = Keeps m.strong m.weak m.value t f

kept : (s w : ℕ) (v : ValueState) (t f : ℕ) (st : Step) → Keeps s w v t f → IsKept (stepped (handles s w v) st).0 (t + taken_by st (stepped (handles s w v) st).1) (f + freed_by (stepped (handles s w v) st).1)
kept s w Live t f Clone h = grind (arith, common_steps)
kept s w Live t f Downgrade h = grind (arith, common_steps)
kept s w Live t f Upgrade h = grind (arith, common_steps)
kept s w Live t f EndStrong h = grind (arith, common_steps)
kept s w Live t f EndWeak h = grind (arith, common_steps)
kept s w Live t f Look h = grind (arith, common_steps)
kept s w Live t f Take h = grind (arith, common_steps)
kept s w Taken t f Clone h = grind (arith, common_steps)
kept s w Taken t f Downgrade h = grind (arith, common_steps)
kept s w Taken t f Upgrade h = grind (arith, common_steps)
kept s w Taken t f EndStrong h = grind (arith, common_steps)
kept s w Taken t f EndWeak h = grind (arith, common_steps)
kept s w Taken t f Look h = grind (arith, common_steps)
kept s w Taken t f Take h = grind (arith, common_steps)
kept s w Released t f Clone h = grind (arith, common_steps)
kept s w Released t f Downgrade h = grind (arith, common_steps)
kept s w Released t f Upgrade h = grind (arith, common_steps)
kept s w Released t f EndStrong h = grind (arith, common_steps)
kept s w Released t f EndWeak h = grind (arith, common_steps)
kept s w Released t f Look h = grind (arith, common_steps)
kept s w Released t f Take h = grind (arith, common_steps)

recount : (m : Handles) (t f t' f' : ℕ) → t ≡ t' → f ≡ f' → IsKept m t f → IsKept m t' f'
recount m t f t' f' e g h = subst (λ k. IsKept m k f') e (subst (λ k. IsKept m t k) g h)

keeps : (m : Handles) (t f : ℕ) (ss : List Step) → IsKept m t f → IsKept (after_from m ss) (t + takes_from m ss) (f + frees_from m ss)
keeps m t f [] h = recount m t f (t + 0) (f + 0) (omega arith) (omega arith) h
keeps m t f (s ∷ ss) h = let n = (stepped m s).0 in let a = taken_by s (stepped m s).1 in let b = freed_by (stepped m s).1 in
    recount (after_from n ss) (t + a + takes_from n ss) (f + b + frees_from n ss) (t + (a + takes_from n ss)) (f + (b + frees_from n ss)) (omega arith) (omega arith) (keeps n (t + a) (f + b) ss (kept m.strong m.weak m.value t f s h))

pub after_kept : (ss : List Step) → IsKept (after ss) (takes ss) (frees ss)
after_kept ss = recount (after ss) (0 + takes ss) (0 + frees ss) (takes ss) (frees ss) (omega arith) (omega arith) (keeps start 0 0 ss (omega arith, omega arith, refl, refl))

back : (s w : ℕ) (v : ValueState) (st : Step) → place_of v ≤ place_of (stepped (handles s w v) st).0.value
back s w Live Clone = grind (arith, common_steps)
back s w Live Downgrade = grind (arith, common_steps)
back s w Live Upgrade = grind (arith, common_steps)
back s w Live EndStrong = grind (arith, common_steps)
back s w Live EndWeak = grind (arith, common_steps)
back s w Live Look = grind (arith, common_steps)
back s w Live Take = grind (arith, common_steps)
back s w Taken Clone = grind (arith, common_steps)
back s w Taken Downgrade = grind (arith, common_steps)
back s w Taken Upgrade = grind (arith, common_steps)
back s w Taken EndStrong = grind (arith, common_steps)
back s w Taken EndWeak = grind (arith, common_steps)
back s w Taken Look = grind (arith, common_steps)
back s w Taken Take = grind (arith, common_steps)
back s w Released Clone = grind (arith, common_steps)
back s w Released Downgrade = grind (arith, common_steps)
back s w Released Upgrade = grind (arith, common_steps)
back s w Released EndStrong = grind (arith, common_steps)
back s w Released EndWeak = grind (arith, common_steps)
back s w Released Look = grind (arith, common_steps)
back s w Released Take = grind (arith, common_steps)

back_from : (m : Handles) (ss : List Step) → place_of m.value ≤ place_of (after_from m ss).value
back_from m [] = omega arith
back_from m (s ∷ ss) = let a = back m.strong m.weak m.value s in let b = back_from (stepped m s).0 ss in omega arith

-- a list of steps and then more of them
joined : (m : Handles) (ss more : List Step) → after_from m (ss ++ more) ≡ after_from (after_from m ss) more
joined m [] more = refl
joined m (s ∷ ss) more = joined (stepped m s).0 ss more

pub never_back : (ss more : List Step) → place_of (after ss).value ≤ place_of (after (ss ++ more)).value
never_back ss more = rw (joined start ss more) (back_from (after ss) more)

takes_joined : (m : Handles) (ss more : List Step) → takes_from m (ss ++ more) ≡ takes_from m ss + takes_from (after_from m ss) more
takes_joined m [] more = omega arith
takes_joined m (s ∷ ss) more = let h = takes_joined (stepped m s).0 ss more in omega arith

frees_joined : (m : Handles) (ss more : List Step) → frees_from m (ss ++ more) ≡ frees_from m ss + frees_from (after_from m ss) more
frees_joined m [] more = omega arith
frees_joined m (s ∷ ss) more = let h = frees_joined (stepped m s).0 ss more in omega arith

at_most_one_take : (s w : ℕ) (v : ValueState) (t f : ℕ) → Keeps s w v t f → t ≤ 1
at_most_one_take s w Live t f h = let a = h.2 in omega arith
at_most_one_take s w Taken t f h = let a = h.3 in omega arith
at_most_one_take s w Released t f h = let a = h.2 in omega arith

none_strong : (s w : ℕ) (v : ValueState) (t f : ℕ) → Keeps s w v t f → 0 < t → s ≡ 0
none_strong s w Live t f h some_ = let a = h.2 in absurd (omega arith)
none_strong s w Taken t f h some_ = h.0
none_strong s w Released t f h some_ = h.0

at_most_one_free : (s w : ℕ) (v : ValueState) (t f : ℕ) → Keeps s w v t f → f ≤ 1
at_most_one_free s w Live t f h = grind (arith, common_steps)
at_most_one_free s w Taken t f h = grind (arith, common_steps)
at_most_one_free s w Released t f h = grind (arith, common_steps)

none_left : (s w : ℕ) (v : ValueState) (t f : ℕ) → Keeps s w v t f → 0 < f → (s ≡ 0) × (w ≡ 0)
none_left s w Live t f h some_ = grind (arith, common_steps)
none_left s w Taken t f h some_ = grind (arith, common_steps)
none_left s w Released t f h some_ = (h.0, h.1)

pub taken_once : (ss : List Step) → IsTakenOnce ss
taken_once ss = record {
  once = let m = after ss in at_most_one_take m.strong m.weak m.value (takes ss) (frees ss) (after_kept ss);
  no_strong = λ some_ more. let m = after (ss ++ more) in none_strong m.strong m.weak m.value (takes (ss ++ more)) (frees (ss ++ more)) (after_kept (ss ++ more)) (let e = takes_joined start ss more in omega arith);
}

pub freed_once : (ss : List Step) → IsFreedOnce ss
freed_once ss = record {
  once = let m = after ss in at_most_one_free m.strong m.weak m.value (takes ss) (frees ss) (after_kept ss);
  no_strong = λ some_ more. (left ss more some_).0;
  no_weak = λ some_ more. (left ss more some_).1;
}
  where
    left : (ss more : List Step) → 0 < frees ss → ((after (ss ++ more)).strong ≡ 0) × ((after (ss ++ more)).weak ≡ 0)
    left ss more some_ = let m = after (ss ++ more) in none_left m.strong m.weak m.value (takes (ss ++ more)) (frees (ss ++ more)) (after_kept (ss ++ more)) (let e = frees_joined start ss more in omega arith)

ended : (s w : ℕ) (v : ValueState) (t f : ℕ) → Keeps s w v t f → s ≡ 0 → w ≡ 0 → ¬ ((s ≡ 0) × (v ≡ Live)) → (t ≡ 1) × (f ≡ 1)
ended s w Live t f h es ew d = absurd (d (es, refl))
ended s w Taken t f h es ew d = let p = h.1 in absurd (omega arith)
ended s w Released t f h es ew d = (h.2, h.3)

pub all_ended : (ss : List Step) → (after ss).strong ≡ 0 → (after ss).weak ≡ 0 → ¬ IsDue (after ss) → IsEnded ss
all_ended ss es ew d = let m = after ss in let p = ended m.strong m.weak m.value (takes ss) (frees ss) (after_kept ss) es ew d in record { taken = p.0; freed = p.1 }

worded : (s w : ℕ) (v : ValueState) (t f : ℕ) → Keeps s w v t f → IsWordOf (word_of (handles s w v)) (handles s w v)
worded s w Live t f h = let a = h.0 in let b = h.1 in record { live = λ _. omega arith; not_live = λ n. absurd (n refl); upper_half = omega arith; lower_half = omega arith; fits = omega arith }
worded s w Taken t f h = let a = h.0 in let b = h.2 in record { live = λ e. absurd (grind arith); not_live = λ n. omega arith; upper_half = omega arith; lower_half = omega arith; fits = omega arith }
worded s w Released t f h = let a = h.0 in let b = h.1 in record { live = λ e. absurd (grind arith); not_live = λ n. omega arith; upper_half = omega arith; lower_half = omega arith; fits = omega arith }

pub words : (ss : List Step) → IsWordOf (word_of (after ss)) (after ss)
words ss = let m = after ss in worded m.strong m.weak m.value (takes ss) (frees ss) (after_kept ss)
