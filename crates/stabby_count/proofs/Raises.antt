-- How a raise begins, and what it leaves.
use Rattle.std.proofs.Common.{◌≡◌, ℕ, ◌+◌, ◌/◌, ◌%◌, ◌<◌, ◌∙◌, [], ◌∷◌, ◌++◌, refl, sym, ap, subst, arith}
use Rattle.std.proofs.lemmas.Grind.{common_steps}
use mathlib.Core.Logic.{◌⊎◌, inl, inr}
use Rattle.stabby_count_word.specs.Changes.{kind_before}
use Rattle.stabby_count_word.specs.Kinds.{Kind}
use Rattle.stabby_count_word.specs.Steps.{MayLook, Settles}
use Rattle.stabby_count.specs.Handles.{count_limit}
use Rattle.stabby_count.specs.Raising.{HasTwo, LacksRoom, MayBegin, MayRaise, Refused, change_by, view_by}
use Rattle.stabby_count.specs.Records.{RefusesTry, note, strong_of, weak_of}
use Rattle.stabby_count.specs.Views.{HasWeak}
use Rattle.stabby_count.specs.declared.fault.TryCountFault.{TryCountFault}
use Rattle.stabby_count.specs.declared.fault.TryCountFault.TheVariants.{Moved, Full, Memory}
use Rattle.stabby_count.specs.declared.machine.Step.TheVariants.{Look}
use Rattle.stabby_count.specs.declared.raise.Raise.{Raise}
use Rattle.stabby_count.specs.declared.raise.Raise.TheVariants.{Clone, Downgrade, WeakClone, Upgrade}
use Rattle.stabby_count.specs.declared.view.View.{View}

pub may_look : (raise : Raise) (k : Kind) → MayBegin raise k → MayLook k
may_look Clone k m = inl m
may_look Downgrade k m = inl m
may_look WeakClone k m = inr m
may_look Upgrade k m = inr m

pub settled : (raise : Raise) (k j : Kind) → MayBegin raise k → Settles k j → j ≡ kind_before (change_by raise)
settled Clone k j m s = s.0 m
settled Downgrade k j m s = s.0 m
settled WeakClone k j m s = s.1 m
settled Upgrade k j m s = s.1 m

made_two : (raise : Raise) (v : View) (n : ℕ) → MayRaise raise v → HasTwo raise (view_by raise v n)
made_two Clone v n may = let s = may.0 in (omega arith, may.1)
made_two Downgrade v n may = let w = may.1 in (may.0, omega arith)
made_two WeakClone v n may = let w = may.1 in (may.0, omega arith)
made_two Upgrade v n may = let s = may.0 in (omega arith, may.1)

pub two : (raise : Raise) (v w : View) (n : ℕ) → MayRaise raise v → w ≡ view_by raise v n → HasTwo raise w
two raise v w n may is = subst (HasTwo raise) (sym is) (made_two raise v n may)

pub two_weak : (raise : Raise) (v : View) → (raise ≡ Downgrade) ⊎ (raise ≡ WeakClone) → HasTwo raise v → HasWeak v × (1 < v.strong + v.weak)
two_weak raise v (inl is) has = let t : HasTwo Downgrade v = subst (λ (r : Raise). HasTwo r v) is has in let s = t.0 in let w = t.1 in (omega arith, omega arith)
two_weak raise v (inr is) has = let t : HasTwo WeakClone v = subst (λ (r : Raise). HasTwo r v) is has in let s = t.0 in let w = t.1 in (omega arith, omega arith)

-- why one try by a strong handle did not raise a count
module _ (raise : Raise) (count : ℕ → ℕ) (v w : View) where
  refuses : ((n : ℕ) → LacksRoom raise n → count n ≡ count_limit) → (fault : TryCountFault) → Refused raise v w fault → RefusesTry count v.notes w.notes fault
  refuses full (Moved first second) r = (r.0, (let e : w.notes ≡ (v.notes ++ note Look first ∷ []) ++ note Look second ∷ [] = ap (λ (x : View). x.notes) r.3 in grind (arith, common_steps)))
  refuses full (Full word) r = (full word r.0, ap (λ (x : View). x.notes) r.2)
  refuses full Memory r = ap (λ (x : View). x.notes) r

  -- a sole one reads one word alone, which has room
  never : ((n : ℕ) → n ≡ 4294967297 → ¬ (LacksRoom raise n)) → 0 < v.sole → (fault : TryCountFault) → Refused raise v w fault → fault ≡ Memory
  never room sole (Moved first second) r = absurd (r.0 (r.1.0 sole ∙ sym (r.2.0 sole)))
  never room sole (Full word) r = absurd (room word (r.1.0 sole) r.0)
  never room sole Memory r = refl

pub clone_refuses : (v w : View) (fault : TryCountFault) → Refused Clone v w fault → RefusesTry strong_of v.notes w.notes fault
clone_refuses v w = refuses Clone strong_of v w (λ n h. h)

pub downgrade_refuses : (v w : View) (fault : TryCountFault) → Refused Downgrade v w fault → RefusesTry weak_of v.notes w.notes fault
downgrade_refuses v w = refuses Downgrade weak_of v w (λ n h. h)

pub clone_never_refused : (v w : View) (fault : TryCountFault) → 0 < v.sole → Refused Clone v w fault → fault ≡ Memory
clone_never_refused v w fault sole = never Clone strong_of v w (λ n is lacks. let l : n / 4294967296 ≡ 4294967295 = lacks in omega arith) sole fault

pub downgrade_never_refused : (v w : View) (fault : TryCountFault) → 0 < v.sole → Refused Downgrade v w fault → fault ≡ Memory
downgrade_never_refused v w fault sole = never Downgrade weak_of v w (λ n is lacks. let l : n % 4294967296 ≡ 4294967295 = lacks in omega arith) sole fault
