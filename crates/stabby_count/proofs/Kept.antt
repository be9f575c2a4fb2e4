-- The rows of the table of steps, as the counted word asks for them.
use Rattle.std.proofs.Common.{◌≡◌, ℕ, zero, suc, ◌+◌, ◌-◌, ◌/◌, ◌%◌, ◌<◌, ◌≤◌, eqb, List, [], ◌∷◌, set, refl, sym, ap, subst, arith, eq-eqb}
use mathlib.Core.Logic.{dite}
use mathlib.Core.Option.{some, some-injective, some-ne-none}
use native.Mathlib.Decide.{ℕ_discrete}
use lib.ListN.{get_elem?}
use prog.Atomic.{either}
use Rattle.std.specs.Prelude.{slice_get, Some}
use Rattle.atomic_table.specs.Marked.{Keeps}
use Rattle.atomic_table.proofs.Lists.{exchanged}
use Rattle.stabby_count_word.specs.Rights.{Cuts}
use Rattle.stabby_count.specs.declared.view.View.{View}
use Rattle.stabby_count.specs.Rule.{Rule}
use Rattle.stabby_count.specs.Tells.{Reads, Told, ToldWhere, ToldSole, ToldNone, ToldNothing}
use Rattle.stabby_count.specs.Views.{looked, looked_sole, cloned, ended_strong, took, downgraded, upgraded, ended_weak, without_strong, with_strong, without_weak, with_weak, HasShare, HasStrong, HasWeak}
use Rattle.stabby_count.proofs.Rows.{flag, due, reading, looks, rests, sole_look_row, clone_row, upgrade_row, downgrade_row, end_strong_row, end_weak_row, take_row, strong_split_row, weak_split_row, sole_reads}

-- the two ways to read a list at a place
there : {X : Type 0} (xs : List X) (i : ℕ) (x : X) → get_elem? xs i ≡ some x → slice_get xs i ≡ Some x
there [] i x at = absurd (some-ne-none x (sym at))
there (z ∷ zs) zero x at = ap Some (some-injective z x at)
there (z ∷ zs) (suc i) x at = there zs i x at

reads : (n id : ℕ) (views : List View) (v : View) → Rule n views → slice_get views id ≡ Some v → Reads v n
reads n id views v rule at = (
  sole_reads n id views v rule at,
  reading n id views v rule at v _ (λ a b c d e f g h i j l m p q r x y z s₁ s₂ s₃ s₄ s₅ s₆. omega arith),
  reading n id views v rule at v _ (λ a b c d e f g h i j l m p q r x y z s₁ s₂ s₃ s₄ s₅ s₆. omega arith),
  λ has. reading n id views v rule at v _ (λ a b c d e f g h i j l m p q r x y z s₁ s₂ s₃ s₄ s₅ s₆. omega arith),
)

-- a step that finds any word and leaves f of it
any_word : (id : ℕ) (v : View) (view : View → ℕ → View) (f : ℕ → ℕ) → ((n : ℕ) (views : List View) → Rule n views → slice_get views id ≡ Some v → n < 18446744073709551616 → Rule (f n) (set views id (view v n)))
    → Keeps Rule id v f (Told view 0 0 v)
any_word id v view f row n views rule at small = let here = there views id v at in (view v n, row n views rule here small, (refl, reads n id views v rule here))

-- an exchange of `old` for `new`
one_word : (id old new : ℕ) (v : View) (view : View → ℕ → View) → ((n : ℕ) (views : List View) → Rule n views → slice_get views id ≡ Some v → n ≡ old → Rule new (set views id (view v n)))
    → Keeps Rule id v (λ n. either (eqb n old) new n) (ToldWhere view old new v)
one_word id old new v view row n views rule at small = let here = there views id v at in exchanged n old new (λ m. (w : View) × Rule m (set views id w) × ToldWhere view old new v n w)
    (λ is. (view v n, row n views rule here is, ((λ _. refl), (λ isnt. absurd (isnt is)), reads n id views v rule here)))
    (λ isnt. (looked v n, looks n id views v rule here, ((λ is. absurd (isnt is)), (λ _. refl), reads n id views v rule here)))

pub keeps_look : (id : ℕ) (v : View) → Keeps Rule id v (λ n. n) (Told looked 0 0 v)
keeps_look id v = any_word id v looked (λ n. n) (λ n views rule at small. looks n id views v rule at)

pub keeps_rest : (id : ℕ) (v : View) → Keeps Rule id v (λ n. n) (ToldNothing 0 0 v)
keeps_rest id v n views rule at small = (v, rests n id views v rule (there views id v at), refl)

pub keeps_glance : (id : ℕ) (v : View) → Keeps Rule id v (λ n. n) (ToldNone 0 0 v)
keeps_glance id v n views rule at small = let here = there views id v at in dite (ℕ_discrete (n / 4294967296) 0)
    (λ is. (looked v n, looks n id views v rule here, ((λ _. refl), (λ isnt. absurd (isnt is)))))
    (λ isnt. (v, rests n id views v rule here, ((λ is. absurd (isnt is)), (λ _. refl))))

pub keeps_look_sole : (id : ℕ) (v : View) → HasStrong v → Keeps Rule id v (λ n. n) (ToldSole 0 0 v)
keeps_look_sole id v has n views rule at small = let here = there views id v at in dite (ℕ_discrete n 4294967297)
    (λ is. (looked_sole v n, (sole_look_row n id views v rule here has is).rule, ((λ _. refl), (λ isnt. absurd (isnt is)), reads n id views v rule here)))
    (λ isnt. (looked v n, looks n id views v rule here, ((λ is. absurd (isnt is)), (λ _. refl), reads n id views v rule here)))

pub keeps_clone : (id old new : ℕ) (v : View) → HasStrong v → old / 4294967296 < 4294967295 → new ≡ old + 4294967296 → Keeps Rule id v (λ n. either (eqb n old) new n) (ToldWhere cloned old new v)
keeps_clone id old new v has few sum = one_word id old new v cloned (λ n views rule at is.
    subst (λ m. Rule m (set views id (cloned v n))) (let e : n + 4294967296 ≡ new = omega arith in e) (clone_row n id views v rule at has (subst (λ m. m / 4294967296 < 4294967295) (sym is) few)).rule)

pub keeps_upgrade : (id old new : ℕ) (v : View) → HasWeak v → 0 < old / 4294967296 → old / 4294967296 < 4294967295 → new ≡ old + 4294967296 → Keeps Rule id v (λ n. either (eqb n old) new n) (ToldWhere upgraded old new v)
keeps_upgrade id old new v has some_ few sum = one_word id old new v upgraded (λ n views rule at is.
    subst (λ m. Rule m (set views id (upgraded v n))) (let e : n + 4294967296 ≡ new = omega arith in e) (upgrade_row n id views v rule at has (subst (λ m. 0 < m / 4294967296) (sym is) some_) (subst (λ m. m / 4294967296 < 4294967295) (sym is) few)).rule)

pub keeps_downgrade : (id old new : ℕ) (v : View) → HasShare v → old % 4294967296 < 4294967295 → new ≡ old + 1 → Keeps Rule id v (λ n. either (eqb n old) new n) (ToldWhere downgraded old new v)
keeps_downgrade id old new v has few sum = one_word id old new v downgraded (λ n views rule at is.
    subst (λ m. Rule m (set views id (downgraded v n))) (let e : n + 1 ≡ new = omega arith in e) (downgrade_row n id views v rule at has (subst (λ m. m % 4294967296 < 4294967295) (sym is) few)).rule)

pub keeps_end_sole : (id old new : ℕ) (v : View) → v.strong ≡ 1 → v.weak ≡ 0 → old ≡ 4294967297 → new ≡ 1 → Keeps Rule id v (λ n. either (eqb n old) new n) (ToldWhere ended_strong old new v)
keeps_end_sole id old new v one none_ first next = one_word id old new v ended_strong (λ n views rule at is.
    subst (λ m. Rule m (set views id (ended_strong v n))) (let e : n - 4294967296 ≡ new = omega arith in e) (end_strong_row n id views v rule at one none_).rule)

-- the subtractions as a machine word does them
less : (n k : ℕ) → k ≤ n → k < 18446744073709551616 → n < 18446744073709551616 → n - k ≡ (n + (18446744073709551616 - k)) % 18446744073709551616
less n k has fits small = omega arith

pub keeps_end_strong : (id : ℕ) (v : View) → v.strong ≡ 1 → v.weak ≡ 0 → Keeps Rule id v (λ n. (n + (18446744073709551616 - 4294967296)) % 18446744073709551616) (Told ended_strong 0 0 v)
keeps_end_strong id v one none_ = any_word id v ended_strong _ (λ n views rule at small. let has = (reads n id views v rule at).1 in
    subst (λ m. Rule m (set views id (ended_strong v n))) (let e : n - 4294967296 ≡ (n + (18446744073709551616 - 4294967296)) % 18446744073709551616 = omega arith in e) (end_strong_row n id views v rule at one none_).rule)

pub keeps_end_weak : (id : ℕ) (v : View) → v.weak ≡ 1 → v.strong ≡ 0 → Keeps Rule id v (λ n. (n + (18446744073709551616 - 1)) % 18446744073709551616) (Told ended_weak 0 0 v)
keeps_end_weak id v one none_ = any_word id v ended_weak _ (λ n views rule at small. let has = (reads n id views v rule at).2 in
    subst (λ m. Rule m (set views id (ended_weak v n))) (let e : n - 1 ≡ (n + (18446744073709551616 - 1)) % 18446744073709551616 = omega arith in e) (end_weak_row n id views v rule at none_ one).rule)

pub keeps_take : (id : ℕ) (v : View) → v.due ≡ 1 → Keeps Rule id v (λ n. (n + (18446744073709551616 - 1)) % 18446744073709551616) (Told took 0 0 v)
keeps_take id v one = any_word id v took _ (λ n views rule at small. let has : 0 < n = reading n id views v rule at v _ (λ a b c d e f g h i j l m p q r x y z s₁ s₂ s₃ s₄ s₅ s₆. omega arith) in
    subst (λ m. Rule m (set views id (took v n))) (let e : n - 1 ≡ (n + (18446744073709551616 - 1)) % 18446744073709551616 = omega arith in e) (take_row n id views v rule at one).rule)

pub cuts_strong : (id : ℕ) (v : View) → HasStrong v → 1 < v.strong + v.weak → Cuts Rule id v (without_strong v) (with_strong v)
cuts_strong id v has several n views rule at = (strong_split_row n id views v rule (there views id v at) has several).rule

pub cuts_weak : (id : ℕ) (v : View) → HasWeak v → 1 < v.strong + v.weak → Cuts Rule id v (without_weak v) (with_weak v)
cuts_weak id v has several n views rule at = (weak_split_row n id views v rule (there views id v at) has several).rule

-- the end of the last strong handle leaves the value due
pub due_after : (u v : View) (n : ℕ) → u ≡ ended_strong v n → n / 4294967296 ≡ 1 → u.due ≡ 1
due_after u v n is one = let e : u.due ≡ (ended_strong v n).due = ap due is in let f : flag (eqb (n / 4294967296) 1) ≡ 1 = ap flag (eq-eqb (n / 4294967296) 1 one) in omega arith
