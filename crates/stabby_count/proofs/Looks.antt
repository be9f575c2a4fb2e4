-- Looks that follow one another.
use Rattle.std.proofs.Common.{arith, ◌≡◌, ◌≢◌, ◌∙◌, ℕ, ◌/◌, ◌%◌, ◌<◌, ◌≤◌, List, [], ◌∷◌, ◌++◌, refl, sym, subst}
use Rattle.std.proofs.lemmas.Grind.{common_steps}
use Rattle.std.proofs.lemmas.List.Elements.{All-append, All-cons, All-nil}
use Rattle.stabby_count.specs.Records.{AddsLook, AddsLooks, IsLook, note}
use Rattle.stabby_count.specs.Raising.{LooksTo}
use Rattle.stabby_count.specs.Tells.{Reads}
use Rattle.stabby_count.specs.Views.{looked}
use Rattle.stabby_count.specs.declared.machine.Step.TheVariants.{Look}
use Rattle.stabby_count.specs.declared.view.Note.{Note}
use Rattle.stabby_count.specs.declared.view.View.{View}

none : (notes : List Note) → AddsLooks notes notes
none notes = record { looks = []; are_looks = All-nil IsLook; added = grind (arith, common_steps) }

one_more : (a b c : List Note) (n : ℕ) → AddsLooks a b → AddsLook b c n → AddsLooks a c
one_more a b c n l last = record { looks = l.looks ++ note Look n ∷ []; are_looks = All-append IsLook l.looks (note Look n ∷ []) l.are_looks (All-cons IsLook (note Look n) [] refl (All-nil IsLook)); added = (let e = l.added in grind (arith, common_steps)) }

pub looks_first : (v w : View) (n : ℕ) → w ≡ looked v n → Reads v n → LooksTo v w n
looks_first v w n is r = subst (λ x. LooksTo v x n) (sym is) (record { middle = v.notes; looks = none v.notes; last = refl; strong = refl; weak = refl; sole = refl; reads = r })

pub looks_more : (v w x : View) (n m : ℕ) → LooksTo v w n → x ≡ looked w m → Reads w m → LooksTo v x m
looks_more v w x n m l is r = subst (λ y. LooksTo v y m) (sym is) (record {
  middle = w.notes;
  looks = one_more v.notes l.middle w.notes n l.looks l.last;
  last = refl;
  strong = l.strong;
  weak = l.weak;
  sole = l.sole;
  reads = (λ h. r.0 (subst (λ y. 0 < y) (sym l.sole) h), subst (λ y. y ≤ m / 4294967296) l.strong r.1, subst (λ y. y ≤ m % 4294967296) l.weak r.2, λ h. subst (λ y. y < m % 4294967296) l.weak (r.3 (subst (λ y. 0 < y) (sym l.strong) h)));
})

-- a sole view reads one word alone
pub never_moves : (before seen : View) (n m : ℕ) → (0 < before.sole → seen ≡ before) → Reads seen n → Reads seen m → n ≢ m → ¬ (0 < before.sole)
never_moves before seen n m same r s other h = let k : 0 < seen.sole = subst (λ (v : View). 0 < v.sole) (sym (same h)) h in other (r.0 k ∙ sym (s.0 k))
