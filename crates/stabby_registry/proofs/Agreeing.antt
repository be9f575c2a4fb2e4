-- Numbers in a list and in a longer one.
use Rattle.std.proofs.Common.{◌≡◌, ℕ, zero, suc, List, [], ◌∷◌, ◌++◌, sym, ◌∙◌, subst}
use mathlib.Core.List.{IsPrefix}
use Rattle.std.proofs.lemmas.Option.{same_Some}
use Rattle.stabby_tables.specs.Tables.{Table}
use Rattle.stabby_tables.specs.Lists.{IsDistinct}
use Rattle.stabby_tables.proofs.Distinctness.{place_is}
use Rattle.stabby_registry.specs.Inserts.{IsNumber}
use Rattle.stabby_registry.specs.Laws.{NumbersStay, CallersAgree}

number_before : (f more : List Table) (t : Table) (n : ℕ) → IsNumber f t n → IsNumber (f ++ more) t n
number_before [] more t n at = absurd (cc)
number_before (u ∷ f) more t zero at = at
number_before (u ∷ f) more t (suc n) at = number_before f more t n at

later : (f g : List Table) (t : Table) (n : ℕ) → IsPrefix f g → IsNumber f t n → IsNumber g t n
later f g t n p at = subst (λ l. IsNumber l t n) p.1 (number_before f p.0 t n at)

one_place : (f : List Table) (t : Table) (n m : ℕ) → IsDistinct f → IsNumber f t n → IsNumber f t m → n ≡ m
one_place f t n m once at there = sym (place_is f t n once at) ∙ place_is f t m once there

one_member : (f : List Table) (t u : Table) (n : ℕ) → IsNumber f t n → IsNumber f u n → t ≡ u
one_member f t u n at there = same_Some t u (sym at ∙ there)

pub numbers_stay : NumbersStay
numbers_stay = record {
  kept = later;
  one_number = λ front longer t n m p once at there. one_place longer t n m once (later front longer t n p at) there;
  one_table = λ front longer t u n p at there. one_member longer t u n (later front longer t n p at) there;
}

pub callers_agree : CallersAgree
callers_agree = record {
  equal = λ one other both t n m p q once at there. one_place both t n m once (later one both t n p at) (later other both t m q there);
  different = λ one other both t u n p q at there. one_member both t u n (later one both t n p at) (later other both u n q there);
}
