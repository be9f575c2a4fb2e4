-- What numbers of a list say of it, and of a longer one.
use Rattle.std.proofs.Common.{◌≡◌, ℕ, zero, suc, ◌<◌, ◌≤◌, List, [], ◌∷◌, ◌++◌, length, sym, ◌∙◌, ap, subst, arith, refl, true, false, if◌then◌else◌, Bool}
use mathlib.Core.List.{IsPrefix}
use Rattle.std.proofs.lemmas.Option.{same_Some}
use Rattle.stabby_tables.specs.Tables.{Table, is_same}
use Rattle.stabby_tables.specs.Lists.{has, IsDistinct}
use Rattle.stabby_tables.proofs.Distinctness.{place_is}
use Rattle.stabby_tables.proofs.Growing.{same_itself}
use Rattle.stabby_row.specs.Passes.{IsNumber}

number_before : (f more : List Table) (t : Table) (n : ℕ) → IsNumber f t n → IsNumber (f ++ more) t n
number_before [] more t n at = absurd (cc)
number_before (u ∷ f) more t zero at = at
number_before (u ∷ f) more t (suc n) at = number_before f more t n at

pub stays : (f g : List Table) (t : Table) (n : ℕ) → IsPrefix f g → IsNumber f t n → IsNumber g t n
stays f g t n p at = subst (λ l. IsNumber l t n) p.1 (number_before f p.0 t n at)

pub one_table : (f : List Table) (t u : Table) (n m : ℕ) → IsNumber f t n → IsNumber f u m → n ≡ m → t ≡ u
one_table f t u n m at there same = same_Some t u (sym at ∙ subst (IsNumber f u) (sym same) there)

pub one_number : (f : List Table) (t u : Table) (n m : ℕ) → IsDistinct f → IsNumber f t n → IsNumber f u m → t ≡ u → n ≡ m
one_number f t u n m once at there same = sym (place_is f t n once at) ∙ place_is f t m once (subst (λ v. IsNumber f v m) (sym same) there)

pub within : (f : List Table) (t : Table) (n : ℕ) → IsNumber f t n → length f ≤ n → ⊥
within [] t n at past = absurd (cc)
within (u ∷ f) t zero at past = absurd (omega (arith, past))
within (u ∷ f) t (suc n) at past = within f t n at (omega (arith, past))

member_by : (b : Bool) (rest : Bool) → rest ≡ true → (if b then true else rest) ≡ true
member_by true rest is = refl
member_by false rest is = is

pub member : (f : List Table) (t : Table) (n : ℕ) → IsNumber f t n → has f t ≡ true
member [] t n at = absurd (cc)
member (u ∷ f) t zero at = ap (λ b. if b then true else has f t) (ap (λ v. is_same v t) (same_Some u t at) ∙ same_itself t)
member (u ∷ f) t (suc n) at = member_by (is_same u t) (has f t) (member f t n at)
