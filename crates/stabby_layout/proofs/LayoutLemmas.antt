-- The least multiple that is not below a number.
use Rattle.std.proofs.Common.{◌≡◌, ℕ, ◌+◌, ◌-◌, ◌*◌, ◌/◌, ◌%◌, ◌^◌, ◌<◌, ◌≤◌, max, ◌⊎◌, inl, inr, refl, sym, ap, ◌∙◌, arith}
use Rattle.std.proofs.lemmas.Nat.{div-add-mod', div-mul-add, mod_below, pow-add}
use Rattle.std.proofs.Math.Nat.{add-mul-div_right, div-eq_of_lt, mul_assoc, one-le-pow}
use Rattle.std.proofs.Math.Pow.{pow_mono}
use Rattle.std.proofs.Common.{⊎_elim}
use Rattle.std.proofs.lemmas.Bool.{cases_lt}
use Rattle.stabby_layout.specs.declared.layout.Layout.{Layout}
use Rattle.stabby_layout.specs.Layouts.{next_multiple, joined, IsNextMultiple}
use Rattle.stabby_layout.specs.CStruct.{IsOfCType, c_struct}

pub next_multiple_up : (n a : ℕ) → 1 ≤ a → 0 < n % a → next_multiple a n ≡ n + (a - n % a)
next_multiple_up n a pos rest =
    let whole = div-add-mod' n a in
    let low = mod_below n a pos in
    let split : n + (a - 1) ≡ (n / a + 1) * a + (n % a - 1) = omega (arith, whole) in
    let row : (n + (a - 1)) / a ≡ n / a + 1 =
    ap (λ m. m / a) split ∙ div-mul-add (n / a + 1) a (n % a - 1) (omega arith) in
    ap (λ m. m * a) row ∙ (omega (arith, whole))

-- a multiple more
pub next_multiple_shift : (b x m : ℕ) → 1 ≤ b → next_multiple b (x + m * b) ≡ next_multiple b x + m * b
next_multiple_shift b x m pos =
    let swap : x + m * b + (b - 1) ≡ x + (b - 1) + m * b = omega arith in
    let part : (x + (b - 1) + m * b) / b ≡ (x + (b - 1)) / b + m = add-mul-div_right (x + (b - 1)) m pos in
    ap (λ n. n / b * b) swap ∙ ap (λ n. n * b) part ∙ (omega arith)

pub next_multiple_none : (b : ℕ) → 1 ≤ b → next_multiple b 0 ≡ 0
next_multiple_none b pos =
    let low : (0 + (b - 1)) / b ≡ 0 = div-eq_of_lt (omega arith) in
    ap (λ n. n * b) low ∙ (omega arith)

pub next_multiple_self : (b m : ℕ) → 1 ≤ b → next_multiple b (m * b) ≡ m * b
next_multiple_self b m pos =
    ap (next_multiple b) (sym (let z : 0 + m * b ≡ m * b = omega arith in z)) ∙ next_multiple_shift b 0 m pos
    ∙ (omega (arith, next_multiple_none b pos))

-- a C struct of a field of x times 2 ^ i bytes and one of y times 2 ^ j bytes
pub same_as_c : (i j x y : ℕ) → (j ≤ i) ⊎ (i ≤ j)
    → next_multiple (max (2 ^ i) (2 ^ j)) (x * 2 ^ i + y * 2 ^ j) ≡ next_multiple (max (2 ^ i) (2 ^ j)) (next_multiple (2 ^ j) (x * 2 ^ i) + y * 2 ^ j)
same_as_c i j x y (inl le) =
    let pos : 1 ≤ 2 ^ j = one-le-pow j 2 (omega arith) in
    let same : i ≡ (i - j) + j = omega arith in
    let parts : 2 ^ i ≡ 2 ^ (i - j) * 2 ^ j = ap (λ n. 2 ^ n) same ∙ pow-add 2 (i - j) j in
    let whole : x * 2 ^ i ≡ (x * 2 ^ (i - j)) * 2 ^ j = ap (λ n. x * n) parts ∙ sym (mul_assoc x (2 ^ (i - j)) (2 ^ j)) in
    let stays : next_multiple (2 ^ j) (x * 2 ^ i) ≡ x * 2 ^ i =
    ap (next_multiple (2 ^ j)) whole ∙ next_multiple_self (2 ^ j) (x * 2 ^ (i - j)) pos ∙ sym whole in
    ap (λ n. next_multiple (max (2 ^ i) (2 ^ j)) (n + y * 2 ^ j)) (sym stays)
same_as_c i j x y (inr le) =
    let pos : 1 ≤ 2 ^ j = one-le-pow j 2 (omega arith) in
    let low : 2 ^ i ≤ 2 ^ j = pow_mono le in
    let top : max (2 ^ i) (2 ^ j) ≡ 2 ^ j = omega arith in
    let n = next_multiple (2 ^ j) (x * 2 ^ i) in
    let again : next_multiple (2 ^ j) n ≡ n = next_multiple_self (2 ^ j) ((x * 2 ^ i + (2 ^ j - 1)) / 2 ^ j) pos in
    rw top (next_multiple_shift (2 ^ j) (x * 2 ^ i) y pos
    ∙ sym (next_multiple_shift (2 ^ j) n y pos ∙ ap (λ k. k + y * 2 ^ j) again))

pub next_multiple_least : (a n : ℕ) → 1 ≤ a → IsNextMultiple a n (next_multiple a n)
next_multiple_least a n pos =
    let whole = div-add-mod' (n + (a - 1)) a in
    let low = mod_below (n + (a - 1)) a pos in
    record { multiple = ((n + (a - 1)) / a, refl); reaches = omega (arith, whole); least = omega (arith, whole) }

either_way : (i j : ℕ) → (j ≤ i) ⊎ (i ≤ j)
either_way i j = ⊎_elim (λ lt. inr (omega (arith, lt))) (λ le. inl le) (cases_lt i j)

pub joined_as_c : (a b : Layout) → IsOfCType a → IsOfCType b → joined a b ≡ c_struct a b
joined_as_c a b this next =
    let i = this.power.0 in let j = next.power.0 in
    let x = this.whole.0 in let y = next.whole.0 in
    let A : a.align ≡ 2 ^ i = this.power.1 in
    let B : b.align ≡ 2 ^ j = next.power.1 in
    let S : a.size ≡ x * 2 ^ i = this.whole.1 ∙ ap (λ n. x * n) A in
    let R : b.size ≡ y * 2 ^ j = next.whole.1 ∙ ap (λ n. y * n) B in
    rw (S, R, A, B) (ap (λ n. record { size = n; align = max (2 ^ i) (2 ^ j) }) (same_as_c i j x y (either_way i j)))

pub next_multiple_of_multiple : (n a : ℕ) → 1 ≤ a → n % a ≡ 0 → next_multiple a n ≡ n
next_multiple_of_multiple n a pos none =
    let whole = div-add-mod' n a in
    let same : n / a * a ≡ n = omega (arith, whole, none) in
    ap (next_multiple a) (sym same) ∙ next_multiple_self a (n / a) pos ∙ same
