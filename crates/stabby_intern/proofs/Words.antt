-- The digits of a word.
use Rattle.std.proofs.Common.{◌≡◌, ℕ, ◌+◌, ◌*◌, ◌^◌, ◌<◌, ◌≤◌, List, [], ◌∷◌, ◌++◌, length, get_or, refl, sym, subst, arith, take, drop, ◌⊎◌, inl, inr}
use Rattle.std.proofs.lemmas.List.{take_more, drop_more, take-append-drop}
use Rattle.std.specs.Char.{digit_value}
use Rattle.std.specs.Str.Parse.{AllDigits, digits_value_after, digits_value}
use Rattle.stabby_tables.specs.Lines.{SpellsWord}

digit_within : (run more : List ℕ) (b : ℕ) → AllDigits 10 (run ++ b ∷ more) → digit_value b < 10
digit_within [] more b all = all.0
digit_within (c ∷ run) more b all = digit_within run more b all.1

pub digits_push : (run : List ℕ) (b : ℕ) → AllDigits 10 run → digit_value b < 10 → AllDigits 10 (run ++ b ∷ [])
digits_push [] b all one = (one, tt)
digits_push (c ∷ run) b all one = (all.0, digits_push run b all.1 one)

pub value-append : (n : ℕ) (xs ys : List ℕ) → digits_value_after 10 n (xs ++ ys) ≡ digits_value_after 10 (digits_value_after 10 n xs) ys
value-append n [] ys = refl
value-append n (x ∷ xs) ys = value-append (n * 10 + digit_value x) xs ys

value_grows : (n : ℕ) (xs : List ℕ) → n ≤ digits_value_after 10 n xs
value_grows n [] = omega arith
value_grows n (x ∷ xs) = omega (arith, value_grows (n * 10 + digit_value x) xs)

-- a run spells no word beyond a byte that is no digit, or that takes its value past the greatest
pub none_through : (run more : List ℕ) (b value : ℕ) → value ≡ digits_value 10 run → (10 ≤ digit_value b) ⊎ (2 ^ 64 ≤ value * 10 + digit_value b) → (w : ℕ) → SpellsWord (run ++ b ∷ more) w → ⊥
none_through run more b value is (inl other) w s = absurd (omega (arith, other, digit_within run more b s.digits.1))
none_through run more b value is (inr past) w s =
    let whole = value-append 0 run (b ∷ more) in
    let least = value_grows (digits_value 10 run * 10 + digit_value b) more in
    let v = s.value in let f = s.fits in
    absurd (omega (arith, past, is, whole, least, v, f))

-- a list, at one of its places
pub split_at : (run : List ℕ) (i : ℕ) → i < length run → take i run ++ get_or run i 0 ∷ drop (i + 1) run ≡ run
split_at run i lt = subst (λ l. take i run ++ l ≡ run) (drop_more run i 0 lt) (take-append-drop i run)

pub none_at : (run : List ℕ) (i value : ℕ) → i < length run → value ≡ digits_value 10 (take i run) → (10 ≤ digit_value (get_or run i 0)) ⊎ (2 ^ 64 ≤ value * 10 + digit_value (get_or run i 0)) → (w : ℕ) → SpellsWord run w → ⊥
none_at run i value lt is why w s = none_through (take i run) (drop (i + 1) run) (get_or run i 0) value is why w (subst (λ l. SpellsWord l w) (sym (split_at run i lt)) s)

-- one digit more
pub digits_step : (run : List ℕ) (i value next : ℕ) → i < length run → digit_value (get_or run i 0) < 10 → AllDigits 10 (take i run) → value ≡ digits_value 10 (take i run) → next ≡ value * 10 + digit_value (get_or run i 0)
    → record { digits : AllDigits 10 (take (i + 1) run); value : next ≡ digits_value 10 (take (i + 1) run) }
digits_step run i value next lt low all is more =
    let b = get_or run i 0 in
    let part : take (i + 1) run ≡ take i run ++ b ∷ [] = take_more run i 0 lt in
    record {
      digits = rw part (digits_push (take i run) b all low);
      value = rw (part, value-append 0 (take i run) (b ∷ []), ← is) more;
    }
