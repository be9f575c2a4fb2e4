-- The bytes of a text are below 256.
use Rattle.std.proofs.Common.{◌≡◌, ℕ, zero, suc, ◌+◌, ◌/◌, ◌<◌, Bool, true, false, cond, List, [], ◌∷◌, ◌++◌, take, drop, replicate, get_or, IsUtf8, refl, subst, arith, ltb-true, ⊎_elim}
use Rattle.std.proofs.lemmas.Bool.{and_parts}
use lib.Utf8.{scalar, scalars, encode, encodes, next, scalar_cases}

abbrev pub IsBytes : List ℕ → Type 0
IsBytes l = (i : ℕ) → get_or l i 0 < 256

pub nil_bytes : IsBytes []
nil_bytes i = omega arith

pub cons_bytes : (a : ℕ) (l : List ℕ) → a < 256 → IsBytes l → IsBytes (a ∷ l)
cons_bytes a l h s zero = h
cons_bytes a l h s (suc i) = s i

pub append_bytes : (l m : List ℕ) → IsBytes l → IsBytes m → IsBytes (l ++ m)
append_bytes [] m s t = t
append_bytes (a ∷ l) m s t = cons_bytes a (l ++ m) (s zero) (append_bytes l m (λ i. s (suc i)) t)

pub zero_bytes : (n : ℕ) → IsBytes (replicate n 0)
zero_bytes zero = nil_bytes
zero_bytes (suc n) = cons_bytes 0 (replicate n 0) (omega arith) (zero_bytes n)

pub take_bytes : (n : ℕ) (l : List ℕ) → IsBytes l → IsBytes (take n l)
take_bytes zero l s = nil_bytes
take_bytes (suc n) [] s = nil_bytes
take_bytes (suc n) (a ∷ l) s = cons_bytes a (take n l) (s zero) (take_bytes n l (λ i. s (suc i)))

pub drop_bytes : (n : ℕ) (l : List ℕ) → IsBytes l → IsBytes (drop n l)
drop_bytes zero l s = s
drop_bytes (suc n) [] s = nil_bytes
drop_bytes (suc n) (a ∷ l) s = drop_bytes n l (λ i. s (suc i))

next_byte : (c : ℕ) → next c < 256
next_byte c = omega arith

one_byte : (a : ℕ) → a < 256 → IsBytes (a ∷ [])
one_byte a p = cons_bytes a [] p nil_bytes

two_bytes : (a b : ℕ) → a < 256 → b < 256 → IsBytes (a ∷ b ∷ [])
two_bytes a b p q = cons_bytes a (b ∷ []) p (one_byte b q)

three_bytes : (a b c : ℕ) → a < 256 → b < 256 → c < 256 → IsBytes (a ∷ b ∷ c ∷ [])
three_bytes a b c p q r = cons_bytes a (b ∷ c ∷ []) p (two_bytes b c q r)

four_bytes : (a b c d : ℕ) → a < 256 → b < 256 → c < 256 → d < 256 → IsBytes (a ∷ b ∷ c ∷ d ∷ [])
four_bytes a b c d p q r s = cons_bytes a (b ∷ c ∷ d ∷ []) p (three_bytes b c d q r s)

-- one to four bytes, by the size of the character
by_size : (t u v : Bool) (c : ℕ) → (t ≡ true → c < 128) → (u ≡ true → c < 2048) → (v ≡ true → c < 65536) → c < 1114112
    → IsBytes (cond t (c ∷ []) (cond u ((192 + c / 64) ∷ next c ∷ []) (cond v ((224 + c / 4096) ∷ next (c / 64) ∷ next c ∷ []) ((240 + c / 262144) ∷ next (c / 4096) ∷ next (c / 64) ∷ next c ∷ []))))
by_size true u v c h k m n = let e = h refl in one_byte c (omega arith)
by_size false true v c h k m n = let e = k refl in two_bytes (192 + c / 64) (next c) (omega arith) (next_byte c)
by_size false false true c h k m n =
    let e = m refl in three_bytes (224 + c / 4096) (next (c / 64)) (next c) (omega arith) (next_byte (c / 64)) (next_byte c)
by_size false false false c h k m n =
    four_bytes (240 + c / 262144) (next (c / 4096)) (next (c / 64)) (next c) (omega arith) (next_byte (c / 4096)) (next_byte (c / 64)) (next_byte c)

scalar_below : (c : ℕ) → scalar c ≡ true → c < 1114112
scalar_below c e = ⊎_elim (λ h. omega arith) (λ h. h.1) (scalar_cases c e)

encode_bytes : (c : ℕ) → scalar c ≡ true → IsBytes (encode c)
unfolding encode
encode_bytes c e = by_size _ _ _ c (λ p. ltb-true c 128 p) (λ p. ltb-true c 2048 p) (λ p. ltb-true c 65536 p) (scalar_below c e)

encodes_bytes : (cs : List ℕ) → scalars cs ≡ true → IsBytes (encodes cs)
encodes_bytes [] e = nil_bytes
encodes_bytes (c ∷ cs) e =
    let p = and_parts _ _ e in append_bytes (encode c) (encodes cs) (encode_bytes c p.0) (encodes_bytes cs p.1)

pub utf8_bytes : (l : List ℕ) → IsUtf8 l → IsBytes l
utf8_bytes l u = subst IsBytes u.1.1 (encodes_bytes u.0 u.1.0)
