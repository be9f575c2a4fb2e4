-- Whether there are words.
use Rattle.std.proofs.Common.{◌≡◌, ◌<◌, ℕ, List, [], ◌∷◌, length, map, refl, String, string_bytes, arith}

never_nil : (x : List ℕ) (xs : List (List ℕ)) → x ∷ xs ≡ [] → ⊥
never_nil x xs e = cc

module _ {Z : Type 0} where
  pub no_words : (words : List (String Z)) → length words ≡ 0 → map string_bytes words ≡ []
  no_words [] none = refl
  no_words (w ∷ words) none = absurd (omega (arith, none))

  pub some_words : (words : List (String Z)) → 0 < length words → map string_bytes words ≡ [] → ⊥
  some_words [] some same = absurd (omega (arith, some))
  some_words (w ∷ words) some same = never_nil (string_bytes w) (map string_bytes words) same
