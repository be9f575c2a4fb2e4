-- Texts cut at a separator.
use Rattle.std.proofs.Common.{◌≡◌, ℕ, zero, suc, ◌+◌, ◌-◌, ◌<◌, ◌≤◌, List, [], ◌∷◌, ◌++◌, length, take, drop, refl, arith, Bool, true, false, ◌==◌, if◌then◌else◌, cond, not, Option, Some, None, nat_lt}
use Rattle.std.specs.List.{position_or_len}
use Rattle.std.proofs.lemmas.Bool.Decides.{nat_tests}
use Rattle.std.proofs.lemmas.Grind.{common_steps}
use Rattle.stabby_tables.specs.Pieces.{pieces, onto}

pub position_some : (k n at : ℕ) → Some at ≡ cond (nat_lt k n) (Some k) None → (at ≡ k) × (k < n)
position_some k n at h = (grind (arith, nat_tests), grind (arith, nat_tests))

pub position_none : (k n : ℕ) (o : Option ℕ) → o ≡ None → o ≡ cond (nat_lt k n) (Some k) None → n ≤ k
position_none k n o none h = grind (arith, nat_tests)

pub rest_is_drop : (n : ℕ) (xs : List ℕ) → take (length xs - n) (drop n xs) ≡ drop n xs
rest_is_drop n xs = grind (arith, common_steps)

pub drop_whole : (xs : List ℕ) → drop (length xs) xs ≡ []
drop_whole [] = refl
drop_whole (x ∷ xs) = drop_whole xs

module _ (separator : ℕ) where
  abbrev pub before : List ℕ → ℕ
  before bytes = position_or_len (λ b. b == separator) bytes

  cut_by : (t : Bool) (last : List (List ℕ)) (b : ℕ) (bytes : List ℕ) → cond (not t) (1 + before bytes) 0 < length (b ∷ bytes)
      → (before bytes < length bytes → pieces separator last bytes ≡ take (before bytes) bytes ∷ pieces separator last (drop (before bytes + 1) bytes))
      → (if t then [] ∷ pieces separator last bytes else onto b (pieces separator last bytes)) ≡ take (cond (not t) (1 + before bytes) 0) (b ∷ bytes) ∷ pieces separator last (drop (cond (not t) (1 + before bytes) 0 + 1) (b ∷ bytes))
  cut_by true last b bytes lt rest = refl
  cut_by false last b bytes lt rest =
      let one : 1 + before bytes ≡ suc (before bytes) = omega arith in
      let two : suc (before bytes) + 1 ≡ suc (before bytes + 1) = omega arith in
      rw (rest (omega (arith, lt)), one, two) refl

  -- where a separator stands, the first piece ends there
  pub cut_here : (last : List (List ℕ)) (bytes : List ℕ) → before bytes < length bytes → pieces separator last bytes ≡ take (before bytes) bytes ∷ pieces separator last (drop (before bytes + 1) bytes)
  cut_here last [] lt = absurd (omega arith)
  cut_here last (b ∷ bytes) lt = cut_by (b == separator) last b bytes lt (cut_here last bytes)

  nowhere_by : (t : Bool) (b : ℕ) (bytes : List ℕ) → length (b ∷ bytes) ≤ cond (not t) (1 + before bytes) 0 → (length bytes ≤ before bytes → pieces separator ([] ∷ []) bytes ≡ bytes ∷ [])
      → (if t then [] ∷ pieces separator ([] ∷ []) bytes else onto b (pieces separator ([] ∷ []) bytes)) ≡ (b ∷ bytes) ∷ []
  nowhere_by true b bytes le rest = absurd (omega (arith, le))
  nowhere_by false b bytes le rest = rw (rest (omega (arith, le))) refl

  pub cut_nowhere : (bytes : List ℕ) → length bytes ≤ before bytes → pieces separator ([] ∷ []) bytes ≡ bytes ∷ []
  cut_nowhere [] le = refl
  cut_nowhere (b ∷ bytes) le = nowhere_by (b == separator) b bytes le (cut_nowhere bytes)

  last_by : (t : Bool) (b : ℕ) (bytes : List ℕ) → length (b ∷ bytes) ≤ cond (not t) (1 + before bytes) 0 → (length bytes ≤ before bytes → 0 < length bytes → pieces separator [] bytes ≡ bytes ∷ [])
      → (if t then [] ∷ pieces separator [] bytes else onto b (pieces separator [] bytes)) ≡ (b ∷ bytes) ∷ []
  last_by true b bytes le rest = absurd (omega (arith, le))
  last_by false b [] le rest = refl
  last_by false b (x ∷ bytes) le rest = rw (rest (omega (arith, le)) (omega arith)) refl

  pub cut_last : (bytes : List ℕ) → length bytes ≤ before bytes → 0 < length bytes → pieces separator [] bytes ≡ bytes ∷ []
  cut_last [] le some = absurd (omega arith)
  cut_last (b ∷ bytes) le some = last_by (b == separator) b bytes le (cut_last bytes)
