-- What was read of a told input, and what a run over one can't answer.
use Rattle.std.proofs.Common.{◌≡◌, ℕ, ◌<◌, ◌≤◌, List, [], ◌++◌, length, sym, ◌∙◌, ap, subst, arith, Option, None, Some, IsSome, IfSome, append-nil, length-append}
use mathlib.Core.Bool.{false≢true}
use Rattle.stabby_intern.specs.Devices.{Gave}

read_by : (bytes : List ℕ) (left' : Option (List ℕ)) (given : List ℕ) → IsSome left' → Gave (Some bytes) left' given → IfSome left' (λ left. left ≡ []) → given ≡ bytes
read_by bytes None given some gave at_end = absurd (false≢true some)
read_by bytes (Some ys) given some gave at_end = sym (gave ∙ ap (λ l. given ++ l) at_end ∙ append-nil given)

-- what was read to the end is all that was told before
pub read_all : (left left' : Option (List ℕ)) (bytes given : List ℕ) → left ≡ Some bytes → IsSome left' → Gave left left' given → IfSome left' (λ rest. rest ≡ []) → given ≡ bytes
read_all left left' bytes given told some gave at_end = read_by bytes left' given some (subst (λ o. Gave o left' given) told gave) at_end

long_by : (bytes : List ℕ) (left' : Option (List ℕ)) → IsSome left' → length bytes ≤ 16777216 → IfSome left' (λ _. (given : List ℕ) × Gave (Some bytes) left' given × (16777216 < length given)) → ⊥
long_by bytes None some fits long = absurd (false≢true some)
long_by bytes (Some ys) some fits long = omega (arith, fits, long.2, ap length long.1, length-append long.0 ys)

pub never_long : (left left' : Option (List ℕ)) (bytes : List ℕ) → left ≡ Some bytes → IsSome left' → length bytes ≤ 16777216 → IfSome left' (λ _. (given : List ℕ) × Gave left left' given × (16777216 < length given)) → ⊥
never_long left left' bytes told some fits long = long_by bytes left' some fits (subst (λ o. IfSome left' (λ _. (given : List ℕ) × Gave o left' given × (16777216 < length given))) told long)
