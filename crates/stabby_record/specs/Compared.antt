-- A piece of a head beside the bytes of a message.
use Rattle.std.specs.Prelude.{◌≡◌, ℕ, ◌+◌, List, length, drop, Result, MatchResult, Some, None}
use Rattle.stabby_record.specs.Reading.{first_differing}

-- the bytes from `at` on agree with the piece as far as they go, and the answer is the place after it; or it is the first place that differs
abbrev pub Compared : Result ℕ ℕ → List ℕ → List ℕ → ℕ → Type 0
Compared answer piece bytes at =
    MatchResult answer
    (λ next. (first_differing piece (drop at bytes) at ≡ None) × (next ≡ at + length piece))
    (λ place. first_differing piece (drop at bytes) at ≡ Some place)
