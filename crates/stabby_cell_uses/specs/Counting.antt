-- What a counter's versions are.
use Rattle.std.specs.Prelude.{◌≡◌, ℕ, ◌+◌}

-- the next number is one more, and is the entry
abbrev pub RaisesByOne : ℕ → ℕ → ℕ → Type 0
RaisesByOne old e new = (new ≡ old + 1) × (e ≡ new)
