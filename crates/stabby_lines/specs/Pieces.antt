-- How a line is put together.
use Rattle.std.specs.Prelude.{ℕ, List, ◌∷◌, ◌++◌, Option, None, Some}
use Rattle.std.specs.Fmt.{decimal}

-- a piece, and where there is more, a space and that
abbrev pub followed : List ℕ → Option (List ℕ) → List ℕ
followed piece None = piece
followed piece (Some rest) = piece ++ 32 ∷ rest

-- words, a number in digits, and the rest of the line
abbrev pub numbered : List ℕ → ℕ → List ℕ → List ℕ
numbered words number rest = words ++ (decimal number ++ rest)
