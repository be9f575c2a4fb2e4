-- The pieces of a text between separators.
use Rattle.std.specs.Prelude.{ℕ, List, [], ◌∷◌, ◌==◌, if◌then◌else◌}

-- the first piece begins with b
abbrev pub onto : ℕ → List (List ℕ) → List (List ℕ)
onto b [] = (b ∷ []) ∷ []
onto b (piece ∷ pieces) = (b ∷ piece) ∷ pieces

-- the pieces of a text between separators, and then those that stand at its end
abbrev pub pieces : ℕ → List (List ℕ) → List ℕ → List (List ℕ)
pieces separator last [] = last
pieces separator last (b ∷ bytes) = if b == separator then [] ∷ pieces separator last bytes else onto b (pieces separator last bytes)

-- the lines of a text: an empty piece after the last newline is no line
abbrev pub lines_of : List ℕ → List (List ℕ)
lines_of bytes = pieces 10 [] bytes

-- the pieces of a line between spaces
abbrev pub runs_of : List ℕ → List (List ℕ)
runs_of line = pieces 32 ([] ∷ []) line
