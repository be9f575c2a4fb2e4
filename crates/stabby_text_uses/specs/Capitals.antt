-- Texts that begin with a capital.
use Rattle.std.specs.Prelude.{ℕ, List, [], ◌∷◌}
use Rattle.std.specs.Char.{to_ascii_uppercase}

-- the text with its first byte raised, where that is one of a to z
abbrev pub with_capital : List ℕ → List ℕ
with_capital [] = []
with_capital (b ∷ rest) = to_ascii_uppercase b ∷ rest
