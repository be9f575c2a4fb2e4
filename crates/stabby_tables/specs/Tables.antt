-- Tables and their order.
use Rattle.std.specs.Prelude.{ℕ, Bool, true, false, List, [], ◌∷◌, ◌==◌, nat_lt, if◌then◌else◌}

-- a table is a list of words; those of a program are below 2 ^ 64
abbrev pub Table : Type 0
Table = List ℕ

-- a is a proper prefix of b, or has the lesser word at the first place that differs
abbrev pub is_before : Table → Table → Bool
is_before a [] = false
is_before [] (y ∷ b) = true
is_before (x ∷ a) (y ∷ b) = if x == y then is_before a b else nat_lt x y

-- the same words
abbrev pub is_same : Table → Table → Bool
is_same [] [] = true
is_same [] (y ∷ b) = false
is_same (x ∷ a) [] = false
is_same (x ∷ a) (y ∷ b) = if x == y then is_same a b else false
