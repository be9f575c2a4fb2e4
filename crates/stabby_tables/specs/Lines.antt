-- Texts of lines, each of which spells a table.
use Rattle.std.specs.Prelude.{◌≡◌, ◌≢◌, ℕ, ◌+◌, ◌^◌, ◌<◌, ◌⊎◌, List, [], ◌∷◌, ◌++◌, length, flat_map}
use Rattle.std.specs.List.{AllZip, AllByRecursion}
use Rattle.std.specs.Str.Parse.{IsNumeral, digits_value}
use Rattle.stabby_tables.specs.Tables.{Table}

-- one or more digits, with a value below 2 ^ 64
pub record SpellsWord (run : List ℕ) (word : ℕ) : Type 0 where
  pub digits : IsNumeral 10 run
  pub value : digits_value 10 run ≡ word
  pub fits : word < 2 ^ 64

-- runs with one space between two
abbrev pub joined : List (List ℕ) → List ℕ
joined [] = []
joined (run ∷ []) = run
joined (run ∷ next ∷ runs) = run ++ 32 ∷ joined (next ∷ runs)

-- a line spells a table: a run of digits for each word
abbrev pub Spells : List ℕ → Table → Type 0
Spells line t = (runs : List (List ℕ)) × AllZip SpellsWord runs t × (line ≡ joined runs)

-- a line spells none
abbrev pub SpellsNone : List ℕ → Type 0
SpellsNone line = (t : Table) → Spells line t → ⊥

-- the lines, each ended by a newline
abbrev pub ended : List (List ℕ) → List ℕ
ended lines = flat_map (λ line. line ++ 10 ∷ []) lines

-- the text is these lines, each ended by a newline; that of the last may be missing if the last isn't empty
abbrev pub IsLaidOut : List ℕ → List (List ℕ) → Type 0
IsLaidOut bytes lines = (bytes ≡ ended lines)
    ⊎ ((front : List (List ℕ)) × (last : List ℕ) × (lines ≡ front ++ last ∷ []) × (0 < length last) × (bytes ≡ ended front ++ last))

-- the text has these lines
abbrev pub IsText : List ℕ → List (List ℕ) → Type 0
IsText bytes lines = AllByRecursion (AllByRecursion (λ b. b ≢ 10)) lines × IsLaidOut bytes lines

-- the lines of the text spell these tables
abbrev pub IsLines : List ℕ → List Table → Type 0
IsLines bytes ts = (lines : List (List ℕ)) × IsText bytes lines × AllZip Spells lines ts

-- the lines before the k-th, counted from 1, spell tables, and the k-th spells none
pub record IsBadLine (bytes : List ℕ) (k : ℕ) : Type 0 where
  pub front : List (List ℕ)
  pub line : List ℕ
  pub after : List (List ℕ)
  pub text : IsText bytes (front ++ line ∷ after)
  pub place : k ≡ length front + 1
  pub tables : List Table
  pub good : AllZip Spells front tables
  pub bad : SpellsNone line
