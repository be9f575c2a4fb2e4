-- What commands print.
use Rattle.std.specs.Prelude.{◌≡◌, ℕ, List, [], ◌∷◌, ◌++◌, flat_map}
use Rattle.std.specs.Fmt.{decimal}
use Rattle.stabby_index.specs.declared.row.Row.{Row}
use Rattle.stabby_index.specs.Rows.{in_group, IsGroupCount}
use Rattle.index_log.specs.declared.command.Question.{Question}
use Rattle.index_log.specs.declared.command.Question.TheVariants.{Rows, Group, Groups}

-- words, and a number after them, on a line
abbrev pub number_line : List ℕ → ℕ → List ℕ
number_line words n = words ++ (decimal n ++ (10 ∷ []))

-- KEY GROUP TEXT
abbrev pub row_line : Row → List ℕ
row_line r = decimal r.key ++ (32 ∷ (decimal r.group ++ (32 ∷ (r.text ++ (10 ∷ [])))))

-- GROUP COUNT
abbrev pub count_line : ℕ × ℕ → List ℕ
count_line c = decimal c.0 ++ (32 ∷ (decimal c.1 ++ (10 ∷ [])))

-- a line for each row
abbrev pub row_lines : List Row → List ℕ
row_lines rows = flat_map row_line rows

-- what a version with these rows answers to the question
abbrev pub IsAnswer : List Row → Question → List ℕ → Type 0
IsAnswer rows Rows printed = printed ≡ row_lines rows
IsAnswer rows (Group g) printed = printed ≡ row_lines (in_group rows g)
IsAnswer rows Groups printed = (counts : List (ℕ × ℕ)) × IsGroupCount rows counts × (printed ≡ flat_map count_line counts)
