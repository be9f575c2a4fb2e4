-- The list that a table's words stand for.
use Rattle.std.specs.Prelude.{ℕ, List, [], ◌∷◌}
use Rattle.stabby_word_table.specs.declared.words.Words.{Words}
use Rattle.stabby_word_table.specs.declared.words.Words.TheVariants.{Empty, One, Two, Three, Many}

abbrev pub words_in : Words → List ℕ
words_in Empty = []
words_in (One a) = a ∷ []
words_in (Two a) = a
words_in (Three a) = a
words_in (Many v) = v.items
