-- The lines of an index.
use Rattle.std.specs.Prelude.{ℕ, List, [], ◌∷◌, ◌++◌, length, flat_map}
use Rattle.std.specs.Fmt.{decimal}
use Rattle.stabby_symbol.specs.Index.{IndexedWordValue}
use Rattle.stabby_symbol.specs.declared.words.Span.{Span}
use Rattle.word_index.specs.declared.command.Task.{Task}
use Rattle.word_index.specs.declared.command.Task.TheVariants as tasks

-- a space (32), and the span's places with a dash (45) between them
abbrev pub span_text : Span → List ℕ
span_text span = (32 ∷ []) ++ (decimal span.from ++ ((45 ∷ []) ++ decimal span.to))

-- a word, how often it stands in the text, and a newline (10)
abbrev pub count_line : IndexedWordValue → List ℕ
count_line word = word.text ++ ((32 ∷ []) ++ (decimal (length word.spans) ++ (10 ∷ [])))

-- a word, its spans, and a newline
abbrev pub span_line : IndexedWordValue → List ℕ
span_line word = word.text ++ (flat_map span_text word.spans ++ (10 ∷ []))

abbrev pub line_of : Task → IndexedWordValue → List ℕ
line_of tasks.Words word = count_line word
line_of tasks.Spans word = span_line word

-- a line for each word
abbrev pub listing_of : Task → List IndexedWordValue → List ℕ
listing_of task words = flat_map (line_of task) words
