-- The words of a text under their numbers.
use Rattle.std.specs.Prelude.{◌≡◌, ◌↔◌, ◌<◌, ℕ, List, [], ◌∷◌, ◌++◌, length, map, filter, Option, Some, None, if◌then◌else◌}
use denote.Ref.{Bor}
use Rattle.std.specs.BTreeMap.{BTreeMap, get_by}
use Rattle.std.specs.List.{All, AllPairs, Any, Contains}
use Rattle.std.specs.Ordering.{nat_cmp}
use Rattle.std.specs.declared.cmp.Ordering.TheVariants.{Less}
use Rattle.std.specs.Cmp.Lexicographic.{slice_cmp}
use Rattle.std.specs.Str.{bytes_eq}
use Rattle.stabby_tables.specs.Tables.{Table}
use Rattle.stabby_tables.specs.Lists.{place, AppendsSome, AppendsAbsent}
use Rattle.stabby_tables.specs.Shares.{IsFirstInShare}
use Rattle.stabby_symbol.specs.Packed.{packed}
use Rattle.stabby_symbol.specs.Symbols.{IsText}
use Rattle.stabby_symbol.specs.Words.{IsWordSpan, word_at, IsRising, AreWordSpans}
use Rattle.stabby_symbol.specs.declared.words.Span.{Span}

-- what contracts see of a word of an index
pub record IndexedWordValue : Type 0 where
  pub text : List ℕ
  pub symbol : ℕ
  pub spans : List Span

-- a word of the text, its number in the front, and exactly its spans, in increasing order
pub record IsIndexed (source : List ℕ) (front : List Table) (word : IndexedWordValue) : Type 0 where
  pub number : IsText front word.text word.symbol
  pub some : 0 < length word.spans
  pub rising : IsRising word.spans
  pub exact : (span : Span) → Contains word.spans span ↔ (IsWordSpan source span × (word_at source span ≡ word.text))

-- each distinct word of the text once, in increasing order of bytes
pub record IsIndexOf (source : List ℕ) (front : List Table) (words : List IndexedWordValue) : Type 0 where
  pub rising : AllPairs (λ a b. slice_cmp nat_cmp a.text b.text ≡ Less) words
  pub each : All (IsIndexed source front) words
  pub every : (span : Span) → IsWordSpan source span → Any (λ word. word.text ≡ word_at source span) words

-- the tables of the words at these spans
abbrev pub tables_at : List ℕ → List Span → List Table
tables_at source spans = map (λ span. packed (word_at source span)) spans

-- new is old and then the tables of the text's words that old lacks, as so many workers intern one for each span, in order
pub record AppendsWords (workers : ℕ) (old : List Table) (source : List ℕ) (new : List Table) : Type 0 where
  pub spans : List Span
  pub are : AreWordSpans source spans
  pub absent : AppendsAbsent old (tables_at source spans) new
  pub first : IsFirstInShare (map (place new) (tables_at source spans)) workers (length old)

-- new is old and then tables of some of the text's words that old lacks, each once
pub record AppendsSomeWords (old : List Table) (source : List ℕ) (new : List Table) : Type 0 where
  pub spans : List Span
  pub are : AreWordSpans source spans
  pub some : AppendsSome old (tables_at source spans) new

-- the spans at which the word stands
abbrev pub spans_of : List ℕ → List Span → List ℕ → List Span
spans_of source spans word = filter (λ span. bytes_eq word (word_at source span)) spans

-- a word that has a number by a rule, and these spans
abbrev pub indexed : (List ℕ → ℕ) → List ℕ → List Span → IndexedWordValue
indexed number word spans = record { text = word; symbol = number word; spans = spans }

-- what an index has at a word that has these spans
abbrev pub entry_at : (List ℕ → ℕ) → List ℕ → List Span → Option IndexedWordValue
entry_at number word [] = None
entry_at number word (span ∷ spans) = Some (indexed number word (span ∷ spans))

-- an entry with one more span
abbrev pub with_span : Option IndexedWordValue → List ℕ → ℕ → Span → IndexedWordValue
with_span None word symbol span = record { text = word; symbol = symbol; spans = span ∷ [] }
with_span (Some found) word symbol span = record { text = found.text; symbol = found.symbol; spans = found.spans ++ span ∷ [] }

-- words by their bytes, as the call gathers them
abbrev pub WordMap : Type 0
WordMap = BTreeMap (Bor (List ℕ)) IndexedWordValue

abbrev pub found_in : WordMap → List ℕ → Option IndexedWordValue
found_in words q = get_by (λ k. slice_cmp nat_cmp q k.now) words

-- the word has one more span, or is new with it; each other is as before
abbrev pub PutsSpan : WordMap → WordMap → List ℕ → ℕ → Span → Type 0
PutsSpan before after word symbol span = (q : List ℕ) → found_in after q
    ≡ (if bytes_eq word q then Some (with_span (found_in before word) word symbol span) else found_in before q)

-- where words have these numbers by a rule, each has its number and its spans
abbrev pub GathersSpans : List ℕ → List Span → List ℕ → WordMap → Type 0
GathersSpans source spans numbers words = (number : List ℕ → ℕ) → numbers ≡ map (λ span. number (word_at source span)) spans
    → (q : List ℕ) → found_in words q ≡ entry_at number q (spans_of source spans q)
