-- The words of a text, and where they stand.
use Rattle.std.specs.Prelude.{◌≡◌, ◌↔◌, ◌||◌, ◌==◌, ◌≤◌, ◌<◌, ◌-◌, ℕ, suc, List, length, take, drop, Bool, true, false, slice_index}
use Rattle.std.specs.List.{AllPairs, Contains}
use Rattle.std.specs.Char.{is_ascii_alphanumeric}
use Rattle.stabby_symbol.specs.declared.words.Span.{Span}

-- a letter, a digit or `_`
abbrev pub is_word_byte : ℕ → Bool
is_word_byte byte = is_ascii_alphanumeric byte || byte == 95

-- a run of such bytes that none stands before or after
pub record IsWordSpan (source : List ℕ) (span : Span) : Type 0 where
  pub some : span.from < span.to
  pub within : span.to ≤ length source
  pub inside : (i : ℕ) → span.from ≤ i → i < span.to → is_word_byte (slice_index source i) ≡ true
  pub begins : (i : ℕ) → suc i ≡ span.from → is_word_byte (slice_index source i) ≡ false
  pub ends : span.to < length source → is_word_byte (slice_index source span.to) ≡ false

-- the bytes at a span
abbrev pub word_at : List ℕ → Span → List ℕ
word_at source span = take (span.to - span.from) (drop span.from source)

-- each span ends before the next begins
abbrev pub IsRising : List Span → Type 0
IsRising spans = AllPairs (λ s t. s.to < t.from) spans

-- the spans of all words, in increasing order
pub record AreWordSpans (source : List ℕ) (spans : List Span) : Type 0 where
  pub rising : IsRising spans
  pub exact : (span : Span) → Contains spans span ↔ IsWordSpan source span
