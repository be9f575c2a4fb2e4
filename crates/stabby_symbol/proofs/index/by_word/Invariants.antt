use Rattle.std.proofs.Common.{take}
use Rattle.stabby_symbol.specs.Index.{spans_of, entry_at, found_in}
use Rattle.stabby_symbol.specs.Words.{word_at}
use Rattle.std.proofs.Common.{◌≡◌, ℕ, List, map}
use Rattle.stabby_symbol.proofs.index.by_word.Given as goal

-- each word has the spans so far
abbrev pub invariant-loop-place : goal.invariant-loop-place
invariant-loop-place l = (number : List ℕ → ℕ) → l.numbers ≡ map (λ span. number (word_at l.source span)) l.spans
    → (q : List ℕ) → found_in l.words q ≡ entry_at number q (spans_of l.source (take l.place l.spans) q)
