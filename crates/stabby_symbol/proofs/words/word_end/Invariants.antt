use Rattle.std.proofs.Common.{◌≡◌, ℕ, ◌<◌, ◌≤◌, true, slice_index}
use Rattle.stabby_symbol.specs.Words.{is_word_byte}
use Rattle.stabby_symbol.proofs.words.word_end.Given as goal

abbrev pub invariant-loop-end : goal.invariant-loop-end
invariant-loop-end l = (i : ℕ) → l.from ≤ i → i < l.end → is_word_byte (slice_index l.bytes i) ≡ true
