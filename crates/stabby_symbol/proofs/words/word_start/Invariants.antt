use Rattle.std.proofs.Common.{◌≡◌, ℕ, ◌<◌, ◌≤◌, false, slice_index}
use Rattle.stabby_symbol.specs.Words.{is_word_byte}
use Rattle.stabby_symbol.proofs.words.word_start.Given as goal

abbrev pub invariant-loop-start : goal.invariant-loop-start
invariant-loop-start l = (i : ℕ) → l.at ≤ i → i < l.start → is_word_byte (slice_index l.bytes i) ≡ false
