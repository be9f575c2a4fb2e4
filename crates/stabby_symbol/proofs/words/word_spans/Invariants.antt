use Rattle.std.proofs.Common.{◌-◌, length}
use Rattle.stabby_symbol.proofs.WordSpans.{AreSpansBefore}
use Rattle.stabby_symbol.proofs.words.word_spans.Given as goal

abbrev pub invariant-loop-at : goal.invariant-loop-at
invariant-loop-at l = AreSpansBefore l.bytes l.at l.spans.items

abbrev pub decreases-loop-at : goal.decreases-loop-at
decreases-loop-at l = length l.bytes - l.at
