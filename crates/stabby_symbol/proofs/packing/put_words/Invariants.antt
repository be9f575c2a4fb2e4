use Rattle.std.proofs.Common.{◌≡◌, ◌++◌, length}
use Rattle.stabby_symbol.specs.Packed.{words_of, words_for}
use Rattle.stabby_symbol.proofs.packing.put_words.Given as goal

-- what is written and the words to come are what was there and the words of all bytes
abbrev pub invariant-loop-rest : goal.invariant-loop-rest
invariant-loop-rest l = l.out.items ++ words_of (words_for (length l.rest)) l.rest ≡ l.fn.out.items ++ words_of (words_for (length l.fn.bytes)) l.fn.bytes

abbrev pub decreases-loop-rest : goal.decreases-loop-rest
decreases-loop-rest l = length l.rest
