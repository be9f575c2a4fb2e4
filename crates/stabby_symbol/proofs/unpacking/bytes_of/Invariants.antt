use Rattle.std.proofs.Common.{◌≡◌, take}
use Rattle.stabby_symbol.specs.Packed.{bytes_in}
use Rattle.stabby_symbol.proofs.unpacking.bytes_of.Given as goal

abbrev pub invariant-loop-word : goal.invariant-loop-word
invariant-loop-word l = l.bytes.items ≡ bytes_in (take l.word-index l.words)
