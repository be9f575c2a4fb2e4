use Rattle.std.proofs.Common.{◌≡◌, ◌+◌, drop}
use Rattle.stabby_record.specs.Reading.{first_differing}
use Rattle.stabby_record.proofs.comparing.differing.Given as goal

abbrev pub invariant-loop-index : goal.invariant-loop-index
invariant-loop-index l = first_differing l.piece l.bytes l.at ≡ first_differing (drop l.index l.piece) (drop l.index l.bytes) (l.at + l.index)
