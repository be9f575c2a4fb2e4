use Rattle.std.proofs.Common.{◌≡◌, ◌<◌, ◌^◌, take}
use Rattle.std.specs.Str.Parse.{AllDigits, digits_value}
use Rattle.stabby_intern.proofs.word.parse_word.Given as goal

-- the value of the digits so far
abbrev pub invariant-loop-b : goal.invariant-loop-b
invariant-loop-b l = record { digits : AllDigits 10 (take l.b-index l.run); value : l.value ≡ digits_value 10 (take l.b-index l.run); fits : l.value < 2 ^ 64 }
