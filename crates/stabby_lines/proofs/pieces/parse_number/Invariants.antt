use Rattle.std.proofs.Common.{◌≡◌, ◌<◌, ◌^◌, take}
use Rattle.std.specs.Str.Parse.{AllDigits, digits_value}
use Rattle.stabby_lines.proofs.pieces.parse_number.Given as goal

-- the value of the digits so far
abbrev pub invariant-loop-b : goal.invariant-loop-b
invariant-loop-b l = record { digits : AllDigits 10 (take l.b-index l.digits); value : l.value ≡ digits_value 10 (take l.b-index l.digits); fits : l.value < 2 ^ 64 }
