-- What a schema is within.
use Rattle.std.specs.Prelude.{◌≤◌, ◌<◌, ◌^◌, length}
use Rattle.std.specs.Str.{IsUtf8}
use Rattle.stabby_record.specs.Shape.{Shape, Fields, end, number, nested, count, leaves, depth}

-- each name fits one byte of length, and each record has 1 to 255 fields
abbrev pub AreFields : Fields → Type 0
AreFields end = Unit {0}
AreFields (number n k rest) = (length n ≤ 255) × AreFields rest
AreFields (nested n r i inner rest) =
    (length n ≤ 255) × (length r ≤ 255) × (i < 2 ^ 64) × (1 ≤ count inner) × (count inner ≤ 255) × AreFields inner × AreFields rest

-- each name is a text
abbrev pub AreTexts : Fields → Type 0
AreTexts end = Unit {0}
AreTexts (number n k rest) = IsUtf8 n × AreTexts rest
AreTexts (nested n r i inner rest) = IsUtf8 n × IsUtf8 r × AreTexts inner × AreTexts rest

pub record IsSchema (s : Shape) : Type 0 where
  pub name : length s.name ≤ 255
  pub text : IsUtf8 s.name
  pub id : s.id < 2 ^ 64
  pub some : 1 ≤ count s.fields
  pub count : count s.fields ≤ 255
  pub fields : AreFields s.fields
  pub texts : AreTexts s.fields
  pub depth : depth s.fields ≤ 8
  pub leaves : leaves s.fields ≤ 65535
