-- A field and its value, apart from the fields after it.
use Rattle.std.specs.Prelude.{ℕ, ◌<◌, ◌^◌, List, [], ◌∷◌}
use Rattle.std.specs.Int.{to_le_bytes, w16, w32, w64}
use Rattle.stabby_record.specs.Shape.{depth}
use Rattle.stabby_record.specs.Limits.{IsSchema}
use Rattle.stabby_record.specs.Fits.{Fits}
use Rattle.stabby_record.specs.Message.{spelling, body}
use Rattle.stabby_record.specs.declared.schema.Kind.{Kind}
use Rattle.stabby_record.specs.declared.schema.Kind.TheVariants as kind
use Rattle.stabby_record.specs.declared.value.Value.{Value}
use Rattle.stabby_record.specs.declared.value.Value.TheVariants as value

-- the byte after a field's name
abbrev pub kind_code : Kind → ℕ
kind_code kind.U8 = 1
kind_code kind.U16 = 2
kind_code kind.U32 = 3
kind_code kind.U64 = 4
kind_code (kind.Record s) = 5

-- what follows that byte
abbrev pub kind_spelled : Kind → List ℕ
kind_spelled kind.U8 = []
kind_spelled kind.U16 = []
kind_spelled kind.U32 = []
kind_spelled kind.U64 = []
kind_spelled (kind.Record s) = spelling s

-- the record, where it is one, is a schema
abbrev pub IsKind : Kind → Type 0
IsKind kind.U8 = Unit {0}
IsKind kind.U16 = Unit {0}
IsKind kind.U32 = Unit {0}
IsKind kind.U64 = Unit {0}
IsKind (kind.Record s) = IsSchema s

abbrev pub kind_depth : Kind → ℕ
kind_depth kind.U8 = 0
kind_depth kind.U16 = 0
kind_depth kind.U32 = 0
kind_depth kind.U64 = 0
kind_depth (kind.Record s) = depth s.fields

abbrev pub FitsKind : Kind → Value → Type 0
FitsKind kind.U8 (value.Number n) = n < 256 ^ 1
FitsKind kind.U16 (value.Number n) = n < 256 ^ 2
FitsKind kind.U32 (value.Number n) = n < 256 ^ 4
FitsKind kind.U64 (value.Number n) = n < 256 ^ 8
FitsKind (kind.Record s) (value.Number n) = ⊥
FitsKind kind.U8 (value.Record w) = ⊥
FitsKind kind.U16 (value.Record w) = ⊥
FitsKind kind.U32 (value.Record w) = ⊥
FitsKind kind.U64 (value.Record w) = ⊥
FitsKind (kind.Record s) (value.Record w) = Fits s.fields w

-- a value's own bytes
abbrev pub kind_bytes : Kind → Value → List ℕ
kind_bytes kind.U8 (value.Number n) = n ∷ []
kind_bytes kind.U16 (value.Number n) = to_le_bytes w16 n
kind_bytes kind.U32 (value.Number n) = to_le_bytes w32 n
kind_bytes kind.U64 (value.Number n) = to_le_bytes w64 n
kind_bytes (kind.Record s) (value.Number n) = []
kind_bytes kind.U8 (value.Record w) = []
kind_bytes kind.U16 (value.Record w) = []
kind_bytes kind.U32 (value.Record w) = []
kind_bytes kind.U64 (value.Record w) = []
kind_bytes (kind.Record s) (value.Record w) = body s.fields w
