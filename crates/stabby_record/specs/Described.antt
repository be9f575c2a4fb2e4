-- What is read of a schema's spelling, and the bytes after it.
use Rattle.std.specs.Prelude.{◌≡◌, ◌≤◌, ℕ, List, ◌∷◌, ◌++◌, length}
use Rattle.std.specs.Int.{to_le_bytes, w64}
use Rattle.std.specs.Str.{IsUtf8}
use Rattle.stabby_record.specs.Shape.{Shape, Fields, count, leaves, depth, depth_below}
use Rattle.stabby_record.specs.Limits.{AreFields, AreTexts, IsSchema}
use Rattle.stabby_record.specs.Message.{name_bytes, spelled, spelling, head}
use Rattle.stabby_record.specs.Kinds.{kind_code, kind_spelled, IsKind, kind_depth}
use Rattle.stabby_record.specs.Read.{fields_of}
use Rattle.stabby_record.specs.declared.schema.Field.{Field}
use Rattle.stabby_record.specs.declared.schema.Kind.{Kind}

abbrev pub ReadsKind : List ℕ → Kind → List ℕ → Type 0
ReadsKind bytes kind rest = bytes ≡ kind_code kind ∷ (kind_spelled kind ++ rest)

-- so many fields were put behind the old ones, and the bytes spell them
pub record ReadsFields (bytes : List ℕ) (old now : List Field) (count : ℕ) (rest : List ℕ) : Type 0 where
  pub fields : List Field
  pub put : now ≡ old ++ fields
  pub many : length fields ≡ count
  pub spells : bytes ≡ spelled (fields_of fields) ++ rest
  pub are : AreFields (fields_of fields)

-- the schema's head begins the bytes
abbrev pub BeginsWith : List ℕ → Shape → Type 0
BeginsWith bytes s = (rest : List ℕ) × (bytes ≡ head s ++ rest)

-- fields that a schema may have, with records at most so deep
pub record MayStand (fs : Fields) (deep : ℕ) : Type 0 where
  pub fields : AreFields fs
  pub texts : AreTexts fs
  pub below : depth_below fs ≤ deep
  pub leaves : leaves fs ≤ 65535

-- what the bytes do not begin with
abbrev pub NoNameBegins : List ℕ → Type 0
NoNameBegins bytes = (name rest : List ℕ) → IsUtf8 name → bytes ≡ name_bytes name ++ rest → ⊥

abbrev pub NoIdBegins : List ℕ → Type 0
NoIdBegins bytes = (id : ℕ) (rest : List ℕ) → bytes ≡ to_le_bytes w64 id ++ rest → ⊥

abbrev pub NoByteBegins : List ℕ → Type 0
NoByteBegins bytes = (byte : ℕ) (rest : List ℕ) → bytes ≡ byte ∷ rest → ⊥

abbrev pub NoKindBegins : List ℕ → ℕ → Type 0
NoKindBegins bytes deep = (kind : Kind) (rest : List ℕ) → IsKind kind → kind_depth kind ≤ deep → ReadsKind bytes kind rest → ⊥

abbrev pub NoFieldsBegin : List ℕ → ℕ → ℕ → Type 0
NoFieldsBegin bytes many deep = (fs : Fields) (rest : List ℕ) → MayStand fs deep → count fs ≡ many → bytes ≡ spelled fs ++ rest → ⊥

abbrev pub NoSpellingBegins : List ℕ → ℕ → Type 0
NoSpellingBegins bytes deep = (s : Shape) (rest : List ℕ) → IsSchema s → depth s.fields ≤ deep → bytes ≡ spelling s ++ rest → ⊥

abbrev pub NoHeadBegins : List ℕ → Type 0
NoHeadBegins bytes = (schema : Shape) → IsSchema schema → BeginsWith bytes schema → ⊥
