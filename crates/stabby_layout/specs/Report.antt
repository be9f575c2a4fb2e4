-- What a contract sees of the report of a type.
use Rattle.std.specs.Prelude.{ℕ, List, [], Bool, ◌&&◌, ◌==◌, nat_eq}
use Rattle.std.specs.Cmp.Lexicographic.{pointwise}
use Rattle.stabby_layout.specs.declared.report.FieldReport.{FieldReport}

-- the name of the type, as bytes, and its fields in order
pub record Report : Type 0 where
  pub name : List ℕ
  pub fields : List FieldReport

-- the report of a type of this name that has no fields
abbrev pub without_fields : List ℕ → Report
without_fields name = record { name = name; fields = [] }

-- the two have the same name, id and layout
abbrev pub field_eq : FieldReport → FieldReport → Bool
field_eq x y = pointwise nat_eq x.name y.name && ((x.id == y.id) && ((x.layout.size == y.layout.size) && (x.layout.align == y.layout.align)))

-- the two have the same name and the same fields, in order
abbrev pub report_eq : Report → Report → Bool
report_eq x y = pointwise nat_eq x.name y.name && pointwise field_eq x.fields y.fields
