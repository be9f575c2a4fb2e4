-- The fields' own names.
use Rattle.std.specs.Prelude.{List, [], ◌∷◌}
use Rattle.std.specs.Str.{IsUtf8}
use Rattle.stabby_record.specs.declared.schema.Field.{Field}

-- each field's own name is a text
abbrev pub AreNamed : List Field → Type 0
AreNamed [] = Unit {0}
AreNamed (f ∷ fs) = IsUtf8 f.name × AreNamed fs
