-- A message as a person reads it.
use Rattle.std.specs.Prelude.{ℕ, ◌+◌, ◌/◌, ◌%◌, ◌*◌, List, [], ◌∷◌, ◌++◌, replicate, codes, flat_map, eqb, ltb, if◌then◌else◌}
use Rattle.std.specs.Char.{is_control, digit_char, encode_utf8}
use Rattle.std.specs.Fmt.{decimal}
use Rattle.std.specs.Str.{chars}
use Rattle.stabby_layout.specs.Layouts.{next_multiple}
use Rattle.stabby_record.specs.Shape.{Shape, Fields, end, number, nested, Number, one, two, four, eight, bytes_of}
use Rattle.stabby_record.specs.Layouts.{fields_align, fields_size}
use Rattle.stabby_record.specs.declared.schema.Kind.{Kind}
use Rattle.stabby_record.specs.declared.schema.Kind.TheVariants as kind
use Rattle.stabby_record.specs.Values.{Values, none_left, number_then, record_then}

-- the code of a control character between braces, in hexadecimal digits
abbrev pub hex_code : ℕ → List ℕ
hex_code c = 92 ∷ 117 ∷ 123 ∷ (if ltb c 16 then digit_char c ∷ 125 ∷ [] else digit_char (c / 16) ∷ digit_char (c % 16) ∷ 125 ∷ [])

-- a character between quotes: as it is, but for a quote, a backslash and a control character
abbrev pub shown_char : ℕ → List ℕ
shown_char c =
    if eqb c 0 then 92 ∷ 48 ∷ []
    else if eqb c 9 then 92 ∷ 116 ∷ []
    else if eqb c 10 then 92 ∷ 110 ∷ []
    else if eqb c 13 then 92 ∷ 114 ∷ []
    else if eqb c 34 then 92 ∷ 34 ∷ []
    else if eqb c 92 then 92 ∷ 92 ∷ []
    else if is_control c then hex_code c
    else encode_utf8 c

-- a name between quotes
abbrev pub quoted : List ℕ → List ℕ
quoted name = 34 ∷ (flat_map shown_char (chars name) ++ (34 ∷ []))

abbrev pub kind_name : Number → List ℕ
kind_name one = codes "u8"
kind_name two = codes "u16"
kind_name four = codes "u32"
kind_name eight = codes "u64"

-- two spaces for each record that a line stands in
abbrev pub indent : ℕ → List ℕ
indent depth = replicate (2 * depth) 32

abbrev pub number_line : List ℕ → List ℕ → ℕ → ℕ → ℕ → List ℕ
number_line name kind depth offset value =
    indent depth ++ (quoted name ++ (32 ∷ (kind ++ (codes " at " ++ (decimal offset ++ (codes " = " ++ (decimal value ++ (10 ∷ []))))))))

abbrev pub record_line : List ℕ → List ℕ → ℕ → ℕ → ℕ → List ℕ
record_line name record_name id depth offset =
    indent depth ++ (quoted name ++ (codes " record " ++ (quoted record_name ++ (codes " id " ++ (decimal id ++ (codes " at " ++ (decimal offset ++ (10 ∷ []))))))))

-- the lines of fields in preorder: the record that they are fields of begins at `begin` of the body, and the first of them
-- stands at `at` of the record or after it
abbrev pub field_lines : Fields → Values → ℕ → ℕ → ℕ → List ℕ
field_lines end vs depth begin at = []
field_lines (number n k rest) none_left depth begin at = []
field_lines (number n k rest) (number_then v vs) depth begin at =
    number_line n (kind_name k) depth (begin + next_multiple (bytes_of k) at) v ++ field_lines rest vs depth begin (next_multiple (bytes_of k) at + bytes_of k)
field_lines (number n k rest) (record_then w vs) depth begin at = []
field_lines (nested n r i inner rest) none_left depth begin at = []
field_lines (nested n r i inner rest) (number_then v vs) depth begin at = []
field_lines (nested n r i inner rest) (record_then w vs) depth begin at =
    record_line n r i depth (begin + next_multiple (fields_align inner) at)
    ++ (field_lines inner w (depth + 1) (begin + next_multiple (fields_align inner) at) 0
    ++ field_lines rest vs depth begin (next_multiple (fields_align inner) at + fields_size inner))

abbrev pub first_line : Shape → List ℕ
first_line s =
    quoted s.name ++ (codes " id " ++ (decimal s.id ++ (codes " size " ++ (decimal (fields_size s.fields)
    ++ (codes " align " ++ (decimal (fields_align s.fields) ++ (10 ∷ [])))))))

-- what is printed of a message of this schema with these values
abbrev pub text_of : Shape → Values → List ℕ
text_of s w = first_line s ++ field_lines s.fields w 1 0 0

abbrev pub plain_name : Kind → List ℕ
plain_name kind.U8 = kind_name one
plain_name kind.U16 = kind_name two
plain_name kind.U32 = kind_name four
plain_name kind.U64 = kind_name eight
plain_name (kind.Record s) = []
