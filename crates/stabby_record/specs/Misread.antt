-- Why bytes are no message of a schema: the first of four causes.
use Rattle.std.specs.Prelude.{ℕ, ◌+◌, List, length, take, drop, Option, Some, None, Result, Ok, Err, ltb, if◌then◌else◌}
use Rattle.stabby_record.specs.Shape.{Shape}
use Rattle.stabby_record.specs.Layouts.{fields_size}
use Rattle.stabby_record.specs.Message.{head}
use Rattle.stabby_record.specs.Reading.{first_differing, misfilled_body}
use Rattle.stabby_record.specs.declared.reading.RecordFault.{RecordFault}
use Rattle.stabby_record.specs.declared.reading.RecordFault.TheVariants.{Differs, Truncated, Padding, Trailing, Memory}

abbrev pub or_fault : Option ℕ → (ℕ → RecordFault) → Option RecordFault → Option RecordFault
or_fault (Some at) f o = Some (f at)
or_fault None f o = o

-- the head differs; the bytes end too early; a padding byte isn't zero; the bytes go on
abbrev pub misread : Shape → List ℕ → Option RecordFault
misread s bytes =
    let whole = length (head s) + fields_size s.fields in
    or_fault (first_differing (head s) bytes 0) Differs
    (if ltb (length bytes) whole then Some (Truncated (length bytes))
    else or_fault (misfilled_body s.fields (take (fields_size s.fields) (drop (length (head s)) bytes)) (length (head s))) Padding
    (if ltb whole (length bytes) then Some (Trailing whole) else None))

-- the cause that an answer tells; want of memory is none
abbrev pub cause_of : {V : Type 0} → Result V RecordFault → Option RecordFault
cause_of (Ok value) = None
cause_of (Err (Differs at)) = Some (Differs at)
cause_of (Err (Truncated at)) = Some (Truncated at)
cause_of (Err (Padding at)) = Some (Padding at)
cause_of (Err (Trailing at)) = Some (Trailing at)
cause_of (Err Memory) = None
