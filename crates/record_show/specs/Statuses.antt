-- The exit codes, and the lines that tell them.
use Rattle.std.specs.Prelude.{ℕ, List, [], ◌∷◌, ◌++◌, codes}
use Rattle.std.specs.Fmt.{decimal}
use Rattle.record_show.specs.declared.status.Cause.{Cause}
use Rattle.record_show.specs.declared.status.Cause.TheVariants.{NotRecord, Truncated, Padding, Trailing}
use Rattle.record_show.specs.declared.status.Status.{Status}
use Rattle.record_show.specs.declared.status.Status.TheVariants as status

abbrev pub code_of : Status → ℕ
code_of status.Ok = 0
code_of status.Memory = 1
code_of status.Usage = 2
code_of (status.NoMessage cause) = 3
code_of status.TooLong = 4
code_of status.ReadFault = 5
code_of status.WriteFault = 6

abbrev pub place_line : List ℕ → ℕ → List ℕ
place_line words at = words ++ (decimal at ++ (10 ∷ []))

abbrev pub cause_line : Cause → List ℕ
cause_line NotRecord = codes "not a record\n"
cause_line (Truncated at) = place_line (codes "truncated at ") at
cause_line (Padding at) = place_line (codes "padding at ") at
cause_line (Trailing at) = place_line (codes "trailing byte at ") at

-- the line that tells a status; a run that ended well tells nothing
abbrev pub line_of : Status → List ℕ
line_of status.Ok = []
line_of status.Memory = codes "out of memory\n"
line_of status.Usage = codes "usage: record_show\n"
line_of (status.NoMessage cause) = cause_line cause
line_of status.TooLong = codes "input longer than 16777216 bytes\n"
line_of status.ReadFault = codes "read fault\n"
line_of status.WriteFault = codes "write fault\n"
