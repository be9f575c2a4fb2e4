-- What a run tells the log.
use Rattle.std.specs.Prelude.{ℕ, List, [], ◌++◌, take, Option, codes}
use Rattle.std.specs.Fmt.{decimal}
use Rattle.stabby_intern.specs.Devices.{Took, Rose}
use Rattle.stabby_intern.specs.declared.status.Status.{Status}
use Rattle.stabby_intern.specs.declared.status.Status.TheVariants as status

-- a line of the input that spells no table, counted from 1
abbrev pub bad_line : ℕ → List ℕ
bad_line line = codes "line " ++ decimal line ++ codes ": not a table\n"

-- the line that tells a status; a run that ended well tells nothing
abbrev pub line_of : Status → List ℕ
line_of status.Ok = []
line_of status.Memory = codes "out of memory\n"
line_of status.Usage = codes "usage: stabby_intern ranks W, numbers W, gen N D W\n"
line_of (status.BadWord line) = bad_line line
line_of status.TooLong = codes "input longer than 16777216 bytes\n"
line_of status.ReadFault = codes "read fault\n"
line_of status.WriteFault = codes "write fault\n"

-- the log took the first bytes of a line, and the whole line unless its count of faults rose
pub record IsTold (line : List ℕ) (taken taken' : Option (List ℕ)) (before now : ℕ) : Type 0 where
  pub written : ℕ
  pub part : Took taken taken' (take written line)
  pub whole : (Rose before now → ⊥) → Took taken taken' line
