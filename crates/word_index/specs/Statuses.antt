-- The exit codes, and the lines that tell them.
use Rattle.std.specs.Prelude.{ℕ, List, [], ◌∷◌, ◌++◌, codes}
use Rattle.std.specs.Fmt.{decimal}
use Rattle.word_index.specs.declared.status.Status.{Status}
use Rattle.word_index.specs.declared.status.Status.TheVariants as status

abbrev pub code_of : Status → ℕ
code_of status.Ok = 0
code_of status.Memory = 1
code_of status.Usage = 2
code_of (status.NotUtf8 at) = 3
code_of status.TooLong = 4
code_of status.ReadFault = 5
code_of status.WriteFault = 6

abbrev pub place_line : ℕ → List ℕ
place_line at = codes "not UTF-8 at " ++ (decimal at ++ (10 ∷ []))

-- the line that tells a status; a run that ended well tells nothing
abbrev pub line_of : Status → List ℕ
line_of status.Ok = []
line_of status.Memory = codes "out of memory\n"
line_of status.Usage = codes "usage: word_index words W, spans W\n"
line_of (status.NotUtf8 at) = place_line at
line_of status.TooLong = codes "input longer than 16777216 bytes\n"
line_of status.ReadFault = codes "read fault\n"
line_of status.WriteFault = codes "write fault\n"
