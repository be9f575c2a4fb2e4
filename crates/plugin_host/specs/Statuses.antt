-- The exit codes, and the lines that tell them.
use Rattle.std.specs.Prelude.{ℕ, List, [], ◌++◌, codes}
use Rattle.std.specs.Fmt.{decimal}
use Rattle.plugin_host.specs.declared.status.Status.{Status}
use Rattle.plugin_host.specs.declared.status.Status.TheVariants as status

abbrev pub code_of : Status → ℕ
code_of status.Ok = 0
code_of status.Memory = 1
code_of status.Usage = 2
code_of (status.BadLine line) = 3
code_of status.TooLong = 4
code_of status.ReadFault = 5
code_of status.WriteFault = 6

-- a line of the input that is no call, counted from 1
abbrev pub bad_line : ℕ → List ℕ
bad_line line = codes "line " ++ decimal line ++ codes ": not a call\n"

-- the line that tells a status; a run that ended well tells nothing
abbrev pub line_of : Status → List ℕ
line_of status.Ok = []
line_of status.Memory = codes "out of memory\n"
line_of status.Usage = codes "usage: plugin_host\n"
line_of (status.BadLine line) = bad_line line
line_of status.TooLong = codes "input longer than 16777216 bytes\n"
line_of status.ReadFault = codes "read fault\n"
line_of status.WriteFault = codes "write fault\n"
