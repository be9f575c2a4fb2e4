-- The exit codes.
use Rattle.std.specs.Prelude.{ℕ}
use Rattle.stabby_intern.specs.declared.status.Status.{Status}
use Rattle.stabby_intern.specs.declared.status.Status.TheVariants as status

abbrev pub code_of : Status → ℕ
code_of status.Ok = 0
code_of status.Memory = 1
code_of status.Usage = 2
code_of (status.BadWord line) = 3
code_of status.TooLong = 4
code_of status.ReadFault = 5
code_of status.WriteFault = 6
