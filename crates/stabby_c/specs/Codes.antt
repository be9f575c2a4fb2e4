-- The numbers by which C sees answers.
use Rattle.std.specs.Prelude.{ℕ, Result, Ok, Err, Option, Some, None}
use Rattle.stabby_c.specs.declared.answer.Answer.{Answer}
use Rattle.stabby_c.specs.declared.answer.Answer.TheVariants.{Done, Memory, Busy, Moved, Full, Absent, Foreign, Light, Malformed}
use Rattle.stabby_cell.specs.declared.fault.CellFault.{CellFault}
use Rattle.stabby_cell.specs.declared.fault.CellFault.TheVariants as read
use Rattle.stabby_registry.specs.declared.fault.TryFault.{TryFault}
use Rattle.stabby_registry.specs.declared.fault.TryFault.TheVariants as once

abbrev pub code_of : Answer → ℕ
code_of Done = 0
code_of Memory = 1
code_of Busy = 2
code_of Moved = 3
code_of Full = 4
code_of Absent = 5
code_of Foreign = 6
code_of Light = 7
code_of Malformed = 8

-- the answer that tells a fault
abbrev pub of_try : TryFault → Answer
of_try once.Busy = Busy
of_try (once.Moved from seen) = Moved
of_try (once.Full front) = Full
of_try once.Memory = Memory

abbrev pub of_read : CellFault → Answer
of_read read.Busy = Busy
of_read read.Memory = Memory

-- the answer that tells how an insert went
abbrev pub of_insert : {A : Type 0} → Result A TryFault → Answer
of_insert (Ok n) = Done
of_insert (Err fault) = of_try fault

-- the answer that tells how a read of an entry went
abbrev pub of_entry : {A : Type 0} → Result (Option A) CellFault → Answer
of_entry (Ok (Some n)) = Done
of_entry (Ok None) = Absent
of_entry (Err fault) = of_read fault
