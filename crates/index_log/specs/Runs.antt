-- What a run of the program is given and leaves, what each status says of it, and when each comes.
use Rattle.std.specs.Prelude.{◌≡◌, ℕ, ◌<◌, ◌≤◌, ◌+◌, List, [], ◌∷◌, ◌++◌, length, map, take, Option, Some, IfSome, IsSome, ◌⊎◌, String, string_bytes}
use Rattle.std.specs.List.{AllZip}
use Rattle.stabby_tables.specs.Pieces.{lines_of}
use Rattle.stabby_intern.specs.Devices.{Gave, Took, Rose}
use Rattle.stabby_intern.specs.Runs.{ReadToEnd, Device, source_of, sink_of, NoFault, NothingWritten, GaveAll, input_limit}
use Rattle.stabby_intern.specs.declared.device.Source as from
use Rattle.stabby_intern.specs.declared.device.Sink as to
use Rattle.index_log.specs.Lines.{IsLineOf, IsNoCommand}
use Rattle.index_log.specs.Keeps.{IsKeep, IsNoKeep}
use Rattle.index_log.specs.Sessions.{State, opening, after, after_all, Prints, PrintsAll}
use Rattle.index_log.specs.declared.command.Command.{Command}
use Rattle.index_log.specs.declared.status.Status.{Status}
use Rattle.index_log.specs.declared.status.Status.TheVariants.{Ok, Memory, Usage, BadLine, TooLong, ReadFault, WriteFault}

-- a run: its words, the source, and the sink of what commands print
pub record Run : Type 0 where
  pub words : List (List ℕ)
  pub source : Device
  pub out : Device

abbrev pub run_of : {Z S K : Type 0} → from.Ghosts S → to.Ghosts K → List (String Z) → S → S → K → K → Run
run_of source sink words source_before source_after out_before out_after = record { words = map string_bytes words; source = source_of source source_before source_after; out = sink_of sink out_before out_after }

-- ---- lines that were obeyed
-- all lines are commands, and the sink took exactly what they print
pub record AllObeyed (start : State) (lines : List (List ℕ)) (out : Device) : Type 0 where
  pub commands : List Command
  pub printed : List ℕ
  pub are : AllZip IsLineOf lines commands
  pub prints : PrintsAll start commands printed
  pub taken : Took out.told out.told_after printed
  pub no_write_failed : NoFault out

-- the first lines were obeyed, and none after them
pub record SomeObeyed (start : State) (lines : List (List ℕ)) (out : Device) : Type 0 where
  pub front : List (List ℕ)
  pub back : List (List ℕ)
  pub split : lines ≡ front ++ back
  pub obeyed : AllObeyed start front out

-- the lines before the k-th, counted from 1, were obeyed, and the k-th is no command
pub record BadObeyed (start : State) (lines : List (List ℕ)) (out : Device) (k : ℕ) : Type 0 where
  pub front : List (List ℕ)
  pub line : List ℕ
  pub back : List (List ℕ)
  pub split : lines ≡ front ++ line ∷ back
  pub place : k ≡ length front + 1
  pub obeyed : AllObeyed start front out
  pub bad : IsNoCommand line

-- The first lines were obeyed, but of what the last of their commands prints a proper part was taken, since a write failed.
pub record PartObeyed (start : State) (lines : List (List ℕ)) (out : Device) : Type 0 where
  pub front : List (List ℕ)
  pub line : List ℕ
  pub back : List (List ℕ)
  pub split : lines ≡ front ++ line ∷ back
  pub commands : List Command
  pub last : Command
  pub printed : List ℕ
  pub last_printed : List ℕ
  pub are : AllZip IsLineOf front commands
  pub is : IsLineOf line last
  pub prints : PrintsAll start commands printed
  pub last_prints : Prints (after_all start commands) last last_printed
  pub written : ℕ
  pub proper : written < length last_printed
  pub taken : Took out.told out.told_after (printed ++ take written last_printed)
  pub failed : Rose out.faults out.faults_after

-- ---- what each status says
-- Ok: all lines of the input are commands, and the sink took exactly what they print
pub record OkRun (r : Run) : Type 0 where
  pub keep : ℕ
  pub is_keep : IsKeep r.words keep
  pub bytes : List ℕ
  pub read : GaveAll r.source bytes
  pub obeyed : AllObeyed (opening keep) (lines_of bytes) r.out
  pub no_read_failed : NoFault r.source

-- Memory: nothing was written, or exactly what the commands of the first lines print
pub record MemoryRun (r : Run) : Type 0 where
  pub keep : ℕ
  pub is_keep : IsKeep r.words keep
  pub written : NothingWritten r.out ⊎ ((bytes : List ℕ) × GaveAll r.source bytes × SomeObeyed (opening keep) (lines_of bytes) r.out)
  pub no_read_failed : NoFault r.source
  pub no_write_failed : NoFault r.out

-- Usage: the words aren't one number from 1 to 1,024, and nothing was done
pub record UsageRun (r : Run) : Type 0 where
  pub no_keep : IsNoKeep r.words
  pub unread : r.source.told_after ≡ r.source.told
  pub untouched : r.out.told_after ≡ r.out.told
  pub no_read_failed : NoFault r.source
  pub no_write_failed : NoFault r.out

-- BadLine: the line is the first of the input that is no command, and the sink took exactly what the commands before it print
pub record BadLineRun (r : Run) (line : ℕ) : Type 0 where
  pub keep : ℕ
  pub is_keep : IsKeep r.words keep
  pub bytes : List ℕ
  pub read : GaveAll r.source bytes
  pub obeyed : BadObeyed (opening keep) (lines_of bytes) r.out line
  pub no_read_failed : NoFault r.source

-- TooLong: the source, where it still tells its bytes, gave more of them than the limit
pub record TooLongRun (r : Run) : Type 0 where
  pub keep : ℕ
  pub is_keep : IsKeep r.words keep
  pub too_long : IfSome r.source.told_after (λ _. (bytes : List ℕ) × Gave r.source.told r.source.told_after bytes × (input_limit < length bytes))
  pub untouched : r.out.told_after ≡ r.out.told
  pub no_read_failed : NoFault r.source
  pub no_write_failed : NoFault r.out

-- ReadFault: a read failed, before the limit of the input was passed
pub record ReadFaultRun (r : Run) : Type 0 where
  pub keep : ℕ
  pub is_keep : IsKeep r.words keep
  pub failed : Rose r.source.faults r.source.faults_after
  pub first : (bytes : List ℕ) × Gave r.source.told r.source.told_after bytes × (length bytes ≤ input_limit)
  pub untouched : r.out.told_after ≡ r.out.told
  pub no_write_failed : NoFault r.out

-- WriteFault: a write failed, and the sink took what the commands before print, and a proper part of what this one does
pub record WriteFaultRun (r : Run) : Type 0 where
  pub keep : ℕ
  pub is_keep : IsKeep r.words keep
  pub bytes : List ℕ
  pub read : GaveAll r.source bytes
  pub obeyed : PartObeyed (opening keep) (lines_of bytes) r.out
  pub no_read_failed : NoFault r.source

-- what a status says of its run
abbrev pub Says : Run → Status → Type 0
Says r Ok = OkRun r
Says r Memory = MemoryRun r
Says r Usage = UsageRun r
Says r (BadLine line) = BadLineRun r line
Says r TooLong = TooLongRun r
Says r ReadFault = ReadFaultRun r
Says r WriteFault = WriteFaultRun r

-- what a status says of the obeying of a text's lines
abbrev pub Ends : State → List (List ℕ) → Device → Status → Type 0
Ends start lines out Ok = AllObeyed start lines out
Ends start lines out Memory = SomeObeyed start lines out
Ends start lines out (BadLine line) = BadObeyed start lines out line
Ends start lines out WriteFault = PartObeyed start lines out
Ends start lines out Usage = ⊥
Ends start lines out TooLong = ⊥
Ends start lines out ReadFault = ⊥

-- ---- when each status comes
-- the words say how many versions are kept, and the source told its bytes throughout, these, without a fault
pub record ToldRun (r : Run) (bytes : List ℕ) : Type 0 where
  pub keep : ℕ
  pub is_keep : IsKeep r.words keep
  pub told : r.source.told ≡ Some bytes
  pub still_told : IsSome r.source.told_after
  pub no_read_fault : Rose r.source.faults r.source.faults_after → ⊥

-- all lines of the input, of no more bytes than the limit, are commands, and no device failed
pub record CleanRun (r : Run) : Type 0 where
  pub bytes : List ℕ
  pub commands : List Command
  pub input : ToldRun r bytes
  pub fits : length bytes ≤ input_limit
  pub are : AllZip IsLineOf (lines_of bytes) commands
  pub no_write_fault : Rose r.out.faults r.out.faults_after → ⊥

-- the line, counted from 1, is the first of the input that is no command, and no device failed
pub record CleanBadRun (r : Run) (k : ℕ) : Type 0 where
  pub bytes : List ℕ
  pub input : ToldRun r bytes
  pub fits : length bytes ≤ input_limit
  pub front : List (List ℕ)
  pub line : List ℕ
  pub back : List (List ℕ)
  pub split : lines_of bytes ≡ front ++ line ∷ back
  pub place : k ≡ length front + 1
  pub commands : List Command
  pub are : AllZip IsLineOf front commands
  pub bad : IsNoCommand line
  pub no_write_fault : Rose r.out.faults r.out.faults_after → ⊥

-- the input has more bytes than the limit, and no read failed
pub record CleanLongRun (r : Run) : Type 0 where
  pub bytes : List ℕ
  pub input : ToldRun r bytes
  pub too_long : input_limit < length bytes

-- A status comes where its cause is given; only for want of memory can `Memory` come in its place.
pub record Comes (r : Run) (status : Status) : Type 0 where
  pub ok : CleanRun r → (status ≡ Ok) ⊎ (status ≡ Memory)
  pub usage : IsNoKeep r.words → status ≡ Usage
  pub bad_line : (line : ℕ) → CleanBadRun r line → (status ≡ BadLine line) ⊎ (status ≡ Memory)
  pub too_long : CleanLongRun r → (status ≡ TooLong) ⊎ (status ≡ Memory)
  pub read_fault : r.source.faults < r.source.faults_after → status ≡ ReadFault
  pub write_fault : r.out.faults < r.out.faults_after → status ≡ WriteFault

-- ---- inside
-- the lines were obeyed, and that left the session in this state
pub record ObeyedTo (start now : State) (lines : List (List ℕ)) (out : Device) : Type 0 where
  pub commands : List Command
  pub printed : List ℕ
  pub are : AllZip IsLineOf lines commands
  pub prints : PrintsAll start commands printed
  pub state : now ≡ after_all start commands
  pub taken : Took out.told out.told_after printed
  pub no_write_failed : NoFault out

-- the line was obeyed
pub record LineObeyed (before now : State) (line : List ℕ) (out : Device) : Type 0 where
  pub command : Command
  pub printed : List ℕ
  pub is : IsLineOf line command
  pub state : now ≡ after before command
  pub prints : Prints before command printed
  pub taken : Took out.told out.told_after printed
  pub no_write_failed : NoFault out

-- the line was obeyed, and a proper part of what it prints was taken
pub record LinePart (before : State) (line : List ℕ) (out : Device) : Type 0 where
  pub command : Command
  pub printed : List ℕ
  pub is : IsLineOf line command
  pub prints : Prints before command printed
  pub written : ℕ
  pub proper : written < length printed
  pub taken : Took out.told out.told_after (take written printed)
  pub failed : Rose out.faults out.faults_after

-- the sink was given nothing
abbrev pub Untouched : Device → Type 0
Untouched out = (out.told_after ≡ out.told) × NoFault out

-- what a status says of the obeying of one line, the k-th
abbrev pub LineEnds : State → State → List ℕ → Device → ℕ → Status → Type 0
LineEnds before now line out k Ok = LineObeyed before now line out
LineEnds before now line out k Memory = Untouched out
LineEnds before now line out k (BadLine found) = (found ≡ k) × IsNoCommand line × Untouched out
LineEnds before now line out k WriteFault = LinePart before line out
LineEnds before now line out k Usage = ⊥
LineEnds before now line out k TooLong = ⊥
LineEnds before now line out k ReadFault = ⊥
