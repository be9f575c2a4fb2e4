-- What a run of the program is given and leaves, what each status says of it, and when each comes.
use Rattle.std.specs.Prelude.{◌≡◌, ◌≢◌, ℕ, ◌<◌, ◌≤◌, ◌+◌, List, [], ◌∷◌, ◌++◌, length, map, take, Some, IsSome, ◌⊎◌, String, string_bytes}
use Rattle.std.specs.List.{AllZip}
use Rattle.stabby_tables.specs.Pieces.{lines_of}
use Rattle.stabby_intern.specs.Devices.{Took, Rose}
use Rattle.stabby_intern.specs.Runs.{Device, source_of, sink_of, NoFault, GaveAll, GaveTooMuch, GaveSome, input_limit}
use Rattle.stabby_intern.specs.declared.device.Source as from
use Rattle.stabby_intern.specs.declared.device.Sink as to
use Rattle.plugin_host.specs.Lines.{IsLineOf, IsNoCall}
use Rattle.plugin_host.specs.Answers.{AreAnswered}
use Rattle.plugin_host.specs.declared.script.Call.{Call}
use Rattle.plugin_host.specs.declared.program.ScriptFault.{ScriptFault}
use Rattle.plugin_host.specs.declared.program.ScriptFault.TheVariants as script
use Rattle.plugin_host.specs.declared.status.Status.{Status}
use Rattle.plugin_host.specs.declared.status.Status.TheVariants.{Ok, Memory, Usage, BadLine, TooLong, ReadFault, WriteFault}

-- a run: its words, the source, and the sink of the answers
pub record Run : Type 0 where
  pub words : List (List ℕ)
  pub source : Device
  pub out : Device

abbrev pub run_of : {Z S K : Type 0} → from.Ghosts S → to.Ghosts K → List (String Z) → S → S → K → K → Run
run_of source sink words source_before source_after out_before out_after = record {
  words = map string_bytes words;
  source = source_of source source_before source_after;
  out = sink_of sink out_before out_after;
}

-- ---- scripts
-- the lines are these calls
abbrev pub AreCalls : List (List ℕ) → List Call → Type 0
AreCalls lines calls = AllZip IsLineOf lines calls

-- the k-th line, counted from 1, is the first that is no call
pub record IsFirstBad (lines : List (List ℕ)) (k : ℕ) : Type 0 where
  pub front : List (List ℕ)
  pub line : List ℕ
  pub back : List (List ℕ)
  pub calls : List Call
  pub split : lines ≡ front ++ line ∷ back
  pub place : k ≡ length front + 1
  pub are : AreCalls front calls
  pub bad : IsNoCall line

-- why the lines weren't read as calls
abbrev pub IsScriptFault : List (List ℕ) → ScriptFault → Type 0
IsScriptFault lines script.Memory = Unit {0}
IsScriptFault lines (script.BadLine line) = IsFirstBad lines line

-- the text answers the calls that the lines of the bytes are
pub record Plays (bytes text : List ℕ) : Type 0 where
  pub calls : List Call
  pub are : AreCalls (lines_of bytes) calls
  pub answered : AreAnswered calls text

-- the sink was given nothing
abbrev pub Untouched : Device → Type 0
Untouched out = out.told_after ≡ out.told

-- ---- what each status says
-- Ok: there are no words, the lines of the input are calls, and the sink took a line for each, which answers it
pub record OkRun (r : Run) : Type 0 where
  pub no_words : r.words ≡ []
  pub bytes : List ℕ
  pub text : List ℕ
  pub read : GaveAll r.source bytes
  pub plays : Plays bytes text
  pub taken : Took r.out.told r.out.told_after text
  pub no_read_failed : NoFault r.source
  pub no_write_failed : NoFault r.out

-- Memory: nothing was written
pub record MemoryRun (r : Run) : Type 0 where
  pub no_words : r.words ≡ []
  pub untouched : Untouched r.out
  pub no_read_failed : NoFault r.source
  pub no_write_failed : NoFault r.out

-- Usage: there are words, and nothing was done
pub record UsageRun (r : Run) : Type 0 where
  pub has_words : r.words ≢ []
  pub unread : r.source.told_after ≡ r.source.told
  pub untouched : Untouched r.out
  pub no_read_failed : NoFault r.source
  pub no_write_failed : NoFault r.out

-- BadLine: the line is the first of the input that is no call, and nothing was written
pub record BadLineRun (r : Run) (line : ℕ) : Type 0 where
  pub no_words : r.words ≡ []
  pub bytes : List ℕ
  pub read : GaveAll r.source bytes
  pub first : IsFirstBad (lines_of bytes) line
  pub untouched : Untouched r.out
  pub no_read_failed : NoFault r.source
  pub no_write_failed : NoFault r.out

-- TooLong: the source, where it still tells its bytes, gave more of them than the limit
pub record TooLongRun (r : Run) : Type 0 where
  pub no_words : r.words ≡ []
  pub too_long : GaveTooMuch r.source.told r.source.told_after
  pub untouched : Untouched r.out
  pub no_read_failed : NoFault r.source
  pub no_write_failed : NoFault r.out

-- ReadFault: a read failed, before the limit of the input was passed
pub record ReadFaultRun (r : Run) : Type 0 where
  pub no_words : r.words ≡ []
  pub failed : Rose r.source.faults r.source.faults_after
  pub first : GaveSome r.source.told r.source.told_after
  pub untouched : Untouched r.out
  pub no_write_failed : NoFault r.out

-- WriteFault: a write failed, and a proper part of the answers was taken
pub record WriteFaultRun (r : Run) : Type 0 where
  pub no_words : r.words ≡ []
  pub bytes : List ℕ
  pub text : List ℕ
  pub read : GaveAll r.source bytes
  pub plays : Plays bytes text
  pub written : ℕ
  pub proper : written < length text
  pub part : Took r.out.told r.out.told_after (take written text)
  pub failed : Rose r.out.faults r.out.faults_after
  pub no_read_failed : NoFault r.source

-- what a status says of its run
abbrev pub Says : Run → Status → Type 0
Says r Ok = OkRun r
Says r Memory = MemoryRun r
Says r Usage = UsageRun r
Says r (BadLine line) = BadLineRun r line
Says r TooLong = TooLongRun r
Says r ReadFault = ReadFaultRun r
Says r WriteFault = WriteFaultRun r

-- ---- when each status comes
-- there are no words, and the source told its bytes throughout, these, without a fault
pub record ToldRun (r : Run) (bytes : List ℕ) : Type 0 where
  pub no_words : r.words ≡ []
  pub told : r.source.told ≡ Some bytes
  pub still_told : IsSome r.source.told_after
  pub no_read_fault : Rose r.source.faults r.source.faults_after → ⊥

-- all lines of the input, of no more bytes than the limit, are calls, and no device failed
pub record CleanRun (r : Run) : Type 0 where
  pub bytes : List ℕ
  pub calls : List Call
  pub input : ToldRun r bytes
  pub fits : length bytes ≤ input_limit
  pub are : AreCalls (lines_of bytes) calls
  pub no_write_fault : Rose r.out.faults r.out.faults_after → ⊥

-- the line, counted from 1, is the first of the input that is no call, and no device failed
pub record CleanBadRun (r : Run) (k : ℕ) : Type 0 where
  pub bytes : List ℕ
  pub input : ToldRun r bytes
  pub fits : length bytes ≤ input_limit
  pub first : IsFirstBad (lines_of bytes) k
  pub no_write_fault : Rose r.out.faults r.out.faults_after → ⊥

-- the input has more bytes than the limit, and no read failed
pub record CleanLongRun (r : Run) : Type 0 where
  pub bytes : List ℕ
  pub input : ToldRun r bytes
  pub too_long : input_limit < length bytes

-- A status comes where its cause is given; only for want of memory can `Memory` come in its place.
pub record Comes (r : Run) (status : Status) : Type 0 where
  pub ok : CleanRun r → (status ≡ Ok) ⊎ (status ≡ Memory)
  pub usage : r.words ≢ [] → status ≡ Usage
  pub bad_line : (line : ℕ) → CleanBadRun r line → (status ≡ BadLine line) ⊎ (status ≡ Memory)
  pub too_long : CleanLongRun r → (status ≡ TooLong) ⊎ (status ≡ Memory)
  pub read_fault : r.source.faults < r.source.faults_after → status ≡ ReadFault
  pub write_fault : r.out.faults < r.out.faults_after → status ≡ WriteFault
