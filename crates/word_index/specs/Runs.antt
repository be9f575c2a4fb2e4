-- What a run is given and leaves, what each status says of it, and when it comes.
use Rattle.std.specs.Prelude.{◌≡◌, ℕ, ◌<◌, ◌≤◌, List, length, map, take, Some, IsSome, ◌⊎◌, String, string_bytes}
use Rattle.std.specs.Str.{IsUtf8, IsValidUpTo}
use Rattle.stabby_tables.specs.Tables.{Table}
use Rattle.stabby_symbol.specs.Index.{IndexedWordValue, IsIndexOf}
use Rattle.stabby_intern.specs.Devices.{Took, Rose}
use Rattle.stabby_intern.specs.Runs.{Device, source_of, sink_of, NoFault, GaveAll, GaveTooMuch, GaveSome, input_limit}
use Rattle.stabby_intern.specs.declared.device.Source as from
use Rattle.stabby_intern.specs.declared.device.Sink as to
use Rattle.word_index.specs.Commands.{IsCommand, IsNoCommand, HasCommand}
use Rattle.word_index.specs.Listing.{listing_of}
use Rattle.word_index.specs.declared.command.Task.{Task}
use Rattle.word_index.specs.declared.status.Status.{Status}
use Rattle.word_index.specs.declared.status.Status.TheVariants.{Ok, Memory, Usage, NotUtf8, TooLong, ReadFault, WriteFault}

-- the lines are those of the index of the text that the bytes are
pub record Lists (task : Task) (bytes lines : List ℕ) : Type 0 where
  pub front : List Table
  pub words : List IndexedWordValue
  pub utf8 : IsUtf8 bytes
  pub index : IsIndexOf bytes front words
  pub listed : lines ≡ listing_of task words

-- a run: its words, the source and the sink
pub record Run : Type 0 where
  pub words : List (List ℕ)
  pub source : Device
  pub out : Device

abbrev pub run_of : {Z S K : Type 0} → from.Ghosts S → to.Ghosts K → List (String Z) → S → S → K → K → Run
run_of source sink words source_before source_after out_before out_after = record {
  words = map string_bytes words;
  source = source_of source source_before source_after;
  out = sink_of sink out_before out_after;
}

-- the sink was given nothing
abbrev pub Untouched : Device → Type 0
Untouched out = out.told_after ≡ out.told

-- Ok: the words are a command, the input is a text, and the sink took the lines of its index
pub record OkRun (r : Run) : Type 0 where
  pub task : Task
  pub workers : ℕ
  pub bytes : List ℕ
  pub lines : List ℕ
  pub command : IsCommand r.words task workers
  pub read : GaveAll r.source bytes
  pub lists : Lists task bytes lines
  pub taken : Took r.out.told r.out.told_after lines
  pub no_read_failed : NoFault r.source
  pub no_write_failed : NoFault r.out

-- Memory: nothing was written
pub record MemoryRun (r : Run) : Type 0 where
  pub command : HasCommand r.words
  pub untouched : Untouched r.out
  pub no_read_failed : NoFault r.source
  pub no_write_failed : NoFault r.out

-- Usage: the words are no command, and nothing was done
pub record UsageRun (r : Run) : Type 0 where
  pub no_command : IsNoCommand r.words
  pub unread : r.source.told_after ≡ r.source.told
  pub untouched : Untouched r.out
  pub no_read_failed : NoFault r.source
  pub no_write_failed : NoFault r.out

-- NotUtf8: the first `at` bytes of the input are its longest front that is UTF-8, and nothing was written
pub record NotUtf8Run (r : Run) (at : ℕ) : Type 0 where
  pub command : HasCommand r.words
  pub bytes : List ℕ
  pub read : GaveAll r.source bytes
  pub longest : IsValidUpTo bytes at
  pub untouched : Untouched r.out
  pub no_read_failed : NoFault r.source
  pub no_write_failed : NoFault r.out

-- TooLong: the source, where it still tells its bytes, gave more of them than the limit
pub record TooLongRun (r : Run) : Type 0 where
  pub command : HasCommand r.words
  pub too_long : GaveTooMuch r.source.told r.source.told_after
  pub untouched : Untouched r.out
  pub no_read_failed : NoFault r.source
  pub no_write_failed : NoFault r.out

-- ReadFault: a read failed, before the limit of the input was passed
pub record ReadFaultRun (r : Run) : Type 0 where
  pub command : HasCommand r.words
  pub failed : Rose r.source.faults r.source.faults_after
  pub first : GaveSome r.source.told r.source.told_after
  pub untouched : Untouched r.out
  pub no_write_failed : NoFault r.out

-- WriteFault: a write failed, and a proper part of the lines was taken
pub record WriteFaultRun (r : Run) : Type 0 where
  pub task : Task
  pub workers : ℕ
  pub bytes : List ℕ
  pub lines : List ℕ
  pub command : IsCommand r.words task workers
  pub read : GaveAll r.source bytes
  pub lists : Lists task bytes lines
  pub written : ℕ
  pub proper : written < length lines
  pub part : Took r.out.told r.out.told_after (take written lines)
  pub failed : Rose r.out.faults r.out.faults_after
  pub no_read_failed : NoFault r.source

-- what a status says of its run
abbrev pub Says : Run → Status → Type 0
Says r Ok = OkRun r
Says r Memory = MemoryRun r
Says r Usage = UsageRun r
Says r (NotUtf8 at) = NotUtf8Run r at
Says r TooLong = TooLongRun r
Says r ReadFault = ReadFaultRun r
Says r WriteFault = WriteFaultRun r

-- the words are a command, the input is a text, told throughout, of no more bytes than the limit, and no device failed
pub record CleanRun (r : Run) : Type 0 where
  pub bytes : List ℕ
  pub command : HasCommand r.words
  pub told : r.source.told ≡ Some bytes
  pub still_told : IsSome r.source.told_after
  pub fits : length bytes ≤ input_limit
  pub utf8 : IsUtf8 bytes
  pub no_read_fault : Rose r.source.faults r.source.faults_after → ⊥
  pub no_write_fault : Rose r.out.faults r.out.faults_after → ⊥

-- the words are a command, the input, told throughout, of no more bytes than the limit, is a text up to this byte and no
-- further, and no device failed
pub record CleanCutRun (r : Run) (at : ℕ) : Type 0 where
  pub bytes : List ℕ
  pub command : HasCommand r.words
  pub told : r.source.told ≡ Some bytes
  pub still_told : IsSome r.source.told_after
  pub fits : length bytes ≤ input_limit
  pub cut : IsValidUpTo bytes at
  pub no_read_fault : Rose r.source.faults r.source.faults_after → ⊥
  pub no_write_fault : Rose r.out.faults r.out.faults_after → ⊥

-- the words are a command, the input, told throughout, has more bytes than the limit, and no read failed
pub record CleanLongRun (r : Run) : Type 0 where
  pub bytes : List ℕ
  pub command : HasCommand r.words
  pub told : r.source.told ≡ Some bytes
  pub still_told : IsSome r.source.told_after
  pub too_long : input_limit < length bytes
  pub no_read_fault : Rose r.source.faults r.source.faults_after → ⊥

-- A status comes where its cause is given; only for want of memory can `Memory` come in its place.
pub record Comes (r : Run) (status : Status) : Type 0 where
  pub ok : CleanRun r → (status ≡ Ok) ⊎ (status ≡ Memory)
  pub usage : IsNoCommand r.words → status ≡ Usage
  pub not_utf8 : (at : ℕ) → CleanCutRun r at → (status ≡ NotUtf8 at) ⊎ (status ≡ Memory)
  pub too_long : CleanLongRun r → (status ≡ TooLong) ⊎ (status ≡ Memory)
  pub read_fault : r.source.faults < r.source.faults_after → status ≡ ReadFault
  pub write_fault : r.out.faults < r.out.faults_after → status ≡ WriteFault
