-- What a run of the program is given and leaves, what each status says of it, and when each comes.
use Rattle.std.specs.Prelude.{◌≡◌, ℕ, ◌<◌, ◌≤◌, List, [], length, map, take, Option, Some, IfSome, IsSome, ◌⊎◌, String, string_bytes}
use Rattle.stabby_tables.specs.Tables.{Table}
use Rattle.stabby_tables.specs.Lists.{place, HoldsEachOnce, AppendsSome}
use Rattle.stabby_tables.specs.Shares.{IsFirstInShare}
use Rattle.stabby_tables.specs.Lines.{IsLines, IsBadLine}
use Rattle.stabby_tables.specs.Reports.{rank_report, number_report}
use Rattle.stabby_intern.specs.Commands.{IsCommand, IsGeneration, IsNoCommand}
use Rattle.stabby_intern.specs.Generated.{generated_tables, generated_report}
use Rattle.stabby_intern.specs.Devices.{Gave, Took, Rose}
use Rattle.stabby_intern.specs.declared.command.Task.{Task}
use Rattle.stabby_intern.specs.declared.command.Task.TheVariants as tasks
use Rattle.stabby_intern.specs.declared.device.Source as from
use Rattle.stabby_intern.specs.declared.device.Sink as to
use Rattle.stabby_intern.specs.declared.status.Status.{Status}
use Rattle.stabby_intern.specs.declared.status.Status.TheVariants.{Ok, Memory, Usage, BadWord, TooLong, ReadFault, WriteFault}

-- the greatest length of an input
abbrev pub input_limit : ℕ
input_limit = 16777216

-- what a task writes of the tables of its input and the registry's list of them
abbrev pub task_report : Task → List Table → List Table → List ℕ
task_report tasks.Ranks tables front = rank_report tables
task_report tasks.Numbers tables front = number_report tables front

-- ---- before and after
-- a device before and after a run: the bytes that it tells, where it does, and its count of faults
pub record Device : Type 0 where
  pub told : Option (List ℕ)
  pub told_after : Option (List ℕ)
  pub faults : ℕ
  pub faults_after : ℕ

-- a run: its words, the source, the sink of the report, and the registry's tables as the pass has seen them after it
pub record Run : Type 0 where
  pub words : List (List ℕ)
  pub source : Device
  pub out : Device
  pub front : List Table

abbrev pub source_of : {S : Type 0} → from.Ghosts S → S → S → Device
source_of source before after = record { told = source.left before; told_after = source.left after; faults = source.faults before; faults_after = source.faults after }

abbrev pub sink_of : {K : Type 0} → to.Ghosts K → K → K → Device
sink_of sink before after = record { told = sink.taken before; told_after = sink.taken after; faults = sink.faults before; faults_after = sink.faults after }

abbrev pub run_between : List (List ℕ) → Device → Device → List Table → Run
run_between words source out front = record { words = words; source = source; out = out; front = front }

abbrev pub run_with : {S K : Type 0} → from.Ghosts S → to.Ghosts K → List (List ℕ) → S → S → K → K → List Table → Run
run_with source sink words source_before source_after out_before out_after front = run_between words (source_of source source_before source_after) (sink_of sink out_before out_after) front

abbrev pub run_of : {Z S K : Type 0} → from.Ghosts S → to.Ghosts K → List (String Z) → S → S → K → K → List Table → Run
run_of source sink words source_before source_after out_before out_after front = run_with source sink (map string_bytes words) source_before source_after out_before out_after front

-- no call of the device failed
abbrev pub NoFault : Device → Type 0
NoFault device = device.faults_after ≡ device.faults

-- the sink was given nothing
abbrev pub NothingWritten : Device → Type 0
NothingWritten out = Took out.told out.told_after []

-- the words ask for a report on the input
abbrev pub HasCommand : List (List ℕ) → Type 0
HasCommand words = (task : Task) × (workers : ℕ) × IsCommand words task workers

-- the words ask for generated tables
abbrev pub HasGeneration : List (List ℕ) → Type 0
HasGeneration words = (tables : ℕ) × (divisor : ℕ) × (workers : ℕ) × IsGeneration words tables divisor workers

-- ---- what each status says
-- the source gave these bytes, and no told byte is left
pub record ReadToEnd (old new : Option (List ℕ)) (bytes : List ℕ) : Type 0 where
  pub gave : Gave old new bytes
  pub at_end : IfSome new (λ left. left ≡ [])
  pub fits : length bytes ≤ input_limit

-- the source was read to its end, which gave these bytes
abbrev pub GaveAll : Device → List ℕ → Type 0
GaveAll source bytes = ReadToEnd source.told source.told_after bytes

-- Ok: the input spells tables, the sink took the task's report of them, and the registry holds exactly these tables, each
-- numbered by the place where it was added
pub record OkRun (r : Run) : Type 0 where
  pub task : Task
  pub workers : ℕ
  pub bytes : List ℕ
  pub tables : List Table
  pub command : IsCommand r.words task workers
  pub read : GaveAll r.source bytes
  pub lines : IsLines bytes tables
  pub report : Took r.out.told r.out.told_after (task_report task tables r.front)
  pub holds : HoldsEachOnce tables r.front
  pub first : IsFirstInShare (map (place r.front) tables) workers 0
  pub no_read_failed : NoFault r.source
  pub no_write_failed : NoFault r.out

-- nothing was added, or some of the tables of the text, each once
abbrev pub PartlyAdded : List ℕ → List Table → Type 0
PartlyAdded text front = (front ≡ []) ⊎ ((tables : List Table) × IsLines text tables × AppendsSome [] tables front)

-- Memory: memory ran out before anything was written
pub record MemoryRun (r : Run) : Type 0 where
  pub command : HasCommand r.words
  pub nothing_written : NothingWritten r.out
  pub some_added : (r.front ≡ []) ⊎ ((bytes : List ℕ) × GaveAll r.source bytes × PartlyAdded bytes r.front)
  pub no_read_failed : NoFault r.source
  pub no_write_failed : NoFault r.out

-- Usage: the words are no command, and nothing was done
pub record UsageRun (r : Run) : Type 0 where
  pub no_command : IsNoCommand r.words
  pub nothing_added : r.front ≡ []
  pub no_read_failed : NoFault r.source
  pub no_write_failed : NoFault r.out

-- BadWord: the line is the first of the input that spells no table, and nothing else was done
pub record BadLineRun (r : Run) (line : ℕ) : Type 0 where
  pub command : HasCommand r.words
  pub bytes : List ℕ
  pub read : GaveAll r.source bytes
  pub bad : IsBadLine bytes line
  pub nothing_written : NothingWritten r.out
  pub nothing_added : r.front ≡ []
  pub no_read_failed : NoFault r.source
  pub no_write_failed : NoFault r.out

-- the source, where it still tells its bytes, gave more of them than the limit
abbrev pub GaveTooMuch : Option (List ℕ) → Option (List ℕ) → Type 0
GaveTooMuch old new = IfSome new (λ _. (bytes : List ℕ) × Gave old new bytes × (input_limit < length bytes))

-- the source gave some bytes, no more than the limit
abbrev pub GaveSome : Option (List ℕ) → Option (List ℕ) → Type 0
GaveSome old new = (bytes : List ℕ) × Gave old new bytes × (length bytes ≤ input_limit)

-- TooLong: the source gave more bytes than the limit
pub record TooLongRun (r : Run) : Type 0 where
  pub command : HasCommand r.words
  pub too_long : GaveTooMuch r.source.told r.source.told_after
  pub untouched : r.out.told_after ≡ r.out.told
  pub nothing_added : r.front ≡ []
  pub no_read_failed : NoFault r.source
  pub no_write_failed : NoFault r.out

-- ReadFault: a read failed, before the limit of the input was passed
pub record ReadFaultRun (r : Run) : Type 0 where
  pub command : HasCommand r.words
  pub failed : Rose r.source.faults r.source.faults_after
  pub first : GaveSome r.source.told r.source.told_after
  pub untouched : r.out.told_after ≡ r.out.told
  pub nothing_added : r.front ≡ []
  pub no_write_failed : NoFault r.out

-- WriteFault: a write failed; a proper part of the report was taken, and the registry holds its tables
pub record WriteFaultRun (r : Run) : Type 0 where
  pub task : Task
  pub workers : ℕ
  pub command : IsCommand r.words task workers
  pub bytes : List ℕ
  pub tables : List Table
  pub read : GaveAll r.source bytes
  pub lines : IsLines bytes tables
  pub holds : HoldsEachOnce tables r.front
  pub first : IsFirstInShare (map (place r.front) tables) workers 0
  pub written : ℕ
  pub proper : written < length (task_report task tables r.front)
  pub part : Took r.out.told r.out.told_after (take written (task_report task tables r.front))
  pub failed : Rose r.out.faults r.out.faults_after
  pub no_read_failed : NoFault r.source

-- ---- the same of generated tables, for which nothing is read
-- Ok: the sink took the counts, and the registry holds exactly the generated tables, each numbered by the place where it
-- was added
pub record GeneratedRun (r : Run) : Type 0 where
  pub count : ℕ
  pub divisor : ℕ
  pub workers : ℕ
  pub generation : IsGeneration r.words count divisor workers
  pub report : Took r.out.told r.out.told_after (generated_report count divisor)
  pub holds : HoldsEachOnce (generated_tables count divisor) r.front
  pub first : IsFirstInShare (map (place r.front) (generated_tables count divisor)) workers 0
  pub no_read_failed : NoFault r.source
  pub no_write_failed : NoFault r.out

-- Memory: memory ran out before anything was written; some of the generated tables were added, each once
pub record GeneratedMemoryRun (r : Run) : Type 0 where
  pub count : ℕ
  pub divisor : ℕ
  pub workers : ℕ
  pub generation : IsGeneration r.words count divisor workers
  pub nothing_written : NothingWritten r.out
  pub some_added : AppendsSome [] (generated_tables count divisor) r.front
  pub no_read_failed : NoFault r.source
  pub no_write_failed : NoFault r.out

-- WriteFault: a write failed; a proper part of the counts was taken, and the registry holds the generated tables
pub record GeneratedWriteFaultRun (r : Run) : Type 0 where
  pub count : ℕ
  pub divisor : ℕ
  pub workers : ℕ
  pub generation : IsGeneration r.words count divisor workers
  pub holds : HoldsEachOnce (generated_tables count divisor) r.front
  pub first : IsFirstInShare (map (place r.front) (generated_tables count divisor)) workers 0
  pub written : ℕ
  pub proper : written < length (generated_report count divisor)
  pub part : Took r.out.told r.out.told_after (take written (generated_report count divisor))
  pub failed : Rose r.out.faults r.out.faults_after
  pub no_read_failed : NoFault r.source

-- ---- by status
-- what a status says of its run
abbrev pub Says : Run → Status → Type 0
Says r Ok = OkRun r ⊎ GeneratedRun r
Says r Memory = MemoryRun r ⊎ GeneratedMemoryRun r
Says r Usage = UsageRun r
Says r (BadWord line) = BadLineRun r line
Says r TooLong = TooLongRun r
Says r ReadFault = ReadFaultRun r
Says r WriteFault = WriteFaultRun r ⊎ GeneratedWriteFaultRun r

-- ---- when each status comes
-- the words are a command, and the source told its bytes throughout, these, without a fault
pub record ToldRun (r : Run) (bytes : List ℕ) : Type 0 where
  pub command : HasCommand r.words
  pub told : r.source.told ≡ Some bytes
  pub still_told : IsSome r.source.told_after
  pub no_read_fault : Rose r.source.faults r.source.faults_after → ⊥

-- the input, of no more bytes than the limit, spells tables, and no device failed
pub record CleanRun (r : Run) : Type 0 where
  pub bytes : List ℕ
  pub tables : List Table
  pub input : ToldRun r bytes
  pub fits : length bytes ≤ input_limit
  pub lines : IsLines bytes tables
  pub no_write_fault : Rose r.out.faults r.out.faults_after → ⊥

-- the input, of no more bytes than the limit, has this bad line, and no read failed
pub record CleanBadRun (r : Run) (line : ℕ) : Type 0 where
  pub bytes : List ℕ
  pub input : ToldRun r bytes
  pub fits : length bytes ≤ input_limit
  pub bad : IsBadLine bytes line

-- the input has more bytes than the limit, and no read failed
pub record CleanLongRun (r : Run) : Type 0 where
  pub bytes : List ℕ
  pub input : ToldRun r bytes
  pub too_long : input_limit < length bytes

-- the words ask for generated tables, and no write failed
pub record CleanGeneration (r : Run) : Type 0 where
  pub generation : HasGeneration r.words
  pub no_write_fault : Rose r.out.faults r.out.faults_after → ⊥

-- A status comes where its cause is given; only for want of memory can `Memory` come in its place.
pub record Comes (r : Run) (status : Status) : Type 0 where
  pub ok : CleanRun r → (status ≡ Ok) ⊎ (status ≡ Memory)
  pub generated : CleanGeneration r → (status ≡ Ok) ⊎ (status ≡ Memory)
  pub usage : IsNoCommand r.words → status ≡ Usage
  pub bad_word : (line : ℕ) → CleanBadRun r line → (status ≡ BadWord line) ⊎ (status ≡ Memory)
  pub too_long : CleanLongRun r → (status ≡ TooLong) ⊎ (status ≡ Memory)
  pub read_fault : r.source.faults < r.source.faults_after → status ≡ ReadFault
  pub write_fault : r.out.faults < r.out.faults_after → status ≡ WriteFault

-- ---- inside
-- the tables of a text, and what the registry and the report have of them
pub record Reported (task : Task) (text : List ℕ) (workers : ℕ) (front : List Table) (report : List ℕ) : Type 0 where
  pub tables : List Table
  pub lines : IsLines text tables
  pub is_report : report ≡ task_report task tables front
  pub holds : HoldsEachOnce tables front
  pub first : IsFirstInShare (map (place front) tables) workers 0

-- the generated tables, and what the registry and the report have of them
pub record CountsReported (count divisor workers : ℕ) (front : List Table) (report : List ℕ) : Type 0 where
  pub is_report : report ≡ generated_report count divisor
  pub holds : HoldsEachOnce (generated_tables count divisor) front
  pub first : IsFirstInShare (map (place front) (generated_tables count divisor)) workers 0
