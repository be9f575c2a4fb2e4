-- What a run is given and leaves, what each status says of it, and when it comes.
use Rattle.std.specs.Prelude.{◌≡◌, ℕ, ◌<◌, ◌≤◌, ◌++◌, List, length, take, Option, Some, IfSome, IsSome, ◌⊎◌, String}
use Rattle.stabby_record.specs.Shape.{Shape}
use Rattle.stabby_record.specs.Limits.{IsSchema}
use Rattle.stabby_record.specs.Values.{Values}
use Rattle.stabby_record.specs.Fits.{Fits}
use Rattle.stabby_record.specs.Message.{head, body}
use Rattle.stabby_record.specs.Described.{BeginsWith, NoHeadBegins}
use Rattle.stabby_record.specs.Misread.{misread}
use Rattle.stabby_record.specs.declared.reading.RecordFault.{RecordFault}
use Rattle.stabby_record.specs.declared.reading.RecordFault.TheVariants as fault
use Rattle.stabby_intern.specs.Devices.{Gave, Took, Rose}
use Rattle.stabby_intern.specs.Runs.{ReadToEnd, input_limit}
use Rattle.stabby_intern.specs.declared.device.Source as from
use Rattle.stabby_intern.specs.declared.device.Sink as to
use Rattle.record_show.specs.Shown.{text_of}
use Rattle.record_show.specs.declared.status.Cause.{Cause}
use Rattle.record_show.specs.declared.status.Cause.TheVariants.{NotRecord, Truncated, Padding, Trailing}
use Rattle.record_show.specs.declared.status.Status.{Status}
use Rattle.record_show.specs.declared.status.Status.TheVariants.{Ok, Memory, Usage, NoMessage, TooLong, ReadFault, WriteFault}

-- the text is that of the message which the bytes are
pub record Shows (bytes text : List ℕ) : Type 0 where
  pub schema : Shape
  pub values : Values
  pub is : IsSchema schema
  pub fits : Fits schema.fields values
  pub message : bytes ≡ head schema ++ body schema.fields values
  pub shown : text ≡ text_of schema values

-- a schema's head begins the bytes, and this speaks against the rest
pub record Misread (bytes : List ℕ) (cause : RecordFault) : Type 0 where
  pub schema : Shape
  pub is : IsSchema schema
  pub begins : BeginsWith bytes schema
  pub because : misread schema bytes ≡ Some cause

-- why bytes are no message
abbrev pub HasCause : List ℕ → Cause → Type 0
HasCause bytes NotRecord = NoHeadBegins bytes
HasCause bytes (Truncated at) = Misread bytes (fault.Truncated at)
HasCause bytes (Padding at) = Misread bytes (fault.Padding at)
HasCause bytes (Trailing at) = Misread bytes (fault.Trailing at)

-- a device before and after a run: the bytes that it tells, where it does, and its count of faults
pub record Device : Type 0 where
  pub told : Option (List ℕ)
  pub told_after : Option (List ℕ)
  pub faults : ℕ
  pub faults_after : ℕ

-- a run: how many words there are, the source and the sink
pub record Run : Type 0 where
  pub words : ℕ
  pub source : Device
  pub out : Device

abbrev pub run_of : {Z S K : Type 0} → from.Ghosts S → to.Ghosts K → List (String Z) → S → S → K → K → Run
run_of source sink words source_before source_after out_before out_after = record {
  words = length words;
  source = record { told = source.left source_before; told_after = source.left source_after; faults = source.faults source_before; faults_after = source.faults source_after };
  out = record { told = sink.taken out_before; told_after = sink.taken out_after; faults = sink.faults out_before; faults_after = sink.faults out_after };
}

-- no call of the device failed
abbrev pub NoFault : Device → Type 0
NoFault device = device.faults_after ≡ device.faults

-- the sink was given nothing
abbrev pub Untouched : Device → Type 0
Untouched out = out.told_after ≡ out.told

-- the source was read to its end, which gave these bytes
abbrev pub GaveAll : Device → List ℕ → Type 0
GaveAll source bytes = ReadToEnd source.told source.told_after bytes

-- Ok: the input is a message, and the sink took its text
pub record OkRun (r : Run) : Type 0 where
  pub bytes : List ℕ
  pub text : List ℕ
  pub read : GaveAll r.source bytes
  pub shows : Shows bytes text
  pub taken : Took r.out.told r.out.told_after text
  pub no_read_failed : NoFault r.source
  pub no_write_failed : NoFault r.out

-- Memory: nothing was written
pub record MemoryRun (r : Run) : Type 0 where
  pub untouched : Untouched r.out
  pub no_read_failed : NoFault r.source
  pub no_write_failed : NoFault r.out

-- Usage: there were words, and nothing was done
pub record UsageRun (r : Run) : Type 0 where
  pub words : 0 < r.words
  pub unread : r.source.told_after ≡ r.source.told
  pub untouched : Untouched r.out
  pub no_read_failed : NoFault r.source
  pub no_write_failed : NoFault r.out

-- NoMessage: this speaks against the input, and nothing was written
pub record NoMessageRun (r : Run) (cause : Cause) : Type 0 where
  pub bytes : List ℕ
  pub read : GaveAll r.source bytes
  pub because : HasCause bytes cause
  pub untouched : Untouched r.out
  pub no_read_failed : NoFault r.source
  pub no_write_failed : NoFault r.out

-- TooLong: the source, where it still tells its bytes, gave more of them than the limit
pub record TooLongRun (r : Run) : Type 0 where
  pub too_long : IfSome r.source.told_after (λ _. (bytes : List ℕ) × Gave r.source.told r.source.told_after bytes × (input_limit < length bytes))
  pub untouched : Untouched r.out
  pub no_read_failed : NoFault r.source
  pub no_write_failed : NoFault r.out

-- ReadFault: a read failed, before the limit of the input was passed
pub record ReadFaultRun (r : Run) : Type 0 where
  pub failed : Rose r.source.faults r.source.faults_after
  pub first : (bytes : List ℕ) × Gave r.source.told r.source.told_after bytes × (length bytes ≤ input_limit)
  pub untouched : Untouched r.out
  pub no_write_failed : NoFault r.out

-- WriteFault: a write failed, and a proper part of the text was taken
pub record WriteFaultRun (r : Run) : Type 0 where
  pub bytes : List ℕ
  pub text : List ℕ
  pub read : GaveAll r.source bytes
  pub shows : Shows bytes text
  pub written : ℕ
  pub proper : written < length text
  pub part : Took r.out.told r.out.told_after (take written text)
  pub failed : Rose r.out.faults r.out.faults_after
  pub no_read_failed : NoFault r.source

-- what a status says of its run
abbrev pub Says : Run → Status → Type 0
Says r Ok = OkRun r
Says r Memory = MemoryRun r
Says r Usage = UsageRun r
Says r (NoMessage cause) = NoMessageRun r cause
Says r TooLong = TooLongRun r
Says r ReadFault = ReadFaultRun r
Says r WriteFault = WriteFaultRun r

-- the input is a message, told throughout, of no more bytes than the limit, and no device failed
pub record CleanRun (r : Run) : Type 0 where
  pub bytes : List ℕ
  pub text : List ℕ
  pub no_words : r.words ≡ 0
  pub told : r.source.told ≡ Some bytes
  pub still_told : IsSome r.source.told_after
  pub fits : length bytes ≤ input_limit
  pub shows : Shows bytes text
  pub no_read_fault : Rose r.source.faults r.source.faults_after → ⊥
  pub no_write_fault : Rose r.out.faults r.out.faults_after → ⊥

-- A status comes where its cause is given; only for want of memory can `Memory` come in place of `Ok`.
pub record Comes (r : Run) (status : Status) : Type 0 where
  pub ok : CleanRun r → (status ≡ Ok) ⊎ (status ≡ Memory)
  pub usage : 0 < r.words → status ≡ Usage
  pub read_fault : r.source.faults < r.source.faults_after → status ≡ ReadFault
  pub write_fault : r.out.faults < r.out.faults_after → status ≡ WriteFault
