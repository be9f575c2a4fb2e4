-- From what a status says of its run to when each status comes.
use Rattle.std.proofs.Common.{◌≡◌, ℕ, ◌<◌, ◌≤◌, List, length, subst, arith, refl, ◌⊎◌, inl, inr, ap}
use Rattle.stabby_tables.specs.Tables.{Table}
use Rattle.stabby_tables.specs.Lines.{IsLines, IsBadLine}
use Rattle.stabby_tables.proofs.Texts.{not_both}
use Rattle.stabby_tables.proofs.Bad.{bad_once}
use Rattle.stabby_intern.specs.Commands.{IsNoCommand}
use Rattle.stabby_intern.specs.declared.status.Status.{Status}
use Rattle.stabby_intern.specs.declared.status.Status.TheVariants.{Ok, Memory, Usage, BadWord, TooLong, ReadFault, WriteFault}
use Rattle.stabby_intern.specs.Runs.{Run, Device, GaveAll, HasCommand, HasGeneration, NoFault, UsageRun, Says, ToldRun, CleanRun, CleanGeneration, CleanBadRun, CleanLongRun, Comes, ReadToEnd}
use Rattle.stabby_intern.proofs.Clean.{read_all, never_long}
use Rattle.stabby_intern.proofs.Asked.{one_command}

-- a command is one
no_usage : (r : Run) → HasCommand r.words → UsageRun r → ⊥
no_usage r (task, workers, is) usage = usage.no_command.no_interning task workers is

no_usage_generated : (r : Run) → HasGeneration r.words → UsageRun r → ⊥
no_usage_generated r (tables, divisor, workers, is) usage = usage.no_command.no_generation tables divisor workers is

not_both_asked : (r : Run) → HasCommand r.words → HasGeneration r.words → ⊥
not_both_asked r (task, workers, is) (tables, divisor, number, also) = one_command r.words task workers tables divisor number is also

-- the bytes that were read to the end are the input
input_is : (r : Run) (bytes given : List ℕ) → ToldRun r bytes → GaveAll r.source given → given ≡ bytes
input_is r bytes given input read = read_all r.source.told r.source.told_after bytes given input.told input.still_told read.gave read.at_end

ok_comes : (r : Run) (status : Status) → Says r status → CleanRun r → (status ≡ Ok) ⊎ (status ≡ Memory)
ok_comes r Ok says clean = inl refl
ok_comes r Memory says clean = inr refl
ok_comes r Usage says clean = absurd (no_usage r clean.input.command says)
ok_comes r (BadWord line) says clean = absurd (not_both clean.bytes clean.tables line clean.lines (subst (λ l. IsBadLine l line) (input_is r clean.bytes says.bytes clean.input says.read) says.bad))
ok_comes r TooLong says clean = absurd (never_long r.source.told r.source.told_after clean.bytes clean.input.told clean.input.still_told clean.fits says.too_long)
ok_comes r ReadFault says clean = absurd (clean.input.no_read_fault says.failed)
ok_comes r WriteFault (inl says) clean = absurd (clean.no_write_fault says.failed)
ok_comes r WriteFault (inr says) clean = absurd (clean.no_write_fault says.failed)

generated_comes : (r : Run) (status : Status) → Says r status → CleanGeneration r → (status ≡ Ok) ⊎ (status ≡ Memory)
generated_comes r Ok says clean = inl refl
generated_comes r Memory says clean = inr refl
generated_comes r Usage says clean = absurd (no_usage_generated r clean.generation says)
generated_comes r (BadWord line) says clean = absurd (not_both_asked r says.command clean.generation)
generated_comes r TooLong says clean = absurd (not_both_asked r says.command clean.generation)
generated_comes r ReadFault says clean = absurd (not_both_asked r says.command clean.generation)
generated_comes r WriteFault (inl says) clean = absurd (clean.no_write_fault says.failed)
generated_comes r WriteFault (inr says) clean = absurd (clean.no_write_fault says.failed)

usage_comes : (r : Run) (status : Status) → Says r status → IsNoCommand r.words → status ≡ Usage
usage_comes r Ok (inl says) none = absurd (none.no_interning says.task says.workers says.command)
usage_comes r Ok (inr says) none = absurd (none.no_generation says.count says.divisor says.workers says.generation)
usage_comes r Memory (inl says) none = let c = says.command in absurd (none.no_interning c.0 c.1 c.2)
usage_comes r Memory (inr says) none = absurd (none.no_generation says.count says.divisor says.workers says.generation)
usage_comes r Usage says none = refl
usage_comes r (BadWord line) says none = let c = says.command in absurd (none.no_interning c.0 c.1 c.2)
usage_comes r TooLong says none = let c = says.command in absurd (none.no_interning c.0 c.1 c.2)
usage_comes r ReadFault says none = let c = says.command in absurd (none.no_interning c.0 c.1 c.2)
usage_comes r WriteFault (inl says) none = absurd (none.no_interning says.task says.workers says.command)
usage_comes r WriteFault (inr says) none = absurd (none.no_generation says.count says.divisor says.workers says.generation)

-- lines that were read spell no tables where one is bad
no_lines : (r : Run) (line : ℕ) (clean : CleanBadRun r line) (given : List ℕ) → GaveAll r.source given → (ts : List Table) → IsLines given ts → ⊥
no_lines r line clean given read ts lines = not_both clean.bytes ts line (subst (λ l. IsLines l ts) (input_is r clean.bytes given clean.input read) lines) clean.bad

bad_word_comes : (r : Run) (status : Status) → Says r status → (line : ℕ) → CleanBadRun r line → (status ≡ BadWord line) ⊎ (status ≡ Memory)
bad_word_comes r Ok (inl says) line clean = absurd (no_lines r line clean says.bytes says.read says.tables says.lines)
bad_word_comes r Ok (inr says) line clean = absurd (not_both_asked r clean.input.command (says.count, says.divisor, says.workers, says.generation))
bad_word_comes r Memory says line clean = inr refl
bad_word_comes r Usage says line clean = absurd (no_usage r clean.input.command says)
bad_word_comes r (BadWord found) says line clean = inl (ap BadWord (bad_once clean.bytes found line (subst (λ l. IsBadLine l found) (input_is r clean.bytes says.bytes clean.input says.read) says.bad) clean.bad))
bad_word_comes r TooLong says line clean = absurd (never_long r.source.told r.source.told_after clean.bytes clean.input.told clean.input.still_told clean.fits says.too_long)
bad_word_comes r ReadFault says line clean = absurd (clean.input.no_read_fault says.failed)
bad_word_comes r WriteFault (inl says) line clean = absurd (no_lines r line clean says.bytes says.read says.tables says.lines)
bad_word_comes r WriteFault (inr says) line clean = absurd (not_both_asked r clean.input.command (says.count, says.divisor, says.workers, says.generation))

-- what was read to the end is no longer than the limit
not_long : (r : Run) (clean : CleanLongRun r) (given : List ℕ) → GaveAll r.source given → ⊥
not_long r clean given read =
    let same : length given ≡ length clean.bytes = ap length (input_is r clean.bytes given clean.input read) in
    let few : length given ≤ 16777216 = ReadToEnd.fits read in
    let many : 16777216 < length clean.bytes = clean.too_long in
    absurd (omega (arith, same, few, many))

too_long_comes : (r : Run) (status : Status) → Says r status → CleanLongRun r → (status ≡ TooLong) ⊎ (status ≡ Memory)
too_long_comes r Ok (inl says) clean = absurd (not_long r clean says.bytes says.read)
too_long_comes r Ok (inr says) clean = absurd (not_both_asked r clean.input.command (says.count, says.divisor, says.workers, says.generation))
too_long_comes r Memory says clean = inr refl
too_long_comes r Usage says clean = absurd (no_usage r clean.input.command says)
too_long_comes r (BadWord line) says clean = absurd (not_long r clean says.bytes says.read)
too_long_comes r TooLong says clean = inl refl
too_long_comes r ReadFault says clean = absurd (clean.input.no_read_fault says.failed)
too_long_comes r WriteFault (inl says) clean = absurd (not_long r clean says.bytes says.read)
too_long_comes r WriteFault (inr says) clean = absurd (not_both_asked r clean.input.command (says.count, says.divisor, says.workers, says.generation))

-- a count that rose isn't the same
rose_not : (device : Device) → NoFault device → device.faults < device.faults_after → ⊥
rose_not device same rose = absurd (omega (arith, same, rose))

read_fault_comes : (r : Run) (status : Status) → Says r status → r.source.faults < r.source.faults_after → status ≡ ReadFault
read_fault_comes r Ok (inl says) rose = absurd (rose_not r.source says.no_read_failed rose)
read_fault_comes r Ok (inr says) rose = absurd (rose_not r.source says.no_read_failed rose)
read_fault_comes r Memory (inl says) rose = absurd (rose_not r.source says.no_read_failed rose)
read_fault_comes r Memory (inr says) rose = absurd (rose_not r.source says.no_read_failed rose)
read_fault_comes r Usage says rose = absurd (rose_not r.source says.no_read_failed rose)
read_fault_comes r (BadWord line) says rose = absurd (rose_not r.source says.no_read_failed rose)
read_fault_comes r TooLong says rose = absurd (rose_not r.source says.no_read_failed rose)
read_fault_comes r ReadFault says rose = refl
read_fault_comes r WriteFault (inl says) rose = absurd (rose_not r.source says.no_read_failed rose)
read_fault_comes r WriteFault (inr says) rose = absurd (rose_not r.source says.no_read_failed rose)

write_fault_comes : (r : Run) (status : Status) → Says r status → r.out.faults < r.out.faults_after → status ≡ WriteFault
write_fault_comes r Ok (inl says) rose = absurd (rose_not r.out says.no_write_failed rose)
write_fault_comes r Ok (inr says) rose = absurd (rose_not r.out says.no_write_failed rose)
write_fault_comes r Memory (inl says) rose = absurd (rose_not r.out says.no_write_failed rose)
write_fault_comes r Memory (inr says) rose = absurd (rose_not r.out says.no_write_failed rose)
write_fault_comes r Usage says rose = absurd (rose_not r.out says.no_write_failed rose)
write_fault_comes r (BadWord line) says rose = absurd (rose_not r.out says.no_write_failed rose)
write_fault_comes r TooLong says rose = absurd (rose_not r.out says.no_write_failed rose)
write_fault_comes r ReadFault says rose = absurd (rose_not r.out says.no_write_failed rose)
write_fault_comes r WriteFault says rose = refl

pub comes : (r : Run) (status : Status) → Says r status → Comes r status
comes r status says = record {
  ok = ok_comes r status says;
  generated = generated_comes r status says;
  usage = usage_comes r status says;
  bad_word = bad_word_comes r status says;
  too_long = too_long_comes r status says;
  read_fault = read_fault_comes r status says;
  write_fault = write_fault_comes r status says;
}
