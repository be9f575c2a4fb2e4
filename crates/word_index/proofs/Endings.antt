-- From what a status says of its run to when each status comes.
use Rattle.std.proofs.Common.{◌≡◌, ℕ, ◌<◌, ◌≤◌, List, length, sym, ◌∙◌, ap, subst, refl, arith, Some, IsSome, IsUtf8, ◌⊎◌, inl, inr}
use Rattle.std.specs.Str.{IsValidUpTo}
use Rattle.std.proofs.lemmas.List.{take_all}
use Rattle.std.proofs.lemmas.Str.{utf8_valid_len-IsValidUpTo}
use Rattle.stabby_intern.specs.Runs.{Device, GaveAll, NoFault, ReadToEnd}
use Rattle.stabby_intern.proofs.Clean.{read_all, never_long}
use Rattle.word_index.specs.Commands.{HasCommand, IsNoCommand}
use Rattle.word_index.specs.declared.status.Status.{Status}
use Rattle.word_index.specs.declared.status.Status.TheVariants.{Ok, Memory, Usage, NotUtf8, TooLong, ReadFault, WriteFault}
use Rattle.word_index.specs.Runs.{Run, Lists, OkRun, UsageRun, Says, CleanRun, CleanCutRun, CleanLongRun, Comes}

-- a text has no place where no text goes on
whole : (bytes : List ℕ) (at : ℕ) → IsUtf8 bytes → IsValidUpTo bytes at → ⊥
whole bytes at utf8 up = IsValidUpTo.longest up (length bytes) (IsValidUpTo.short up) (subst IsUtf8 (sym (take_all (length bytes) bytes (omega arith))) utf8)

-- and other bytes have one
one_place : (bytes : List ℕ) (at other : ℕ) → IsValidUpTo bytes at → IsValidUpTo bytes other → at ≡ other
one_place bytes at other up there = sym (utf8_valid_len-IsValidUpTo bytes at up) ∙ utf8_valid_len-IsValidUpTo bytes other there

-- what was read to the end is all that was told before
input_is : (r : Run) (bytes given : List ℕ) → r.source.told ≡ Some bytes → IsSome r.source.told_after → GaveAll r.source given → given ≡ bytes
input_is r bytes given told still read = read_all r.source.told r.source.told_after bytes given told still (ReadToEnd.gave read) (ReadToEnd.at_end read)

-- ---- devices and words
rose_not : (device : Device) → NoFault device → device.faults < device.faults_after → ⊥
rose_not device same rose = absurd (omega (arith, same, rose))

not_long : (r : Run) (clean : CleanLongRun r) (given : List ℕ) → GaveAll r.source given → ⊥
not_long r clean given read =
    let same : length given ≡ length clean.bytes = ap length (input_is r clean.bytes given clean.told clean.still_told read) in
    let few : length given ≤ 16777216 = ReadToEnd.fits read in
    let many : 16777216 < length clean.bytes = clean.too_long in
    absurd (omega (arith, same, few, many))

no_usage : (r : Run) → HasCommand r.words → UsageRun r → ⊥
no_usage r command usage = UsageRun.no_command usage command.0 command.1 command.2

-- ---- by status
ok_comes : (r : Run) (status : Status) → Says r status → CleanRun r → (status ≡ Ok) ⊎ (status ≡ Memory)
ok_comes r Ok says clean = inl refl
ok_comes r Memory says clean = inr refl
ok_comes r Usage says clean = absurd (no_usage r clean.command says)
ok_comes r (NotUtf8 at) says clean = absurd (whole clean.bytes at clean.utf8 (subst (λ (l : List ℕ). IsValidUpTo l at) (input_is r clean.bytes says.bytes clean.told clean.still_told says.read) says.longest))
ok_comes r TooLong says clean = absurd (never_long r.source.told r.source.told_after clean.bytes clean.told clean.still_told clean.fits says.too_long)
ok_comes r ReadFault says clean = absurd (clean.no_read_fault says.failed)
ok_comes r WriteFault says clean = absurd (clean.no_write_fault says.failed)

usage_comes : (r : Run) (status : Status) → Says r status → IsNoCommand r.words → status ≡ Usage
usage_comes r Ok says none = absurd (none says.task says.workers says.command)
usage_comes r Memory says none = absurd (none says.command.0 says.command.1 says.command.2)
usage_comes r Usage says none = refl
usage_comes r (NotUtf8 at) says none = absurd (none says.command.0 says.command.1 says.command.2)
usage_comes r TooLong says none = absurd (none says.command.0 says.command.1 says.command.2)
usage_comes r ReadFault says none = absurd (none says.command.0 says.command.1 says.command.2)
usage_comes r WriteFault says none = absurd (none says.task says.workers says.command)

-- the lines of an index are those of a text
never_listed : (r : Run) (at : ℕ) (clean : CleanCutRun r at) (given : List ℕ) → GaveAll r.source given → IsUtf8 given → ⊥
never_listed r at clean given read utf8 = whole clean.bytes at (subst IsUtf8 (input_is r clean.bytes given clean.told clean.still_told read) utf8) clean.cut

not_utf8_comes : (r : Run) (status : Status) → Says r status → (at : ℕ) → CleanCutRun r at → (status ≡ NotUtf8 at) ⊎ (status ≡ Memory)
not_utf8_comes r Ok says at clean = absurd (never_listed r at clean says.bytes says.read (Lists.utf8 says.lists))
not_utf8_comes r Memory says at clean = inr refl
not_utf8_comes r Usage says at clean = absurd (no_usage r clean.command says)
not_utf8_comes r (NotUtf8 found) says at clean =
    inl (ap NotUtf8 (one_place clean.bytes found at (subst (λ (l : List ℕ). IsValidUpTo l found) (input_is r clean.bytes says.bytes clean.told clean.still_told says.read) says.longest) clean.cut))
not_utf8_comes r TooLong says at clean = absurd (never_long r.source.told r.source.told_after clean.bytes clean.told clean.still_told clean.fits says.too_long)
not_utf8_comes r ReadFault says at clean = absurd (clean.no_read_fault says.failed)
not_utf8_comes r WriteFault says at clean = absurd (clean.no_write_fault says.failed)

too_long_comes : (r : Run) (status : Status) → Says r status → CleanLongRun r → (status ≡ TooLong) ⊎ (status ≡ Memory)
too_long_comes r Ok says clean = absurd (not_long r clean says.bytes says.read)
too_long_comes r Memory says clean = inr refl
too_long_comes r Usage says clean = absurd (no_usage r clean.command says)
too_long_comes r (NotUtf8 at) says clean = absurd (not_long r clean says.bytes says.read)
too_long_comes r TooLong says clean = inl refl
too_long_comes r ReadFault says clean = absurd (clean.no_read_fault says.failed)
too_long_comes r WriteFault says clean = absurd (not_long r clean says.bytes says.read)

read_fault_comes : (r : Run) (status : Status) → Says r status → r.source.faults < r.source.faults_after → status ≡ ReadFault
read_fault_comes r Ok says rose = absurd (rose_not r.source says.no_read_failed rose)
read_fault_comes r Memory says rose = absurd (rose_not r.source says.no_read_failed rose)
read_fault_comes r Usage says rose = absurd (rose_not r.source says.no_read_failed rose)
read_fault_comes r (NotUtf8 at) says rose = absurd (rose_not r.source says.no_read_failed rose)
read_fault_comes r TooLong says rose = absurd (rose_not r.source says.no_read_failed rose)
read_fault_comes r ReadFault says rose = refl
read_fault_comes r WriteFault says rose = absurd (rose_not r.source says.no_read_failed rose)

write_fault_comes : (r : Run) (status : Status) → Says r status → r.out.faults < r.out.faults_after → status ≡ WriteFault
write_fault_comes r Ok says rose = absurd (rose_not r.out says.no_write_failed rose)
write_fault_comes r Memory says rose = absurd (rose_not r.out says.no_write_failed rose)
write_fault_comes r Usage says rose = absurd (rose_not r.out says.no_write_failed rose)
write_fault_comes r (NotUtf8 at) says rose = absurd (rose_not r.out says.no_write_failed rose)
write_fault_comes r TooLong says rose = absurd (rose_not r.out says.no_write_failed rose)
write_fault_comes r ReadFault says rose = absurd (rose_not r.out says.no_write_failed rose)
write_fault_comes r WriteFault says rose = refl

pub comes : (r : Run) (status : Status) → Says r status → Comes r status
comes r status says = record {
  ok = ok_comes r status says;
  usage = usage_comes r status says;
  not_utf8 = not_utf8_comes r status says;
  too_long = too_long_comes r status says;
  read_fault = read_fault_comes r status says;
  write_fault = write_fault_comes r status says;
}
