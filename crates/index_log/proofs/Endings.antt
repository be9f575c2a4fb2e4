-- From what a status says of its run to when each status comes.
use Rattle.std.proofs.Common.{◌≡◌, ℕ, ◌+◌, ◌<◌, ◌≤◌, List, [], ◌∷◌, ◌++◌, length, sym, ◌∙◌, subst, arith, refl, ◌⊎◌, inl, inr, ap}
use Rattle.std.specs.List.{AllZip}
use Rattle.stabby_tables.specs.Pieces.{lines_of}
use Rattle.stabby_tables.specs.Lines.{SpellsWord}
use Rattle.stabby_tables.proofs.Zips.{zip_at, zip_length}
use Rattle.stabby_intern.specs.Runs.{Device, GaveAll, NoFault, ReadToEnd}
use Rattle.stabby_intern.proofs.Clean.{read_all, never_long}
use Rattle.index_log.specs.Lines.{IsLineOf, IsNoCommand}
use Rattle.index_log.specs.Keeps.{IsNoKeep}
use Rattle.index_log.specs.declared.command.Command.{Command}
use Rattle.index_log.specs.declared.status.Status.{Status}
use Rattle.index_log.specs.declared.status.Status.TheVariants.{Ok, Memory, Usage, BadLine, TooLong, ReadFault, WriteFault}
use Rattle.index_log.specs.Runs.{Run, AllObeyed, SomeObeyed, BadObeyed, PartObeyed, UsageRun, Says, ToldRun, CleanRun, CleanBadRun, CleanLongRun, Comes}

input_is : (r : Run) (bytes given : List ℕ) → ToldRun r bytes → GaveAll r.source given → given ≡ bytes
input_is r bytes given input read = read_all r.source.told r.source.told_after bytes given (ToldRun.told input) (ToldRun.still_told input) (ReadToEnd.gave read) (ReadToEnd.at_end read)

lines_are : (r : Run) (bytes given : List ℕ) → ToldRun r bytes → GaveAll r.source given → lines_of given ≡ lines_of bytes
lines_are r bytes given input read = ap lines_of (input_is r bytes given input read)

-- ---- lines
-- lines that are all commands have none that isn't
never_bad : (lines front back : List (List ℕ)) (line : List ℕ) (cs : List Command) → AllZip IsLineOf lines cs → lines ≡ front ++ line ∷ back → IsNoCommand line → ⊥
never_bad lines front back line cs are split bad =
    let one = zip_at IsLineOf front line back cs (subst (λ (l : List (List ℕ)). AllZip IsLineOf l cs) split are) in
    bad one.0 one.1

head_same : (x y : List ℕ) (xs ys : List (List ℕ)) → x ∷ xs ≡ y ∷ ys → x ≡ y
head_same x y xs ys e = cc

tail_same : (x y : List ℕ) (xs ys : List (List ℕ)) → x ∷ xs ≡ y ∷ ys → xs ≡ ys
tail_same x y xs ys e = cc

-- the first line that is no command stands at one place
first_bad : (front front' back back' : List (List ℕ)) (line line' : List ℕ) (cs cs' : List Command) → front ++ line ∷ back ≡ front' ++ line' ∷ back' → AllZip IsLineOf front cs → AllZip IsLineOf front' cs' → IsNoCommand line → IsNoCommand line' → length front ≡ length front'
first_bad [] [] back back' line line' cs cs' e are are' bad bad' = refl
first_bad [] (x ∷ front') back back' line line' cs [] e are are' bad bad' = absurd are'
first_bad [] (x ∷ front') back back' line line' cs (c ∷ cs') e are are' bad bad' = absurd (bad c (subst (λ (l : List ℕ). IsLineOf l c) (sym (head_same line x back (front' ++ line' ∷ back') e)) are'.0))
first_bad (x ∷ front) [] back back' line line' [] cs' e are are' bad bad' = absurd are
first_bad (x ∷ front) [] back back' line line' (c ∷ cs) cs' e are are' bad bad' = absurd (bad' c (subst (λ (l : List ℕ). IsLineOf l c) (head_same x line' (front ++ line ∷ back) back' e) are.0))
first_bad (x ∷ front) (y ∷ front') back back' line line' [] cs' e are are' bad bad' = absurd are
first_bad (x ∷ front) (y ∷ front') back back' line line' (c ∷ cs) [] e are are' bad bad' = absurd are'
first_bad (x ∷ front) (y ∷ front') back back' line line' (c ∷ cs) (d ∷ cs') e are are' bad bad' =
    let more = first_bad front front' back back' line line' cs cs' (tail_same x y (front ++ line ∷ back) (front' ++ line' ∷ back') e) are.1 are'.1 bad bad' in omega (arith, more)

-- ---- devices
rose_not : (device : Device) → NoFault device → device.faults < device.faults_after → ⊥
rose_not device same rose = absurd (omega (arith, same, rose))

not_long : (r : Run) (clean : CleanLongRun r) (given : List ℕ) → GaveAll r.source given → ⊥
not_long r clean given read =
    let same : length given ≡ length (CleanLongRun.bytes clean) = ap length (input_is r (CleanLongRun.bytes clean) given (CleanLongRun.input clean) read) in
    let few : length given ≤ 16777216 = ReadToEnd.fits read in
    let many : 16777216 < length (CleanLongRun.bytes clean) = CleanLongRun.too_long clean in
    absurd (omega (arith, same, few, many))

no_usage : (r : Run) (bytes : List ℕ) → ToldRun r bytes → UsageRun r → ⊥
no_usage r bytes input usage = UsageRun.no_keep usage (ToldRun.keep input) (ToldRun.is_keep input)

-- ---- by status
ok_comes : (r : Run) (status : Status) → Says r status → CleanRun r → (status ≡ Ok) ⊎ (status ≡ Memory)
ok_comes r Ok says clean = inl refl
ok_comes r Memory says clean = inr refl
ok_comes r Usage says clean = absurd (no_usage r clean.bytes clean.input says)
ok_comes r (BadLine line) says clean =
    let o = says.obeyed in absurd (never_bad (lines_of clean.bytes) (BadObeyed.front o) (BadObeyed.back o) (BadObeyed.line o) clean.commands clean.are (sym (lines_are r clean.bytes says.bytes clean.input says.read) ∙ BadObeyed.split o) (BadObeyed.bad o))
ok_comes r TooLong says clean = absurd (never_long r.source.told r.source.told_after clean.bytes (ToldRun.told clean.input) (ToldRun.still_told clean.input) clean.fits says.too_long)
ok_comes r ReadFault says clean = absurd (ToldRun.no_read_fault clean.input says.failed)
ok_comes r WriteFault says clean = absurd (clean.no_write_fault (PartObeyed.failed says.obeyed))

usage_comes : (r : Run) (status : Status) → Says r status → IsNoKeep r.words → status ≡ Usage
usage_comes r Ok says none = absurd (none says.keep says.is_keep)
usage_comes r Memory says none = absurd (none says.keep says.is_keep)
usage_comes r Usage says none = refl
usage_comes r (BadLine line) says none = absurd (none says.keep says.is_keep)
usage_comes r TooLong says none = absurd (none says.keep says.is_keep)
usage_comes r ReadFault says none = absurd (none says.keep says.is_keep)
usage_comes r WriteFault says none = absurd (none says.keep says.is_keep)

bad_line_comes : (r : Run) (status : Status) → Says r status → (line : ℕ) → CleanBadRun r line → (status ≡ BadLine line) ⊎ (status ≡ Memory)
bad_line_comes r Ok says line clean =
    let o = says.obeyed in absurd (never_bad (lines_of says.bytes) clean.front clean.back clean.line (AllObeyed.commands o) (AllObeyed.are o) (lines_are r clean.bytes says.bytes clean.input says.read ∙ clean.split) clean.bad)
bad_line_comes r Memory says line clean = inr refl
bad_line_comes r Usage says line clean = absurd (no_usage r clean.bytes clean.input says)
bad_line_comes r (BadLine found) says line clean =
    let o = says.obeyed in
    let same : BadObeyed.front o ++ BadObeyed.line o ∷ BadObeyed.back o ≡ clean.front ++ clean.line ∷ clean.back = sym (BadObeyed.split o) ∙ (lines_are r clean.bytes says.bytes clean.input says.read ∙ clean.split) in
    let lengths = first_bad (BadObeyed.front o) clean.front (BadObeyed.back o) clean.back (BadObeyed.line o) clean.line (AllObeyed.commands (BadObeyed.obeyed o)) clean.commands same (AllObeyed.are (BadObeyed.obeyed o)) clean.are (BadObeyed.bad o) clean.bad in
    inl (ap BadLine (omega (arith, lengths, BadObeyed.place o, clean.place)))
bad_line_comes r TooLong says line clean = absurd (never_long r.source.told r.source.told_after clean.bytes (ToldRun.told clean.input) (ToldRun.still_told clean.input) clean.fits says.too_long)
bad_line_comes r ReadFault says line clean = absurd (ToldRun.no_read_fault clean.input says.failed)
bad_line_comes r WriteFault says line clean = absurd (clean.no_write_fault (PartObeyed.failed says.obeyed))

too_long_comes : (r : Run) (status : Status) → Says r status → CleanLongRun r → (status ≡ TooLong) ⊎ (status ≡ Memory)
too_long_comes r Ok says clean = absurd (not_long r clean says.bytes says.read)
too_long_comes r Memory says clean = inr refl
too_long_comes r Usage says clean = absurd (no_usage r clean.bytes clean.input says)
too_long_comes r (BadLine line) says clean = absurd (not_long r clean says.bytes says.read)
too_long_comes r TooLong says clean = inl refl
too_long_comes r ReadFault says clean = absurd (ToldRun.no_read_fault clean.input says.failed)
too_long_comes r WriteFault says clean = absurd (not_long r clean says.bytes says.read)

read_fault_comes : (r : Run) (status : Status) → Says r status → r.source.faults < r.source.faults_after → status ≡ ReadFault
read_fault_comes r Ok says rose = absurd (rose_not r.source says.no_read_failed rose)
read_fault_comes r Memory says rose = absurd (rose_not r.source says.no_read_failed rose)
read_fault_comes r Usage says rose = absurd (rose_not r.source says.no_read_failed rose)
read_fault_comes r (BadLine line) says rose = absurd (rose_not r.source says.no_read_failed rose)
read_fault_comes r TooLong says rose = absurd (rose_not r.source says.no_read_failed rose)
read_fault_comes r ReadFault says rose = refl
read_fault_comes r WriteFault says rose = absurd (rose_not r.source says.no_read_failed rose)

write_fault_comes : (r : Run) (status : Status) → Says r status → r.out.faults < r.out.faults_after → status ≡ WriteFault
write_fault_comes r Ok says rose = absurd (rose_not r.out (AllObeyed.no_write_failed says.obeyed) rose)
write_fault_comes r Memory says rose = absurd (rose_not r.out says.no_write_failed rose)
write_fault_comes r Usage says rose = absurd (rose_not r.out says.no_write_failed rose)
write_fault_comes r (BadLine line) says rose = absurd (rose_not r.out (AllObeyed.no_write_failed (BadObeyed.obeyed says.obeyed)) rose)
write_fault_comes r TooLong says rose = absurd (rose_not r.out says.no_write_failed rose)
write_fault_comes r ReadFault says rose = absurd (rose_not r.out says.no_write_failed rose)
write_fault_comes r WriteFault says rose = refl

pub comes : (r : Run) (status : Status) → Says r status → Comes r status
comes r status says = record {
  ok = ok_comes r status says;
  usage = usage_comes r status says;
  bad_line = bad_line_comes r status says;
  too_long = too_long_comes r status says;
  read_fault = read_fault_comes r status says;
  write_fault = write_fault_comes r status says;
}
