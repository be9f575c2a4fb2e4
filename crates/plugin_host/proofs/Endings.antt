-- From what a status says of its run to when each status comes.
use Rattle.std.proofs.Common.{◌≡◌, ◌≢◌, ℕ, ◌<◌, ◌≤◌, List, [], ◌∷◌, ◌++◌, length, sym, ◌∙◌, subst, arith, refl, ◌⊎◌, inl, inr, ap}
use Rattle.std.specs.List.{AllZip}
use Rattle.stabby_tables.specs.Pieces.{lines_of}
use Rattle.stabby_tables.proofs.Zips.{zip_at}
use Rattle.stabby_intern.specs.Runs.{Device, GaveAll, NoFault, ReadToEnd}
use Rattle.stabby_intern.proofs.Clean.{read_all, never_long}
use Rattle.plugin_host.specs.Lines.{IsLineOf, IsNoCall}
use Rattle.plugin_host.specs.declared.script.Call.{Call}
use Rattle.plugin_host.specs.declared.status.Status.{Status}
use Rattle.plugin_host.specs.declared.status.Status.TheVariants.{Ok, Memory, Usage, BadLine, TooLong, ReadFault, WriteFault}
use Rattle.plugin_host.specs.Runs.{Run, IsFirstBad, UsageRun, Says, ToldRun, CleanRun, CleanBadRun, CleanLongRun, Comes}

input_is : (r : Run) (bytes given : List ℕ) → ToldRun r bytes → GaveAll r.source given → given ≡ bytes
input_is r bytes given input read = read_all r.source.told r.source.told_after bytes given (ToldRun.told input) (ToldRun.still_told input) (ReadToEnd.gave read) (ReadToEnd.at_end read)

lines_are : (r : Run) (bytes given : List ℕ) → ToldRun r bytes → GaveAll r.source given → lines_of given ≡ lines_of bytes
lines_are r bytes given input read = ap lines_of (input_is r bytes given input read)

-- ---- lines
-- lines that are all calls have none that isn't
never_bad : (lines front back : List (List ℕ)) (line : List ℕ) (cs : List Call) → AllZip IsLineOf lines cs → lines ≡ front ++ line ∷ back → IsNoCall line → ⊥
never_bad lines front back line cs are split bad =
    let one = zip_at IsLineOf front line back cs (subst (λ (l : List (List ℕ)). AllZip IsLineOf l cs) split are) in
    bad one.0 one.1

head_same : (x y : List ℕ) (xs ys : List (List ℕ)) → x ∷ xs ≡ y ∷ ys → x ≡ y
head_same x y xs ys e = cc

tail_same : (x y : List ℕ) (xs ys : List (List ℕ)) → x ∷ xs ≡ y ∷ ys → xs ≡ ys
tail_same x y xs ys e = cc

-- the first line that is no call stands at one place
first_bad : (front front' back back' : List (List ℕ)) (line line' : List ℕ) (cs cs' : List Call) → front ++ line ∷ back ≡ front' ++ line' ∷ back' → AllZip IsLineOf front cs → AllZip IsLineOf front' cs' → IsNoCall line → IsNoCall line' → length front ≡ length front'
first_bad [] [] back back' line line' cs cs' e are are' bad bad' = refl
first_bad [] (x ∷ front') back back' line line' cs [] e are are' bad bad' = absurd are'
first_bad [] (x ∷ front') back back' line line' cs (c ∷ cs') e are are' bad bad' = absurd (bad c (subst (λ (l : List ℕ). IsLineOf l c) (sym (head_same line x back (front' ++ line' ∷ back') e)) are'.0))
first_bad (x ∷ front) [] back back' line line' [] cs' e are are' bad bad' = absurd are
first_bad (x ∷ front) [] back back' line line' (c ∷ cs) cs' e are are' bad bad' = absurd (bad' c (subst (λ (l : List ℕ). IsLineOf l c) (head_same x line' (front ++ line ∷ back) back' e) are.0))
first_bad (x ∷ front) (y ∷ front') back back' line line' [] cs' e are are' bad bad' = absurd are
first_bad (x ∷ front) (y ∷ front') back back' line line' (c ∷ cs) [] e are are' bad bad' = absurd are'
first_bad (x ∷ front) (y ∷ front') back back' line line' (c ∷ cs) (d ∷ cs') e are are' bad bad' =
    let more = first_bad front front' back back' line line' cs cs' (tail_same x y (front ++ line ∷ back) (front' ++ line' ∷ back') e) are.1 are'.1 bad bad' in omega (arith, more)

-- the first bad line of equal texts is one
same_bad : (lines lines' : List (List ℕ)) (k k' : ℕ) → lines ≡ lines' → IsFirstBad lines k → IsFirstBad lines' k' → k ≡ k'
same_bad lines lines' k k' e a b =
    let same : a.front ++ a.line ∷ a.back ≡ b.front ++ b.line ∷ b.back = sym a.split ∙ (e ∙ b.split) in
    let lengths = first_bad a.front b.front a.back b.back a.line b.line a.calls b.calls same a.are b.are a.bad b.bad in
    omega (arith, lengths, a.place, b.place)

-- ---- devices
rose_not : (device : Device) → NoFault device → device.faults < device.faults_after → ⊥
rose_not device same rose = absurd (omega (arith, same, rose))

not_long : (r : Run) (clean : CleanLongRun r) (given : List ℕ) → GaveAll r.source given → ⊥
not_long r clean given read =
    let same : length given ≡ length (CleanLongRun.bytes clean) = ap length (input_is r (CleanLongRun.bytes clean) given (CleanLongRun.input clean) read) in
    let few : length given ≤ 16777216 = ReadToEnd.fits read in
    let many : 16777216 < length (CleanLongRun.bytes clean) = CleanLongRun.too_long clean in
    absurd (omega (arith, same, few, many))

no_usage : (r : Run) (bytes : List ℕ) → ToldRun r bytes → UsageRun r → ⊥
no_usage r bytes input usage = UsageRun.has_words usage (ToldRun.no_words input)

-- ---- by status
ok_comes : (r : Run) (status : Status) → Says r status → CleanRun r → (status ≡ Ok) ⊎ (status ≡ Memory)
ok_comes r Ok says clean = inl refl
ok_comes r Memory says clean = inr refl
ok_comes r Usage says clean = absurd (no_usage r clean.bytes clean.input says)
ok_comes r (BadLine line) says clean =
    let first = says.first in
    absurd (never_bad (lines_of clean.bytes) first.front first.back first.line clean.calls clean.are (sym (lines_are r clean.bytes says.bytes clean.input says.read) ∙ first.split) first.bad)
ok_comes r TooLong says clean = absurd (never_long r.source.told r.source.told_after clean.bytes (ToldRun.told clean.input) (ToldRun.still_told clean.input) clean.fits says.too_long)
ok_comes r ReadFault says clean = absurd (ToldRun.no_read_fault clean.input says.failed)
ok_comes r WriteFault says clean = absurd (clean.no_write_fault says.failed)

usage_comes : (r : Run) (status : Status) → Says r status → r.words ≢ [] → status ≡ Usage
usage_comes r Ok says some = absurd (some says.no_words)
usage_comes r Memory says some = absurd (some says.no_words)
usage_comes r Usage says some = refl
usage_comes r (BadLine line) says some = absurd (some says.no_words)
usage_comes r TooLong says some = absurd (some says.no_words)
usage_comes r ReadFault says some = absurd (some says.no_words)
usage_comes r WriteFault says some = absurd (some says.no_words)

bad_line_comes : (r : Run) (status : Status) → Says r status → (line : ℕ) → CleanBadRun r line → (status ≡ BadLine line) ⊎ (status ≡ Memory)
bad_line_comes r Ok says line clean =
    let first = clean.first in
    absurd (never_bad (lines_of says.bytes) first.front first.back first.line says.plays.calls says.plays.are (lines_are r clean.bytes says.bytes clean.input says.read ∙ first.split) first.bad)
bad_line_comes r Memory says line clean = inr refl
bad_line_comes r Usage says line clean = absurd (no_usage r clean.bytes clean.input says)
bad_line_comes r (BadLine found) says line clean = inl (ap BadLine (same_bad (lines_of says.bytes) (lines_of clean.bytes) found line (lines_are r clean.bytes says.bytes clean.input says.read) says.first clean.first))
bad_line_comes r TooLong says line clean = absurd (never_long r.source.told r.source.told_after clean.bytes (ToldRun.told clean.input) (ToldRun.still_told clean.input) clean.fits says.too_long)
bad_line_comes r ReadFault says line clean = absurd (ToldRun.no_read_fault clean.input says.failed)
bad_line_comes r WriteFault says line clean = absurd (clean.no_write_fault says.failed)

too_long_comes : (r : Run) (status : Status) → Says r status → CleanLongRun r → (status ≡ TooLong) ⊎ (status ≡ Memory)
too_long_comes r Ok says clean = absurd (not_long r clean says.bytes says.read)
too_long_comes r Memory says clean = inr refl
too_long_comes r Usage says clean = absurd (no_usage r clean.bytes clean.input says)
too_long_comes r (BadLine line) says clean = absurd (not_long r clean says.bytes says.read)
too_long_comes r TooLong says clean = inl refl
too_long_comes r ReadFault says clean = absurd (ToldRun.no_read_fault clean.input says.failed)
too_long_comes r WriteFault says clean = absurd (not_long r clean says.bytes says.read)

read_fault_comes : (r : Run) (status : Status) → Says r status → r.source.faults < r.source.faults_after → status ≡ ReadFault
read_fault_comes r Ok says rose = absurd (rose_not r.source says.no_read_failed rose)
read_fault_comes r Memory says rose = absurd (rose_not r.source says.no_read_failed rose)
read_fault_comes r Usage says rose = absurd (rose_not r.source says.no_read_failed rose)
read_fault_comes r (BadLine line) says rose = absurd (rose_not r.source says.no_read_failed rose)
read_fault_comes r TooLong says rose = absurd (rose_not r.source says.no_read_failed rose)
read_fault_comes r ReadFault says rose = refl
read_fault_comes r WriteFault says rose = absurd (rose_not r.source says.no_read_failed rose)

write_fault_comes : (r : Run) (status : Status) → Says r status → r.out.faults < r.out.faults_after → status ≡ WriteFault
write_fault_comes r Ok says rose = absurd (rose_not r.out says.no_write_failed rose)
write_fault_comes r Memory says rose = absurd (rose_not r.out says.no_write_failed rose)
write_fault_comes r Usage says rose = absurd (rose_not r.out says.no_write_failed rose)
write_fault_comes r (BadLine line) says rose = absurd (rose_not r.out says.no_write_failed rose)
write_fault_comes r TooLong says rose = absurd (rose_not r.out says.no_write_failed rose)
write_fault_comes r ReadFault says rose = absurd (rose_not r.out says.no_write_failed rose)
write_fault_comes r WriteFault says rose = refl

pub comes : (r : Run) (status : Status) → Says r status → Comes r status
comes r status says = record {
  ok = ok_comes r status says;
  usage = usage_comes r status says;
  bad_line = bad_line_comes r status says;
  too_long = too_long_comes r status says;
  read_fault = read_fault_comes r status says;
  write_fault = write_fault_comes r status says;
}
