-- What speaks against bytes speaks against no message.
use Rattle.std.proofs.Common.{◌≡◌, ℕ, List, [], ◌++◌, sym, ◌∙◌, ap, subst, Option, None, Some, IsSome, IfSome, append-nil}
use mathlib.Core.Bool.{false≢true}
use Rattle.stabby_record.specs.Shape.{Shape}
use Rattle.stabby_record.specs.Message.{body}
use Rattle.stabby_record.specs.Misread.{misread}
use Rattle.stabby_record.specs.declared.reading.RecordFault.{RecordFault}
use Rattle.stabby_record.specs.declared.value.Value.TheVariants as value
use Rattle.stabby_record.proofs.Again.{nothing_misread}
use Rattle.stabby_record.proofs.Spelling.{heads_apart}
use Rattle.stabby_intern.specs.Devices.{Gave}
use Rattle.stabby_intern.specs.Runs.{ReadToEnd}
use Rattle.record_show.specs.Runs.{Shows, Misread, HasCause}
use Rattle.record_show.specs.declared.status.Cause.{Cause}
use Rattle.record_show.specs.declared.status.Cause.TheVariants.{NotRecord, Truncated, Padding, Trailing}

-- what was read to the end is all that was told before
read_all : (bytes : List ℕ) (after : Option (List ℕ)) (given : List ℕ) → IsSome after → Gave (Some bytes) after given → IfSome after (λ left. left ≡ []) → given ≡ bytes
read_all bytes None given some gave at_end = absurd (false≢true some)
read_all bytes (Some ys) given some gave at_end = sym (gave ∙ ap (λ (l : List ℕ). given ++ l) at_end ∙ append-nil given)

no_misread : (bytes text : List ℕ) (fault : RecordFault) → Shows bytes text → Misread bytes fault → ⊥
no_misread bytes text fault s m =
    let t = s.schema in
    let begun = m.begins in
    let same : m.schema ≡ t = (heads_apart m.schema t begun.0 (body t.fields s.values) m.is s.is (sym begun.1 ∙ s.message)).0 in
    let none : misread t bytes ≡ None = nothing_misread t (value.Record s.values) bytes s.fits s.message in
    let some : misread t bytes ≡ Some fault = ap (λ (u : Shape). misread u bytes) (sym same) ∙ m.because in
    cc

no_cause : (bytes text : List ℕ) (cause : Cause) → Shows bytes text → HasCause bytes cause → ⊥
no_cause bytes text NotRecord s h = h s.schema s.is (body s.schema.fields s.values, s.message)
no_cause bytes text (Truncated at) s h = no_misread bytes text _ s h
no_cause bytes text (Padding at) s h = no_misread bytes text _ s h
no_cause bytes text (Trailing at) s h = no_misread bytes text _ s h

-- over a told message no cause is found
pub never_caused : (told after : Option (List ℕ)) (bytes text given : List ℕ) (cause : Cause) → told ≡ Some bytes → IsSome after → ReadToEnd told after given
    → Shows bytes text → HasCause given cause → ⊥
never_caused told after bytes text given cause is some read shows has =
    let same : given ≡ bytes = read_all bytes after given some (subst (λ (o : Option (List ℕ)). Gave o after given) is read.gave) read.at_end in
    no_cause bytes text cause shows (subst (λ (l : List ℕ). HasCause l cause) same has)
