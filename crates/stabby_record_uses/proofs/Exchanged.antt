-- A message that was written under one schema and read under another.
use Rattle.std.proofs.Common.{◌≡◌, ◌↔◌, ℕ, Result, Ok, Err, IsErrOf, Bool, true, false, Option, Some, None, List, refl, sym, ◌∙◌, ap}
use Rattle.stabby_record.specs.Shape.{Shape}
use Rattle.stabby_record.specs.Limits.{IsSchema}
use Rattle.stabby_record.specs.Fits.{FitsSchema}
use Rattle.stabby_record.specs.Message.{body, message}
use Rattle.stabby_record.specs.Misread.{misread, cause_of}
use Rattle.stabby_record.specs.Equality.{shape_eq, shape_decides}
use Rattle.stabby_record.specs.declared.value.Value.{Value}
use Rattle.stabby_record.specs.declared.value.Value.TheVariants.{Number, Record}
use Rattle.stabby_record.specs.declared.writing.RecordWriteFault.{RecordWriteFault}
use Rattle.stabby_record.specs.declared.writing.RecordWriteFault.TheVariants as write
use Rattle.stabby_record.specs.declared.reading.RecordFault.{RecordFault}
use Rattle.stabby_record.specs.declared.reading.RecordFault.TheVariants.{Differs, Truncated, Padding, Trailing, Memory}
use Rattle.stabby_record.proofs.Spelling.{heads_apart}
use Rattle.stabby_record.proofs.Again.{message_differs, nothing_misread}

-- what a write tells of the value's shape
abbrev pub told_fault : RecordWriteFault → Option ℕ
told_fault (write.Shape at) = Some at
told_fault write.Memory = None

abbrev pub told : {T : Type 0} → Result T RecordWriteFault → Option ℕ
told (Ok bytes) = None
told (Err fault) = told_fault fault

pub misfit_told : {T : Type 0} (r : Result T RecordWriteFault) (m : Option ℕ) → ((at : ℕ) → IsErrOf r (write.Shape at) ↔ (m ≡ Some at)) → m ≡ told r
misfit_told (Ok bytes) None h = refl
misfit_told (Ok bytes) (Some at) h = let e = (h at).1 refl in cc
misfit_told (Err (write.Shape at)) m h = (h at).0 refl
misfit_told (Err write.Memory) None h = refl
misfit_told (Err write.Memory) (Some at) h = let e = (h at).1 refl in cc

-- a message of both schemas is of one
pub one_schema : (a b : Shape) (v w : Value) → IsSchema a → IsSchema b → FitsSchema a v → FitsSchema b w → message a v ≡ message b w → a ≡ b
one_schema a b (Number n) w p q f g e = absurd f
one_schema a b (Record v) (Number n) p q f g e = absurd g
one_schema a b (Record v) (Record w) p q f g e = (heads_apart a b (body a.fields v) (body b.fields w) p q e).0

by_schema : (a b : Shape) (v : Value) (fault : RecordFault) (t : Bool) → shape_eq a b ≡ t → IsSchema a → IsSchema b → FitsSchema a v
    → misread b (message a v) ≡ Some fault → (at : ℕ) × (fault ≡ Differs at)
by_schema a b v fault true e p q f m =
    let same = (shape_decides a b).0 e in
    let n = nothing_misread a v (message a v) f refl in
    let none : misread b (message a v) ≡ None = ap (λ (s : Shape). misread s (message a v)) (sym same) ∙ n in
    cc
by_schema a b v fault false e p q f m =
    let d = message_differs a b v p q (λ same. let t = (shape_decides a b).1 same in cc) f in
    let here = d.1 in
    (d.0, cc)

-- a message is refused by its head alone
pub only_differs : (a b : Shape) (v : Value) (fault : RecordFault) → IsSchema a → IsSchema b → FitsSchema a v
    → misread b (message a v) ≡ Some fault → (at : ℕ) × (fault ≡ Differs at)
only_differs a b v fault p q f m = by_schema a b v fault (shape_eq a b) refl p q f m

-- a fault of the body
abbrev pub IsOfBody : RecordFault → Type 0
IsOfBody (Differs at) = ⊥
IsOfBody (Truncated at) = Unit {0}
IsOfBody (Padding at) = Unit {0}
IsOfBody (Trailing at) = Unit {0}
IsOfBody Memory = ⊥

pub never_of_body : (a b : Shape) (v : Value) (bytes : List ℕ) (fault : RecordFault) → IsSchema a → IsSchema b → FitsSchema a v → bytes ≡ message a v
    → misread b bytes ≡ cause_of {V = Value} (Err fault) → IsOfBody fault → ⊥
never_of_body a b v bytes (Differs at) p q f is m o = o
never_of_body a b v bytes Memory p q f is m o = o
never_of_body a b v bytes (Truncated at) p q f is m o =
    let d = only_differs a b v (Truncated at) p q f (sym (ap (misread b) is) ∙ m) in let e = d.1 in cc
never_of_body a b v bytes (Padding at) p q f is m o =
    let d = only_differs a b v (Padding at) p q f (sym (ap (misread b) is) ∙ m) in let e = d.1 in cc
never_of_body a b v bytes (Trailing at) p q f is m o =
    let d = only_differs a b v (Trailing at) p q f (sym (ap (misread b) is) ∙ m) in let e = d.1 in cc
