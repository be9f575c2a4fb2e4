-- What was read of a schema is its spelling, and a message begins with one schema's head alone.
use Rattle.std.proofs.Common.{◌≡◌, ℕ, List, [], ◌∷◌, ◌++◌, length, ap, sym, ◌∙◌, append_assoc, Result, Ok, Err, IfOk, IsErrOf, MatchResult, refl, Bool, true, false, Option, Some, None, ◌+◌, take, drop, ltb, if◌then◌else◌}
use Rattle.std.specs.Int.{to_le_bytes, w64}
use Rattle.stabby_record.specs.Shape.{Shape, count}
use Rattle.stabby_record.specs.Limits.{IsSchema}
use Rattle.stabby_record.specs.Fits.{FitsSchema}
use Rattle.stabby_record.specs.Message.{name_bytes, spelled, spelling, head, body, message}
use Rattle.stabby_record.specs.Read.{fields_of}
use Rattle.stabby_record.specs.Described.{ReadsFields, BeginsWith, NoHeadBegins}
use Rattle.stabby_record.specs.declared.schema.Field.{Field}
use Rattle.stabby_record.specs.declared.value.Value.{Value}
use Rattle.stabby_record.specs.declared.value.Value.TheVariants as value
use Rattle.stabby_record.specs.declared.describing.DescribeFault.{DescribeFault}
use Rattle.stabby_record.specs.declared.describing.DescribeFault.TheVariants.{NotRecord, Memory}
use Rattle.stabby_record.specs.Layouts.{fields_size}
use Rattle.stabby_record.specs.Reading.{first_differing, misfilled_body}
use Rattle.stabby_record.specs.Misread.{misread, or_fault}
use Rattle.stabby_record.specs.declared.reading.RecordFault.TheVariants.{Differs, Truncated, Padding, Trailing}
use Rattle.stabby_record.proofs.Again.{no_difference}
use Rattle.stabby_record.proofs.Bounds.{count_fields}
use Rattle.stabby_record.proofs.Spelling.{heads_apart}

spelling_shape : (s : Shape) (x : List ℕ)
    → spelling s ++ x ≡ name_bytes s.name ++ (to_le_bytes w64 s.id ++ (count s.fields ∷ (spelled s.fields ++ x)))
spelling_shape s x = simp append_assoc

pub spelled_whole : (bytes r1 r2 r3 r4 name : List ℕ) (id many : ℕ) (old now : List Field) (s : Shape)
    → bytes ≡ name_bytes name ++ r1 → r1 ≡ to_le_bytes w64 id ++ r2 → r2 ≡ many ∷ r3 → ReadsFields r3 old now many r4 → old ≡ []
    → s ≡ record { name = name; id = id; fields = fields_of now } → bytes ≡ spelling s ++ r4
spelled_whole bytes r1 r2 r3 r4 name id many old now s e1 e2 e3 r none es =
    let t : Shape = record { name = name; id = id; fields = fields_of now } in
    let same : now ≡ r.fields = r.put ∙ ap (λ (l : List Field). l ++ r.fields) none in
    let n : many ≡ count (fields_of now) = sym r.many ∙ ap (λ (l : List Field). length l) (sym same) ∙ sym (count_fields now) in
    let q : r3 ≡ spelled (fields_of now) ++ r4 = r.spells ∙ ap (λ (l : List Field). spelled (fields_of l) ++ r4) (sym same) in
    let tail : r2 ≡ count (fields_of now) ∷ (spelled (fields_of now) ++ r4) = e3 ∙ (λ i. n i ∷ q i) in
    let mid : r1 ≡ to_le_bytes w64 id ++ (count (fields_of now) ∷ (spelled (fields_of now) ++ r4)) = e2 ∙ ap (λ (x : List ℕ). to_le_bytes w64 id ++ x) tail in
    e1 ∙ ap (λ (x : List ℕ). name_bytes name ++ x) mid ∙ sym (spelling_shape t r4) ∙ ap (λ (u : Shape). spelling u ++ r4) (sym es)

pub same_if_begun : (r : Result Shape DescribeFault) (bytes : List ℕ) → IfOk r (λ x. IsSchema x × BeginsWith bytes x) → (IsErrOf r NotRecord → NoHeadBegins bytes)
    → (s : Shape) (v : Value) → IsSchema s → FitsSchema s v → bytes ≡ message s v → MatchResult r (λ x. x ≡ s) (λ fault. fault ≡ Memory)
same_if_begun (Err Memory) bytes h none s v p f q = refl
same_if_begun (Err NotRecord) bytes h none s (value.Number n) p f q = absurd f
same_if_begun (Err NotRecord) bytes h none s (value.Record w) p f q = absurd (none refl s p (body s.fields w, q))
same_if_begun (Ok x) bytes h none s (value.Number n) p f q = absurd f
same_if_begun (Ok x) bytes h none s (value.Record w) p f q = (heads_apart x s h.1.0 (body s.fields w) h.0 p (sym h.1.1 ∙ q)).0

after_head : (cut long : Bool) (filled : Option ℕ) (n m at : ℕ)
    → (if cut then Some (Truncated n) else or_fault filled Padding (if long then Some (Trailing m) else None)) ≡ Some (Differs at) → ⊥
after_head true long filled n m at e = cc
after_head false long (Some p) n m at e = cc
after_head false true None n m at e = cc
after_head false false None n m at e = cc

-- bytes that begin with the schema's head differ nowhere from it
pub never_differs : (s : Shape) (bytes : List ℕ) (at : ℕ) → BeginsWith bytes s → misread s bytes ≡ Some (Differs at) → ⊥
never_differs s bytes at b e =
    let none : first_differing (head s) bytes 0 ≡ None = ap (λ (l : List ℕ). first_differing (head s) l 0) b.1 ∙ no_difference (head s) b.0 0 in
    let n = length (head s) in
    let z = fields_size s.fields in
    let last = if ltb (n + z) (length bytes) then Some (Trailing (n + z)) else None in
    let filled = misfilled_body s.fields (take z (drop n bytes)) n in
    let after = if ltb (length bytes) (n + z) then Some (Truncated (length bytes)) else or_fault filled Padding last in
    after_head (ltb (length bytes) (n + z)) (ltb (n + z) (length bytes)) filled (length bytes) (n + z) at
    (sym (ap (λ (o : Option ℕ). or_fault o Differs after) none) ∙ e)
