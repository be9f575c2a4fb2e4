-- A message is read as the value that it was written from.
use Rattle.std.proofs.Common.{◌≡◌, ◌+◌, ◌-◌, ◌^◌, ◌≤◌, ◌<◌, ℕ, zero, suc, Bool, false, List, [], ◌∷◌, ◌++◌, length, refl, arith, ap, sym, ◌∙◌, Option, Some, None, take, drop, replicate, ltb, if◌then◌else◌, length-append, subst, append_assoc}
use Rattle.std.proofs.lemmas.Nat.{from_le_bytes-to_le_bytes_2, from_le_bytes-to_le_bytes_4, from_le_bytes-to_le_bytes_8}
use Rattle.std.proofs.Math.Seq.{drop-append_seam, take-append_seam}
use Rattle.std.proofs.lemmas.Grind.{common_steps}
use Rattle.std.proofs.lemmas.Bool.Decides.{nat_tests}
use Rattle.std.proofs.lemmas.Bool.{cases_lt}
use Rattle.std.proofs.Common.{⊎_elim}
use Rattle.stabby_layout.specs.Layouts.{next_multiple}
use Rattle.stabby_record.specs.Shape.{Fields, end, number, nested, Shape, Number, one, two, four, eight, bytes_of}
use Rattle.stabby_record.specs.Layouts.{fields_align, fields_size, ends}
use Rattle.stabby_record.specs.Limits.{IsSchema}
use Rattle.stabby_record.specs.Values.{Values, none_left, number_then, record_then}
use Rattle.stabby_record.specs.Fits.{Fits, FitsSchema, or_else}
use Rattle.stabby_record.specs.Message.{head, body, laid, number_bytes, message}
use Rattle.stabby_record.specs.Reading.{first_differing, first_nonzero, misfilled, misfilled_body, decoded, number_of}
use Rattle.stabby_record.specs.Misread.{misread, or_fault}
use Rattle.stabby_record.specs.declared.value.Value.{Value}
use Rattle.stabby_record.specs.declared.value.Value.TheVariants as value
use Rattle.stabby_record.specs.declared.reading.RecordFault.{RecordFault}
use Rattle.stabby_record.specs.declared.reading.RecordFault.TheVariants.{Differs, Truncated, Padding, Trailing}
use Rattle.stabby_record.proofs.Bounds.{bytes_bounds, align_bounds, next_bounds, size_bounds}
use Rattle.stabby_record.proofs.Decoded.{same_front}
use Rattle.stabby_record.proofs.Spelling.{heads_apart}

take_front : (u v : List ℕ) (n : ℕ) → length u ≡ n → take n (u ++ v) ≡ u
take_front u v n p = subst (λ (k : ℕ). take k (u ++ v) ≡ u) p (take-append_seam u v)

drop_front : (u v : List ℕ) (n : ℕ) → length u ≡ n → drop n (u ++ v) ≡ v
drop_front u v n p = subst (λ (k : ℕ). drop k (u ++ v) ≡ v) p (drop-append_seam u v)

long_zeros : (n : ℕ) → length {A = ℕ} (replicate n 0) ≡ n
long_zeros n = grind (arith, common_steps)

all_zero : (n at : ℕ) → first_nonzero (replicate n 0) at ≡ None
all_zero zero at = refl
all_zero (suc n) at = all_zero n (at + 1)

long_number : (k : Number) (v : ℕ) → length (number_bytes k v) ≡ bytes_of k
long_number one v = refl
long_number two v = refl
long_number four v = refl
long_number eight v = refl

number_again : (k : Number) (v : ℕ) → v < 256 ^ bytes_of k → number_of k (number_bytes k v) ≡ v
number_again one v p = refl
number_again two v p = from_le_bytes-to_le_bytes_2 v p
number_again four v p = from_le_bytes-to_le_bytes_4 v p
number_again eight v p = from_le_bytes-to_le_bytes_8 v p

none_both : (a b : Option ℕ) → a ≡ None → b ≡ None → or_else a b ≡ None
none_both a b p q = λ i. or_else (p i) (q i)

pub laid_read : (fs : Fields) (vs : Values) (at place : ℕ) → Fits fs vs
    → (decoded fs (laid fs vs at) at ≡ vs) × (misfilled fs (laid fs vs at) at place ≡ None) × (length (laid fs vs at) + at ≡ ends fs at)
laid_read end none_left at place f = (refl, refl, omega arith)
laid_read end (number_then v vs) at place f = absurd f
laid_read end (record_then w vs) at place f = absurd f
laid_read (number m k rest) none_left at place f = absurd f
laid_read (number m k rest) (record_then w vs) at place f = absurd f
laid_read (number m k rest) (number_then v vs) at place f =
    let b = bytes_of k in
    let start = next_multiple b at in
    let p = start - at in
    let pad : List ℕ = replicate p 0 in
    let nb = number_bytes k v in
    let tail = laid rest vs (start + b) in
    let l = pad ++ (nb ++ tail) in
    let h = laid_read rest vs (start + b) (place + p + b) f.1 in
    let bb = bytes_bounds k in
    let sb = next_bounds b at bb.0 in
    let s0 = sb.0 in
    let lp = long_zeros p in
    let ln = long_number k v in
    let t1 : take p l ≡ pad = take_front pad (nb ++ tail) p lp in
    let d1 : drop p l ≡ nb ++ tail = drop_front pad (nb ++ tail) p lp in
    let t2 : take b (drop p l) ≡ nb = ap (take b) d1 ∙ take_front nb tail b ln in
    let d2 : drop b (drop p l) ≡ tail = ap (drop b) d1 ∙ drop_front nb tail b ln in
    let a1 = length-append pad (nb ++ tail) in
    let a2 = length-append nb tail in
    let h2 = h.2 in
    let n1 : number_of k (take b (drop p l)) ≡ v = ap (number_of k) t2 ∙ number_again k v f.0 in
    let n2 : decoded rest (drop b (drop p l)) (start + b) ≡ vs = ap (λ (x : List ℕ). decoded rest x (start + b)) d2 ∙ h.0 in
    let m1 : first_nonzero (take p l) place ≡ None = ap (λ (x : List ℕ). first_nonzero x place) t1 ∙ all_zero p place in
    let m2 : misfilled rest (drop b (drop p l)) (start + b) (place + p + b) ≡ None = ap (λ (x : List ℕ). misfilled rest x (start + b) (place + p + b)) d2 ∙ h.1 in
    (λ i. number_then (n1 i) (n2 i), none_both _ _ m1 m2, omega arith)
laid_read (nested m r j inner rest) none_left at place f = absurd f
laid_read (nested m r j inner rest) (number_then v vs) at place f = absurd f
laid_read (nested m r j inner rest) (record_then w vs) at place f =
    let a = fields_align inner in
    let b = fields_size inner in
    let x = ends inner 0 in
    let start = next_multiple a at in
    let p = start - at in
    let pad : List ℕ = replicate p 0 in
    let core = laid inner w 0 in
    let back : List ℕ = replicate (b - x) 0 in
    let own = core ++ back in
    let tail = laid rest vs (start + b) in
    let l = pad ++ (own ++ tail) in
    let g = laid_read inner w 0 (place + p) f.0 in
    let h = laid_read rest vs (start + b) (place + p + b) f.1 in
    let ab = align_bounds inner in
    let nb = next_bounds a at ab.0 in
    let n0 = nb.0 in
    let zb = size_bounds inner in
    let z0 = zb.0 in
    let g2 = g.2 in
    let h2 = h.2 in
    let lp = long_zeros p in
    let lb = long_zeros (b - x) in
    let lc : length core ≡ x = omega arith in
    let ao = length-append core back in
    let lo : length own ≡ b = omega arith in
    let t1 : take p l ≡ pad = take_front pad (own ++ tail) p lp in
    let d1 : drop p l ≡ own ++ tail = drop_front pad (own ++ tail) p lp in
    let t2 : take b (drop p l) ≡ own = ap (take b) d1 ∙ take_front own tail b lo in
    let d2 : drop b (drop p l) ≡ tail = ap (drop b) d1 ∙ drop_front own tail b lo in
    let t3 : take x (take b (drop p l)) ≡ core = ap (take x) t2 ∙ take_front core back x lc in
    let d3 : drop x (take b (drop p l)) ≡ back = ap (drop x) t2 ∙ drop_front core back x lc in
    let a1 = length-append pad (own ++ tail) in
    let a2 = length-append own tail in
    let n1 : decoded inner (take x (take b (drop p l))) 0 ≡ w = ap (λ (y : List ℕ). decoded inner y 0) t3 ∙ g.0 in
    let n2 : decoded rest (drop b (drop p l)) (start + b) ≡ vs = ap (λ (y : List ℕ). decoded rest y (start + b)) d2 ∙ h.0 in
    let m1 : first_nonzero (take p l) place ≡ None = ap (λ (y : List ℕ). first_nonzero y place) t1 ∙ all_zero p place in
    let m2 : misfilled inner (take x (take b (drop p l))) 0 (place + p) ≡ None = ap (λ (y : List ℕ). misfilled inner y 0 (place + p)) t3 ∙ g.1 in
    let m3 : first_nonzero (drop x (take b (drop p l))) (place + p + x) ≡ None = ap (λ (y : List ℕ). first_nonzero y (place + p + x)) d3 ∙ all_zero (b - x) (place + p + x) in
    let m4 : misfilled rest (drop b (drop p l)) (start + b) (place + p + b) ≡ None = ap (λ (y : List ℕ). misfilled rest y (start + b) (place + p + b)) d2 ∙ h.1 in
    (λ i. record_then (n1 i) (n2 i), none_both _ _ m1 (none_both _ _ m2 (none_both _ _ m3 m4)), omega arith)

pub no_difference : (hs y : List ℕ) (at : ℕ) → first_differing hs (hs ++ y) at ≡ None
no_difference [] y at = refl
no_difference (h ∷ hs) y at = let k = no_difference hs y (at + 1) in grind (arith, nat_tests, k)

no_fault : (a : Option ℕ) (f : ℕ → RecordFault) (o : Option RecordFault) → a ≡ None → o ≡ None → or_fault a f o ≡ None
no_fault a f o p q = λ i. or_fault (p i) f (q i)

no_guard : (b : Bool) (x : RecordFault) (o : Option RecordFault) → b ≡ false → o ≡ None → (if b then Some x else o) ≡ None
no_guard b x o p q = λ i. if p i then Some x else q i

below_not : (a b : ℕ) → b ≤ a → ltb a b ≡ false
below_not a b p = grind (arith, nat_tests)

whole_body : (fs : Fields) (w : Values) → Fits fs w
    → (length (body fs w) ≡ fields_size fs) × (take (ends fs 0) (body fs w) ≡ laid fs w 0) × (drop (ends fs 0) (body fs w) ≡ replicate (fields_size fs - ends fs 0) 0)
whole_body fs w f =
    let g = (laid_read fs w 0 0 f).2 in
    let zb = size_bounds fs in
    let z0 = zb.0 in
    let lb = long_zeros (fields_size fs - ends fs 0) in
    let lc : length (laid fs w 0) ≡ ends fs 0 = omega arith in
    let ao = length-append (laid fs w 0) (replicate (fields_size fs - ends fs 0) 0) in (
      omega arith,
      take_front (laid fs w 0) (replicate (fields_size fs - ends fs 0) 0) (ends fs 0) lc,
      drop_front (laid fs w 0) (replicate (fields_size fs - ends fs 0) 0) (ends fs 0) lc,
    )

pub body_again : (s : Shape) (w : Values) → Fits s.fields w → decoded s.fields (take (ends s.fields 0) (drop (length (head s)) (head s ++ body s.fields w))) 0 ≡ w
body_again s w f =
    let b = whole_body s.fields w f in
    ap (λ (x : List ℕ). decoded s.fields (take (ends s.fields 0) x) 0) (drop-append_seam (head s) (body s.fields w))
    ∙ ap (λ (x : List ℕ). decoded s.fields x 0) b.1 ∙ (laid_read s.fields w 0 0 f).0

body_read : (s : Shape) (w : Values) → Fits s.fields w → misread s (head s ++ body s.fields w) ≡ None
body_read s w f =
    let fs = s.fields in
    let n = length (head s) in
    let z = fields_size fs in
    let x = ends fs 0 in
    let bytes = head s ++ body fs w in
    let rest = drop n bytes in
    let b = whole_body fs w f in
    let b0 = b.0 in
    let a = length-append (head s) (body fs w) in
    let r : rest ≡ body fs w = drop-append_seam (head s) (body fs w) in
    let lr : length rest ≡ z = ap length r ∙ b.0 in
    let t : take z rest ≡ body fs w = (let e : take z rest ≡ rest = grind (arith, common_steps) in e) ∙ r in
    let g = (laid_read fs w 0 n f).1 in
    let m1 : misfilled fs (take x (take z rest)) 0 n ≡ None = ap (λ (y : List ℕ). misfilled fs (take x y) 0 n) t ∙ ap (λ (y : List ℕ). misfilled fs y 0 n) b.1 ∙ g in
    let m2 : first_nonzero (drop x (take z rest)) (n + x) ≡ None =
    ap (λ (y : List ℕ). first_nonzero (drop x y) (n + x)) t ∙ ap (λ (y : List ℕ). first_nonzero y (n + x)) b.2 ∙ all_zero (z - x) (n + x) in
    let low : ltb (length bytes) (n + z) ≡ false = below_not (length bytes) (n + z) (omega arith) in
    let top : ltb (n + z) (length bytes) ≡ false = below_not (n + z) (length bytes) (omega arith) in
    no_fault (first_differing (head s) bytes 0) Differs _ (no_difference (head s) (body fs w) 0)
    (no_guard (ltb (length bytes) (n + z)) (Truncated (length bytes)) _ low
    (no_fault (misfilled_body fs (take z rest) n) Padding _ (none_both _ _ m1 m2) (no_guard (ltb (n + z) (length bytes)) (Trailing (n + z)) None top refl)))

-- nothing speaks against a message
pub nothing_misread : (s : Shape) (v : Value) (bytes : List ℕ) → FitsSchema s v → bytes ≡ message s v → misread s bytes ≡ None
nothing_misread s (value.Number n) bytes f e = absurd f
nothing_misread s (value.Record w) bytes f e = ap (misread s) e ∙ body_read s w f

-- and what is decoded is the value
pub read_again : (s : Shape) (bytes : List ℕ) (w : Values) → w ≡ decoded s.fields (take (ends s.fields 0) (drop (length (head s)) bytes)) 0
    → (v : Value) → FitsSchema s v → bytes ≡ message s v → value.Record w ≡ v
read_again s bytes w d (value.Number n) f e = absurd f
read_again s bytes w d (value.Record u) f e =
    ap value.Record (d ∙ ap (λ (x : List ℕ). decoded s.fields (take (ends s.fields 0) (drop (length (head s)) x)) 0) e ∙ body_again s u f)

-- bytes that are a front of a head
short_front : (hs bs : List ℕ) (at : ℕ) → length bs ≤ length hs → first_differing hs bs at ≡ None → bs ++ drop (length bs) hs ≡ hs
short_front hs [] at p e = grind (arith, common_steps)
short_front [] (b ∷ bs) at p e = absurd (omega arith)
short_front (h ∷ hs) (b ∷ bs) at p e =
    let z : h ≡ b = grind (arith, nat_tests) in
    let n : first_differing hs bs (at + 1) ≡ None = grind (arith, nat_tests) in
    let k = short_front hs bs (at + 1) (omega arith) n in
    (λ i. sym z i ∷ k i)

some_difference : (o : Option ℕ) (f : ℕ → RecordFault) (r : Option RecordFault) → (o ≡ None → ⊥) → (at : ℕ) × (or_fault o f r ≡ Some (f at))
some_difference None f r h = absurd (h refl)
some_difference (Some at) f r h = (at, refl)

nothing_after : (l : List ℕ) → l ++ [] ≡ l
nothing_after l = grind (arith, common_steps)

-- a message of one schema differs from every other schema's head
pub other_differs : (a b : Shape) (bytes rest : List ℕ) → IsSchema a → IsSchema b → (a ≡ b → ⊥) → bytes ≡ head a ++ rest
    → (at : ℕ) × (misread b bytes ≡ Some (Differs at))
other_differs a b bytes rest p q apart e =
    some_difference (first_differing (head b) bytes 0) Differs _
    (λ none. ⊎_elim
    (λ lt. apart ((heads_apart a b (rest ++ drop (length bytes) (head b)) [] p q
    (sym (append_assoc (head a) rest (drop (length bytes) (head b))) ∙ ap (λ (x : List ℕ). x ++ drop (length bytes) (head b)) (sym e)
    ∙ short_front (head b) bytes 0 (omega (arith, lt)) none ∙ sym (nothing_after (head b)))).0))
    (λ le. apart ((heads_apart a b rest (drop (length (head b)) bytes) p q (sym e ∙ sym (same_front (head b) bytes 0 le none))).0))
    (cases_lt (length bytes) (length (head b))))

pub message_differs : (a b : Shape) (v : Value) → IsSchema a → IsSchema b → (a ≡ b → ⊥) → FitsSchema a v → (at : ℕ) × (misread b (message a v) ≡ Some (Differs at))
message_differs a b (value.Number n) p q apart f = absurd f
message_differs a b (value.Record w) p q apart f = other_differs a b (head a ++ body a.fields w) (body a.fields w) p q apart refl
