-- How far fields reach, and the head of a list of fields.
use Rattle.std.proofs.Common.{◌≡◌, ◌+◌, ◌-◌, ◌*◌, ◌≤◌, ◌<◌, ◌^◌, ℕ, List, [], ◌∷◌, length, refl, arith, ap, sym, ◌∙◌, take, drop, slice_index_or, max, None, subst, map}
use Rattle.std.proofs.lemmas.Grind.{common_steps}
use Rattle.std.specs.Str.{IsUtf8}
use Rattle.stabby_layout.specs.Layouts.{next_multiple}
use Rattle.stabby_layout.proofs.LayoutLemmas.{next_multiple_least}
use Rattle.stabby_record.specs.Shape.{Fields, end, number, nested, Shape, count, places, leaves, depth, depth_below, Number, one, two, four, eight, bytes_of}
use Rattle.stabby_record.specs.Layouts.{fields_align, fields_size, ends, offset}
use Rattle.stabby_record.specs.Refuse.{first_long_name}
use Rattle.stabby_record.specs.Reported.{reported_fields, report_of}
use Rattle.stabby_layout.specs.declared.layout.Layout.{Layout}
use Rattle.std.proofs.lemmas.Bool.Decides.{nat_tests}
use Rattle.stabby_record.specs.Named.{AreNamed}
use Rattle.stabby_record.specs.Limits.{AreFields, AreTexts, IsSchema}
use Rattle.stabby_record.specs.Kinds.{IsKind}
use Rattle.stabby_record.specs.Read.{fields_of, with_field, kind_layout, kind_id}
use Rattle.stabby_record.specs.declared.schema.Field.{Field}
use Rattle.stabby_record.specs.declared.schema.Kind.{Kind}
use Rattle.stabby_record.specs.declared.schema.Kind.TheVariants as kind

pub bytes_bounds : (k : Number) → (1 ≤ bytes_of k) × (bytes_of k ≤ 8)
bytes_bounds one = (omega arith, omega arith)
bytes_bounds two = (omega arith, omega arith)
bytes_bounds four = (omega arith, omega arith)
bytes_bounds eight = (omega arith, omega arith)

pub align_bounds : (fs : Fields) → (1 ≤ fields_align fs) × (fields_align fs ≤ 8)
align_bounds end = (omega arith, omega arith)
align_bounds (number n k rest) =
    let a = bytes_bounds k in let b = align_bounds rest in
    let c = a.0 in let d = a.1 in let e = b.0 in let f = b.1 in
    (omega arith, omega arith)
align_bounds (nested n r i inner rest) =
    let a = align_bounds inner in let b = align_bounds rest in
    let c = a.0 in let d = a.1 in let e = b.0 in let f = b.1 in
    (omega arith, omega arith)

pub next_bounds : (a n : ℕ) → 1 ≤ a → (n ≤ next_multiple a n) × (next_multiple a n < n + a)
next_bounds a n pos = let k = next_multiple_least a n pos in (k.reaches, k.least)

pub ends_bounds : (fs : Fields) (at : ℕ) → (at ≤ ends fs at) × (ends fs at ≤ at + 15 * places fs)
ends_bounds end at = (omega arith, omega arith)
ends_bounds (number n k rest) at =
    let b = bytes_bounds k in
    let p = next_bounds (bytes_of k) at b.0 in
    let h = ends_bounds rest (next_multiple (bytes_of k) at + bytes_of k) in
    let c = b.1 in let d = p.0 in let e = p.1 in let f = h.0 in let g = h.1 in
    (omega arith, omega arith)
ends_bounds (nested n r i inner rest) at =
    let a = align_bounds inner in
    let b = ends_bounds inner 0 in
    let s = next_bounds (fields_align inner) (ends inner 0) a.0 in
    let p = next_bounds (fields_align inner) at a.0 in
    let h = ends_bounds rest (next_multiple (fields_align inner) at + next_multiple (fields_align inner) (ends inner 0)) in
    let a1 = a.1 in let b1 = b.1 in let s0 = s.0 in let s1 = s.1 in let p0 = p.0 in let p1 = p.1 in let f = h.0 in let g = h.1 in
    (omega arith, omega arith)

pub size_bounds : (fs : Fields) → (ends fs 0 ≤ fields_size fs) × (fields_size fs ≤ 15 * places fs + 7)
size_bounds fs =
    let a = align_bounds fs in
    let b = ends_bounds fs 0 in
    let s = next_bounds (fields_align fs) (ends fs 0) a.0 in
    let a1 = a.1 in let b1 = b.1 in let s0 = s.0 in let s1 = s.1 in
    (omega arith, omega arith)

-- a record has a number in it
pub some_leaf : (fs : Fields) → AreFields fs → 1 ≤ count fs → 1 ≤ leaves fs
some_leaf end w p = absurd (omega arith)
some_leaf (number n k rest) w p = omega arith
some_leaf (nested n r i inner rest) w p = let h = some_leaf inner w.5 w.3 in omega arith

mono : (a b c : ℕ) → a ≤ b → a * c ≤ b * c
mono a b c p = grind arith

pub places_bound : (fs : Fields) → AreFields fs → places fs ≤ depth_below fs * leaves fs + leaves fs
places_bound end w = omega arith
places_bound (number n k rest) w =
    let h = places_bound rest w.1 in
    let e : depth_below rest * (1 + leaves rest) ≡ depth_below rest + depth_below rest * leaves rest = omega arith in
    omega arith
places_bound (nested n r i inner rest) w =
    let h = places_bound inner w.5 in
    let g = places_bound rest w.6 in
    let l = some_leaf inner w.5 w.3 in
    let top = max (1 + depth_below inner) (depth_below rest) in
    let m = mono (1 + depth_below inner) top (leaves inner) (omega arith) in
    let o = mono (depth_below rest) top (leaves rest) (omega arith) in
    let e : top * (leaves inner + leaves rest) ≡ top * leaves inner + top * leaves rest = omega arith in
    let q : (1 + depth_below inner) * leaves inner ≡ leaves inner + depth_below inner * leaves inner = omega arith in
    omega arith

pub few_places : (s : Shape) → IsSchema s → places s.fields ≤ 524280
few_places s w =
    let h = places_bound s.fields w.fields in
    let d = w.depth in let l = w.leaves in
    let m = mono (depth_below s.fields) 7 (leaves s.fields) (omega arith) in
    omega arith

rest_of : {A : Type 0} (x : A) (xs : List A) → take (length (x ∷ xs) - 1) (drop 1 (x ∷ xs)) ≡ xs
rest_of x xs = grind (arith, common_steps)

-- the head and the rest of a list of fields, as a slice pattern leaves them
pub fields_split : (fs : List Field) (f : Field) → 1 ≤ length fs → f ≡ slice_index_or fs 0 f
    → fields_of fs ≡ with_field f.name f.kind (fields_of (take (length fs - 1) (drop 1 fs)))
fields_split [] f p _ = absurd (omega arith)
fields_split (g ∷ gs) f _ e = rw (rest_of g gs) (ap (λ (x : Field). with_field x.name x.kind (fields_of gs)) (sym e))

-- a field behind its padding
pub item_ends : (n : List ℕ) (k : Kind) (rest : Fields) (at : ℕ)
    → ends (with_field n k rest) at ≡ ends rest (next_multiple (kind_layout k).align at + (kind_layout k).size)
item_ends n kind.U8 rest at = refl
item_ends n kind.U16 rest at = refl
item_ends n kind.U32 rest at = refl
item_ends n kind.U64 rest at = refl
item_ends n (kind.Record s) rest at = refl

pub item_align : (n : List ℕ) (k : Kind) (rest : Fields) → fields_align (with_field n k rest) ≡ max (kind_layout k).align (fields_align rest)
item_align n kind.U8 rest = refl
item_align n kind.U16 rest = refl
item_align n kind.U32 rest = refl
item_align n kind.U64 rest = refl
item_align n (kind.Record s) rest = refl

pub kind_align : (k : Kind) → (1 ≤ (kind_layout k).align) × ((kind_layout k).align ≤ 8)
kind_align kind.U8 = (omega arith, omega arith)
kind_align kind.U16 = (omega arith, omega arith)
kind_align kind.U32 = (omega arith, omega arith)
kind_align kind.U64 = (omega arith, omega arith)
kind_align (kind.Record s) = align_bounds s.fields

pub item_room : (n : List ℕ) (k : Kind) (rest : Fields)
    → (kind_layout k).size + 7 + 15 * places rest ≤ 15 * places (with_field n k rest)
item_room n kind.U8 rest = omega arith
item_room n kind.U16 rest = omega arith
item_room n kind.U32 rest = omega arith
item_room n kind.U64 rest = omega arith
item_room n (kind.Record s) rest = let b = size_bounds s.fields in let c = b.1 in omega arith

-- the same, at the head of a list of fields
pub step_room : (fs : List Field) (f : Field) (l : Layout) (at : ℕ) → 1 ≤ length fs → f ≡ slice_index_or fs 0 f → l ≡ kind_layout f.kind
    → (at ≤ next_multiple l.align at)
    × (next_multiple l.align at + l.size + 15 * places (fields_of (take (length fs - 1) (drop 1 fs))) ≤ at + 15 * places (fields_of fs))
step_room fs f l at p e q =
    let rest = fields_of (take (length fs - 1) (drop 1 fs)) in
    let s : fields_of fs ≡ with_field f.name f.kind rest = fields_split fs f p e in
    let a = kind_align f.kind in
    let b = next_bounds (kind_layout f.kind).align at a.0 in
    let r = item_room f.name f.kind rest in
    let a1 = a.1 in let b0 = b.0 in let b1 = b.1 in
    rw (q, s) (omega arith, omega arith)

pub step_ends : (fs : List Field) (f : Field) (l : Layout) (at : ℕ) → 1 ≤ length fs → f ≡ slice_index_or fs 0 f → l ≡ kind_layout f.kind
    → ends (fields_of fs) at ≡ ends (fields_of (take (length fs - 1) (drop 1 fs))) (next_multiple l.align at + l.size)
step_ends fs f l at p e q =
    rw (q, fields_split fs f p e) (item_ends f.name f.kind (fields_of (take (length fs - 1) (drop 1 fs))) at)

item_offset : (n : List ℕ) (k : Kind) (rest : Fields) (index at : ℕ) → 1 ≤ index
    → offset (with_field n k rest) index at ≡ offset rest (index - 1) (next_multiple (kind_layout k).align at + (kind_layout k).size)
item_offset n kind.U8 rest index at p = grind arith
item_offset n kind.U16 rest index at p = grind arith
item_offset n kind.U32 rest index at p = grind arith
item_offset n kind.U64 rest index at p = grind arith
item_offset n (kind.Record s) rest index at p = grind arith

item_first : (n : List ℕ) (k : Kind) (rest : Fields) (at : ℕ) → offset (with_field n k rest) 0 at ≡ next_multiple (kind_layout k).align at
item_first n kind.U8 rest at = refl
item_first n kind.U16 rest at = refl
item_first n kind.U32 rest at = refl
item_first n kind.U64 rest at = refl
item_first n (kind.Record s) rest at = refl

pub step_offset : (fs : List Field) (f : Field) (l : Layout) (index at : ℕ) → 1 ≤ length fs → f ≡ slice_index_or fs 0 f → l ≡ kind_layout f.kind → 1 ≤ index
    → offset (fields_of fs) index at ≡ offset (fields_of (take (length fs - 1) (drop 1 fs))) (index - 1) (next_multiple l.align at + l.size)
step_offset fs f l index at p e q i =
    rw (q, fields_split fs f p e) (item_offset f.name f.kind (fields_of (take (length fs - 1) (drop 1 fs))) index at i)

pub step_first : (fs : List Field) (f : Field) (l : Layout) (at : ℕ) → 1 ≤ length fs → f ≡ slice_index_or fs 0 f → l ≡ kind_layout f.kind
    → offset (fields_of fs) 0 at ≡ next_multiple l.align at
step_first fs f l at p e q =
    rw (q, fields_split fs f p e) (item_first f.name f.kind (fields_of (take (length fs - 1) (drop 1 fs))) at)

pub item_fits : (n : List ℕ) (k : Kind) (rest : Fields) → length n ≤ 255 → IsKind k → AreFields rest → AreFields (with_field n k rest)
item_fits n kind.U8 rest p q r = (p, r)
item_fits n kind.U16 rest p q r = (p, r)
item_fits n kind.U32 rest p q r = (p, r)
item_fits n kind.U64 rest p q r = (p, r)
item_fits n (kind.Record s) rest p q r = (p, q.name, q.id, q.some, q.count, q.fields, r)

short_head : (f : Field) (fs : List Field) → first_long_name (f ∷ fs) ≡ None → (length f.name ≤ 255) × (first_long_name fs ≡ None)
short_head f fs e = (grind (arith, nat_tests), grind (arith, nat_tests))

pub step_names : (fs : List Field) → 1 ≤ length fs → first_long_name fs ≡ None → first_long_name (take (length fs - 1) (drop 1 fs)) ≡ None
step_names [] p e = absurd (omega arith)
step_names (g ∷ gs) p e = rw (rest_of g gs) (short_head g gs e).1

pub step_fits : (fs : List Field) (f : Field) → 1 ≤ length fs → f ≡ slice_index_or fs 0 f → first_long_name fs ≡ None → IsKind f.kind
    → AreFields (fields_of (take (length fs - 1) (drop 1 fs))) → AreFields (fields_of fs)
step_fits [] f p _ _ _ _ = absurd (omega arith)
step_fits (g ∷ gs) f p e n k r =
    let q : IsKind g.kind = subst (λ (x : Field). IsKind x.kind) e k in
    item_fits g.name g.kind (fields_of gs) (short_head g gs n).0 q (rw (rest_of g gs) at r)

count_with : (n : List ℕ) (k : Kind) (rest : Fields) → count (with_field n k rest) ≡ 1 + count rest
count_with n kind.U8 rest = refl
count_with n kind.U16 rest = refl
count_with n kind.U32 rest = refl
count_with n kind.U64 rest = refl
count_with n (kind.Record s) rest = refl

pub count_fields : (fs : List Field) → count (fields_of fs) ≡ length fs
count_fields [] = refl
count_fields (f ∷ fs) = let h = count_fields fs in let k = count_with f.name f.kind (fields_of fs) in omega arith

reported_with : (n : List ℕ) (k : Kind) (rest : Fields)
    → reported_fields (with_field n k rest) ≡ record { name = n; id = kind_id k; layout = kind_layout k } ∷ reported_fields rest
reported_with n kind.U8 rest = refl
reported_with n kind.U16 rest = refl
reported_with n kind.U32 rest = refl
reported_with n kind.U64 rest = refl
reported_with n (kind.Record s) rest = refl

pub reported_each : (fs : List Field) → map report_of fs ≡ reported_fields (fields_of fs)
reported_each [] = refl
reported_each (f ∷ fs) = ap (λ l. report_of f ∷ l) (reported_each fs) ∙ sym (reported_with f.name f.kind (fields_of fs))

-- what `Schema::new` has tested
pub made_is_schema : (name : List ℕ) (id : ℕ) (fs : List Field) → length name ≤ 255 → IsUtf8 name → id < 2 ^ 64 → 1 ≤ length fs → length fs ≤ 255
    → AreFields (fields_of fs) → AreTexts (fields_of fs) → depth (fields_of fs) ≤ 8 → leaves (fields_of fs) ≤ 65535
    → IsSchema (record { name = name; id = id; fields = fields_of fs })
made_is_schema name id fs n u i s c f t d l =
    let e = count_fields fs in
    record { name = n; text = u; id = i; some = omega arith; count = omega arith; fields = f; texts = t; depth = d; leaves = l }

item_texts : (n : List ℕ) (k : Kind) (rest : Fields) → IsUtf8 n → IsKind k → AreTexts rest → AreTexts (with_field n k rest)
item_texts n kind.U8 rest u q r = (u, r)
item_texts n kind.U16 rest u q r = (u, r)
item_texts n kind.U32 rest u q r = (u, r)
item_texts n kind.U64 rest u q r = (u, r)
item_texts n (kind.Record s) rest u q r = (u, q.text, q.texts, r)

pub step_texts : (fs : List Field) (f : Field) → 1 ≤ length fs → f ≡ slice_index_or fs 0 f → AreNamed fs → IsKind f.kind
    → AreTexts (fields_of (take (length fs - 1) (drop 1 fs))) → AreTexts (fields_of fs)
step_texts [] f p e u q r = absurd (omega arith)
step_texts (g ∷ gs) f p e u q r =
    let k : IsKind g.kind = subst (λ (x : Field). IsKind x.kind) e q in
    item_texts g.name g.kind (fields_of gs) u.0 k (rw (rest_of g gs) at r)

pub step_named : (fs : List Field) → 1 ≤ length fs → AreNamed fs → AreNamed (take (length fs - 1) (drop 1 fs))
step_named [] p u = absurd (omega arith)
step_named (g ∷ gs) p u = rw (rest_of g gs) u.1

pub more_named : (fs : List Field) (f : Field) → 1 ≤ length fs → f ≡ slice_index_or fs 0 f → IsUtf8 f.name
    → AreNamed (take (length fs - 1) (drop 1 fs)) → AreNamed fs
more_named [] f p e u r = absurd (omega arith)
more_named (g ∷ gs) f p e u r = (subst (λ (x : Field). IsUtf8 x.name) e u, rw (rest_of g gs) at r)

pub none_named : (fs : List Field) → length fs ≡ 0 → AreNamed fs
none_named [] p = tt
none_named (g ∷ gs) p = absurd (omega arith)
