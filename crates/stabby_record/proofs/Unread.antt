-- What is refused as no record is the spelling of no schema.
use Rattle.std.proofs.Common.{◌≡◌, ◌+◌, ◌-◌, ◌≤◌, ◌<◌, ◌^◌, ℕ, List, [], ◌∷◌, ◌++◌, length, refl, arith, ap, sym, ◌∙◌, append_assoc, Some, None, take, subst, length-append, Result, Ok, Err, IfOk, IsErrOf}
use Rattle.std.proofs.Math.Seq.{take-append_seam}
use Rattle.std.proofs.lemmas.Bool.Decides.{nat_tests}
use Rattle.std.specs.Int.{to_le_bytes, w64}
use Rattle.std.specs.Str.{IsUtf8}
use Rattle.stabby_record.specs.Shape.{Fields, end, number, nested, Shape, count, leaves, depth, Number, one, two, four, eight}
use Rattle.stabby_record.specs.Limits.{AreFields, IsSchema}
use Rattle.stabby_record.specs.Message.{name_bytes, spelled, spelling}
use Rattle.stabby_record.specs.Kinds.{kind_code, kind_spelled, IsKind, kind_depth}
use Rattle.stabby_record.specs.Read.{fields_of, with_field}
use Rattle.stabby_record.specs.Refuse.{schema_fault, first_long_name}
use Rattle.stabby_record.specs.Described.{ReadsKind, ReadsFields, MayStand, NoNameBegins, NoIdBegins, NoByteBegins, NoKindBegins, NoFieldsBegin, NoSpellingBegins, NoHeadBegins}
use Rattle.stabby_record.specs.declared.schema.Field.{Field}
use Rattle.stabby_record.specs.declared.schema.Kind.{Kind}
use Rattle.stabby_record.specs.declared.schema.Kind.TheVariants as kind
use Rattle.stabby_record.specs.declared.schema.SchemaFault.{SchemaFault}
use Rattle.stabby_record.proofs.Bounds.{count_fields, item_fits}
use Rattle.stabby_record.proofs.Spelling.{cut_name, cut_id, spelled_inj, heads_apart}

-- names

pub no_name_short : (bytes rest : List ℕ) (long : ℕ) → bytes ≡ long ∷ rest → length rest < long → NoNameBegins bytes
no_name_short bytes rest long e p name x u q =
    let n : long ≡ length name = cc in
    let t : rest ≡ name ++ x = cc in
    let a = ap (λ (l : List ℕ). length l) t ∙ length-append name x in
    omega arith

pub no_name_odd : (bytes rest : List ℕ) (long : ℕ) → bytes ≡ long ∷ rest → (IsUtf8 (take long rest) → ⊥) → NoNameBegins bytes
no_name_odd bytes rest long e p name x u q =
    let n : length name ≡ long = cc in
    let t : rest ≡ name ++ x = cc in
    let s : take long rest ≡ name = ap (take long) t ∙ subst (λ (k : ℕ). take k (name ++ x) ≡ name) n (take-append_seam name x) in
    p (subst IsUtf8 (sym s) u)

-- ids and single bytes

pub no_id_short : (bytes : List ℕ) → length bytes < 8 → NoIdBegins bytes
no_id_short bytes p id rest e =
    let a = ap (λ (l : List ℕ). length l) e ∙ length-append (to_le_bytes w64 id) rest in
    let b : length (to_le_bytes w64 id) ≡ 8 = refl in
    omega arith

-- kinds

no_code : (bytes rest : List ℕ) (code : ℕ) → bytes ≡ code ∷ rest → (kind : Kind) (x : List ℕ) → ReadsKind bytes kind x → (code ≡ kind_code kind) × (rest ≡ kind_spelled kind ++ x)
no_code bytes rest code e k x q = (cc, cc)

code_bounds : (k : Kind) → (1 ≤ kind_code k) × (kind_code k ≤ 5)
code_bounds kind.U8 = (omega arith, omega arith)
code_bounds kind.U16 = (omega arith, omega arith)
code_bounds kind.U32 = (omega arith, omega arith)
code_bounds kind.U64 = (omega arith, omega arith)
code_bounds (kind.Record s) = (omega arith, omega arith)

pub no_kind_of_code : (bytes rest : List ℕ) (code deep : ℕ) → bytes ≡ code ∷ rest → (1 ≤ code → code ≤ 5 → ⊥) → NoKindBegins bytes deep
no_kind_of_code bytes rest code deep e p k x _ _ q =
    let c = (no_code bytes rest code e k x q).0 in
    let b = code_bounds k in
    let b0 = b.0 in let b1 = b.1 in
    p (omega arith) (omega arith)

pub no_record : (bytes rest : List ℕ) (deep : ℕ) → bytes ≡ 5 ∷ rest → NoSpellingBegins rest deep → NoKindBegins bytes deep
no_record bytes rest deep e p kind.U8 x i d q = let c = (no_code bytes rest 5 e kind.U8 x q).0 in absurd (omega arith)
no_record bytes rest deep e p kind.U16 x i d q = let c = (no_code bytes rest 5 e kind.U16 x q).0 in absurd (omega arith)
no_record bytes rest deep e p kind.U32 x i d q = let c = (no_code bytes rest 5 e kind.U32 x q).0 in absurd (omega arith)
no_record bytes rest deep e p kind.U64 x i d q = let c = (no_code bytes rest 5 e kind.U64 x q).0 in absurd (omega arith)
no_record bytes rest deep e p (kind.Record s) x i d q = p s x i d (no_code bytes rest 5 e (kind.Record s) x q).1

spellings_apart : (s t : Shape) (u v : List ℕ) → IsSchema s → IsSchema t → spelling s ++ u ≡ spelling t ++ v → u ≡ v
spellings_apart s t u v p q e = (heads_apart s t u v p q (ap (λ (l : List ℕ). 83 ∷ 82 ∷ 49 ∷ 10 ∷ l) e)).1

tails : (a b : ℕ) (u v : List ℕ) → a ∷ u ≡ b ∷ v → (a ≡ b) × (u ≡ v)
tails a b u v e = (cc, cc)

-- what one kind spells, no other does
kinds_apart : (k l : Kind) (u v : List ℕ) → IsKind k → IsKind l → kind_code k ∷ (kind_spelled k ++ u) ≡ kind_code l ∷ (kind_spelled l ++ v) → u ≡ v
kinds_apart kind.U8 kind.U8 u v p q e = (tails 1 1 u v e).1
kinds_apart kind.U16 kind.U16 u v p q e = (tails 2 2 u v e).1
kinds_apart kind.U32 kind.U32 u v p q e = (tails 3 3 u v e).1
kinds_apart kind.U64 kind.U64 u v p q e = (tails 4 4 u v e).1
kinds_apart (kind.Record s) (kind.Record t) u v p q e = spellings_apart s t u v p q (tails 5 5 (spelling s ++ u) (spelling t ++ v) e).1
kinds_apart kind.U8 kind.U16 u v p q e = absurd (let c = (tails 1 2 u v e).0 in omega arith)
kinds_apart kind.U8 kind.U32 u v p q e = absurd (let c = (tails 1 3 u v e).0 in omega arith)
kinds_apart kind.U8 kind.U64 u v p q e = absurd (let c = (tails 1 4 u v e).0 in omega arith)
kinds_apart kind.U8 (kind.Record t) u v p q e = absurd (let c = (tails 1 5 u (spelling t ++ v) e).0 in omega arith)
kinds_apart kind.U16 kind.U8 u v p q e = absurd (let c = (tails 2 1 u v e).0 in omega arith)
kinds_apart kind.U16 kind.U32 u v p q e = absurd (let c = (tails 2 3 u v e).0 in omega arith)
kinds_apart kind.U16 kind.U64 u v p q e = absurd (let c = (tails 2 4 u v e).0 in omega arith)
kinds_apart kind.U16 (kind.Record t) u v p q e = absurd (let c = (tails 2 5 u (spelling t ++ v) e).0 in omega arith)
kinds_apart kind.U32 kind.U8 u v p q e = absurd (let c = (tails 3 1 u v e).0 in omega arith)
kinds_apart kind.U32 kind.U16 u v p q e = absurd (let c = (tails 3 2 u v e).0 in omega arith)
kinds_apart kind.U32 kind.U64 u v p q e = absurd (let c = (tails 3 4 u v e).0 in omega arith)
kinds_apart kind.U32 (kind.Record t) u v p q e = absurd (let c = (tails 3 5 u (spelling t ++ v) e).0 in omega arith)
kinds_apart kind.U64 kind.U8 u v p q e = absurd (let c = (tails 4 1 u v e).0 in omega arith)
kinds_apart kind.U64 kind.U16 u v p q e = absurd (let c = (tails 4 2 u v e).0 in omega arith)
kinds_apart kind.U64 kind.U32 u v p q e = absurd (let c = (tails 4 3 u v e).0 in omega arith)
kinds_apart kind.U64 (kind.Record t) u v p q e = absurd (let c = (tails 4 5 u (spelling t ++ v) e).0 in omega arith)
kinds_apart (kind.Record s) kind.U8 u v p q e = absurd (let c = (tails 5 1 (spelling s ++ u) v e).0 in omega arith)
kinds_apart (kind.Record s) kind.U16 u v p q e = absurd (let c = (tails 5 2 (spelling s ++ u) v e).0 in omega arith)
kinds_apart (kind.Record s) kind.U32 u v p q e = absurd (let c = (tails 5 3 (spelling s ++ u) v e).0 in omega arith)
kinds_apart (kind.Record s) kind.U64 u v p q e = absurd (let c = (tails 5 4 (spelling s ++ u) v e).0 in omega arith)

-- the first of some fields, and the others
record FirstField (bytes : List ℕ) (many deep : ℕ) (x : List ℕ) : Type 0 where
  name : List ℕ
  kind : Kind
  others : Fields
  text : IsUtf8 name
  is : IsKind kind
  near : kind_depth kind ≤ deep
  stand : MayStand others deep
  fewer : 1 + count others ≡ many
  spells : bytes ≡ name_bytes name ++ (kind_code kind ∷ (kind_spelled kind ++ (spelled others ++ x)))

number_stands : (n : List ℕ) (k : Number) (rest : Fields) (deep : ℕ) → MayStand (number n k rest) deep → MayStand rest deep
number_stands n k rest deep m =
    let b = m.below in
    let l = m.leaves in
    record { fields = m.fields.1; texts = m.texts.1; below = omega arith; leaves = omega arith }

number_first : (bytes n : List ℕ) (k : Number) (rest : Fields) (x : List ℕ) (deep : ℕ) → MayStand (number n k rest) deep → bytes ≡ spelled (number n k rest) ++ x
    → FirstField bytes (1 + count rest) deep x
number_first bytes n one rest x deep m e =
    record { name = n; kind = kind.U8; others = rest; text = m.texts.0; is = tt; near = omega arith; fewer = refl; stand = number_stands n one rest deep m; spells = e ∙ simp append_assoc }
number_first bytes n two rest x deep m e =
    record { name = n; kind = kind.U16; others = rest; text = m.texts.0; is = tt; near = omega arith; fewer = refl; stand = number_stands n two rest deep m; spells = e ∙ simp append_assoc }
number_first bytes n four rest x deep m e =
    record { name = n; kind = kind.U32; others = rest; text = m.texts.0; is = tt; near = omega arith; fewer = refl; stand = number_stands n four rest deep m; spells = e ∙ simp append_assoc }
number_first bytes n eight rest x deep m e =
    record { name = n; kind = kind.U64; others = rest; text = m.texts.0; is = tt; near = omega arith; fewer = refl; stand = number_stands n eight rest deep m; spells = e ∙ simp append_assoc }

nested_stands : (n r : List ℕ) (i : ℕ) (inner rest : Fields) (deep : ℕ) → MayStand (nested n r i inner rest) deep → MayStand rest deep
nested_stands n r i inner rest deep m =
    let b = m.below in
    let l = m.leaves in
    record { fields = m.fields.6; texts = m.texts.3; below = omega arith; leaves = omega arith }

-- a record that stands in fields at most 7 deep is a schema
inner_is : (n r : List ℕ) (i : ℕ) (inner rest : Fields) (deep : ℕ) → deep ≤ 8 → MayStand (nested n r i inner rest) deep
    → IsSchema (record { name = r; id = i; fields = inner })
inner_is n r i inner rest deep d m =
    let w = m.fields in
    let t = m.texts in
    let b = m.below in
    let l = m.leaves in
    record { name = w.1; text = t.1; id = w.2; some = w.3; count = w.4; fields = w.5; texts = t.2; depth = omega arith; leaves = omega arith }

nested_first : (bytes n r : List ℕ) (i : ℕ) (inner rest : Fields) (x : List ℕ) (deep : ℕ) → deep ≤ 8 → MayStand (nested n r i inner rest) deep
    → bytes ≡ spelled (nested n r i inner rest) ++ x → FirstField bytes (1 + count rest) deep x
nested_first bytes n r i inner rest x deep d m e =
    let b = m.below in
    record {
      name = n;
      kind = kind.Record (record { name = r; id = i; fields = inner });
      others = rest;
      text = m.texts.0;
      is = inner_is n r i inner rest deep d m;
      near = omega arith;
      fewer = refl;
      stand = nested_stands n r i inner rest deep m;
      spells = e ∙ simp append_assoc;
    }

first_field : (bytes : List ℕ) (fs : Fields) (x : List ℕ) (many deep : ℕ) → deep ≤ 8 → 1 ≤ many → MayStand fs deep → count fs ≡ many → bytes ≡ spelled fs ++ x
    → FirstField bytes many deep x
first_field bytes end x many deep d p m c e = absurd (omega arith)
first_field bytes (number n k rest) x many deep d p m c e = subst (λ (h : ℕ). FirstField bytes h deep x) c (number_first bytes n k rest x deep m e)
first_field bytes (nested n r i inner rest) x many deep d p m c e = subst (λ (h : ℕ). FirstField bytes h deep x) c (nested_first bytes n r i inner rest x deep d m e)

pub no_fields_by_name : (bytes : List ℕ) (many deep : ℕ) → deep ≤ 8 → 1 ≤ many → NoNameBegins bytes → NoFieldsBegin bytes many deep
no_fields_by_name bytes many deep d p none fs x m c e =
    let f = first_field bytes fs x many deep d p m c e in
    none f.name (kind_code f.kind ∷ (kind_spelled f.kind ++ (spelled f.others ++ x))) f.text f.spells

after_name : (bytes name rest n x : List ℕ) → bytes ≡ name_bytes name ++ rest → bytes ≡ name_bytes n ++ x → (name ≡ n) × (rest ≡ x)
after_name bytes name rest n x e f = cut_name name n rest x (sym e ∙ f)

pub no_fields_by_kind : (bytes name rest : List ℕ) (many deep : ℕ) → deep ≤ 8 → 1 ≤ many → bytes ≡ name_bytes name ++ rest → NoKindBegins rest deep
    → NoFieldsBegin bytes many deep
no_fields_by_kind bytes name rest many deep d p e none fs x m c q =
    let f = first_field bytes fs x many deep d p m c q in
    let a = after_name bytes name rest f.name (kind_code f.kind ∷ (kind_spelled f.kind ++ (spelled f.others ++ x))) e f.spells in
    none f.kind (spelled f.others ++ x) f.is f.near a.1

pub no_fields_by_rest : (bytes name r1 r2 : List ℕ) (k : Kind) (many deep fewer : ℕ) → deep ≤ 8 → 1 ≤ many → bytes ≡ name_bytes name ++ r1 → ReadsKind r1 k r2 → IsKind k
    → fewer ≡ many - 1 → NoFieldsBegin r2 fewer deep → NoFieldsBegin bytes many deep
no_fields_by_rest bytes name r1 r2 k many deep fewer d p e r i n none fs x m c q =
    let f = first_field bytes fs x many deep d p m c q in
    let a = after_name bytes name r1 f.name (kind_code f.kind ∷ (kind_spelled f.kind ++ (spelled f.others ++ x))) e f.spells in
    let b = kinds_apart k f.kind r2 (spelled f.others ++ x) i f.is (sym r ∙ a.1) in
    let g = f.fewer in
    none f.others x f.stand (omega arith) b

item_spelled : (n : List ℕ) (k : Kind) (rest : Fields) (x : List ℕ)
    → spelled (with_field n k rest) ++ x ≡ name_bytes n ++ (kind_code k ∷ (kind_spelled k ++ (spelled rest ++ x)))
item_spelled n kind.U8 rest x = simp append_assoc
item_spelled n kind.U16 rest x = simp append_assoc
item_spelled n kind.U32 rest x = simp append_assoc
item_spelled n kind.U64 rest x = simp append_assoc
item_spelled n (kind.Record s) rest x = simp append_assoc

-- a name, a kind and fewer fields that were read are fields that were read
pub one_more_field : (bytes name r1 r2 : List ℕ) (k : Kind) (old pushed now : List Field) (many fewer : ℕ) (rest : List ℕ) → length name ≤ 255 → 1 ≤ many
    → bytes ≡ name_bytes name ++ r1 → ReadsKind r1 k r2 → IsKind k → pushed ≡ old ++ record { name = name; kind = k } ∷ [] → fewer ≡ many - 1
    → ReadsFields r2 pushed now fewer rest → ReadsFields bytes old now many rest
one_more_field bytes name r1 r2 k old pushed now many fewer rest short p e q i u n r =
    let f : Field = record { name = name; kind = k } in
    let fs = r.fields in
    let m = r.many in
    record {
      fields = f ∷ fs;
      put = r.put ∙ ap (λ (l : List Field). l ++ fs) u ∙ append_assoc old (f ∷ []) fs;
      many = omega arith;
      spells = e ∙ ap (λ (l : List ℕ). name_bytes name ++ l) (q ∙ ap (λ (l : List ℕ). kind_code k ∷ (kind_spelled k ++ l)) r.spells)
          ∙ sym (item_spelled name k (fields_of fs) rest);
      are = item_fits name k (fields_of fs) short i r.are;
    }

pub if_ok_map : {X E : Type 0} {P Q : X → Type 0} (r : Result X E) → ((x : X) → P x → Q x) → IfOk r P → IfOk r Q
if_ok_map (Ok x) f p = f x p
if_ok_map (Err e) f p = tt

-- schemas

spelling_shape : (s : Shape) (x : List ℕ)
    → spelling s ++ x ≡ name_bytes s.name ++ (to_le_bytes w64 s.id ++ (count s.fields ∷ (spelled s.fields ++ x)))
spelling_shape s x = simp append_assoc

pub none_so_shallow : (bytes : List ℕ) → NoSpellingBegins bytes 0
none_so_shallow bytes s x p d e = omega arith

pub no_spelling_by_name : (bytes : List ℕ) (deep : ℕ) → NoNameBegins bytes → NoSpellingBegins bytes deep
no_spelling_by_name bytes deep none s x p d e =
    none s.name (to_le_bytes w64 s.id ++ (count s.fields ∷ (spelled s.fields ++ x))) p.text (e ∙ spelling_shape s x)

pub no_spelling_by_id : (bytes name rest : List ℕ) (deep : ℕ) → bytes ≡ name_bytes name ++ rest → NoIdBegins rest → NoSpellingBegins bytes deep
no_spelling_by_id bytes name rest deep e none s x p d q =
    let a = after_name bytes name rest s.name (to_le_bytes w64 s.id ++ (count s.fields ∷ (spelled s.fields ++ x))) e (q ∙ spelling_shape s x) in
    none s.id (count s.fields ∷ (spelled s.fields ++ x)) a.1

after_id : (bytes name r1 r2 : List ℕ) (id : ℕ) (s : Shape) (x : List ℕ) → id < 2 ^ 64 → IsSchema s → bytes ≡ name_bytes name ++ r1 → r1 ≡ to_le_bytes w64 id ++ r2 → bytes ≡ spelling s ++ x
    → (name ≡ s.name) × (r2 ≡ count s.fields ∷ (spelled s.fields ++ x))
after_id bytes name r1 r2 id s x l p e f q =
    let a = after_name bytes name r1 s.name (to_le_bytes w64 s.id ++ (count s.fields ∷ (spelled s.fields ++ x))) e (q ∙ spelling_shape s x) in
    (a.0, (cut_id id s.id r2 (count s.fields ∷ (spelled s.fields ++ x)) l p.id (sym f ∙ a.1)).1)

pub no_spelling_by_count : (bytes name r1 r2 : List ℕ) (id deep : ℕ) → id < 2 ^ 64 → bytes ≡ name_bytes name ++ r1 → r1 ≡ to_le_bytes w64 id ++ r2 → NoByteBegins r2
    → NoSpellingBegins bytes deep
no_spelling_by_count bytes name r1 r2 id deep l e f none s x p d q =
    none (count s.fields) (spelled s.fields ++ x) (after_id bytes name r1 r2 id s x l p e f q).1

after_count : (bytes name r1 r2 r3 : List ℕ) (id many : ℕ) (s : Shape) (x : List ℕ) → id < 2 ^ 64 → IsSchema s → bytes ≡ name_bytes name ++ r1 → r1 ≡ to_le_bytes w64 id ++ r2 → r2 ≡ many ∷ r3
    → bytes ≡ spelling s ++ x → (name ≡ s.name) × ((many ≡ count s.fields) × (r3 ≡ spelled s.fields ++ x))
after_count bytes name r1 r2 r3 id many s x l p e f g q =
    let a = after_id bytes name r1 r2 id s x l p e f q in
    (a.0, tails many (count s.fields) r3 (spelled s.fields ++ x) (sym g ∙ a.1))

fields_stand : (s : Shape) (deep : ℕ) → IsSchema s → depth s.fields ≤ deep → MayStand s.fields (deep - 1)
fields_stand s deep p d = record { fields = p.fields; texts = p.texts; below = omega arith; leaves = p.leaves }

pub no_spelling_by_fields : (bytes name r1 r2 r3 : List ℕ) (id many deep : ℕ) → id < 2 ^ 64 → bytes ≡ name_bytes name ++ r1 → r1 ≡ to_le_bytes w64 id ++ r2 → r2 ≡ many ∷ r3
    → NoFieldsBegin r3 many (deep - 1) → NoSpellingBegins bytes deep
no_spelling_by_fields bytes name r1 r2 r3 id many deep l e f g none s x p d q =
    let a = after_count bytes name r1 r2 r3 id many s x l p e f g q in
    none s.fields x (fields_stand s deep p d) (sym a.1.0) a.1.1

-- fields that are within the limits are not refused
are_apart : (n : List ℕ) (k : Kind) (rest : Fields) → AreFields (with_field n k rest) → (length n ≤ 255) × AreFields rest
are_apart n kind.U8 rest w = w
are_apart n kind.U16 rest w = w
are_apart n kind.U32 rest w = w
are_apart n kind.U64 rest w = w
are_apart n (kind.Record s) rest w = (w.0, w.6)

no_long_name : (fs : List Field) → AreFields (fields_of fs) → first_long_name fs ≡ None
no_long_name [] w = refl
no_long_name (f ∷ fs) w =
    let a = are_apart f.name f.kind (fields_of fs) w in
    let a0 = a.0 in
    let h = no_long_name fs a.1 in
    grind (arith, nat_tests)

no_fault : (name : List ℕ) (fs : List Field) → length name ≤ 255 → first_long_name fs ≡ None → 1 ≤ length fs → length fs ≤ 255
    → depth (fields_of fs) ≤ 8 → leaves (fields_of fs) ≤ 65535 → schema_fault name fs ≡ None
no_fault name fs n l s c d v = grind (arith, nat_tests)

pub no_spelling_by_fault : (bytes name r1 r2 r3 r4 : List ℕ) (id many deep : ℕ) (old now : List Field) (fault : SchemaFault) → id < 2 ^ 64
    → bytes ≡ name_bytes name ++ r1 → r1 ≡ to_le_bytes w64 id ++ r2 → r2 ≡ many ∷ r3 → ReadsFields r3 old now many r4 → old ≡ []
    → schema_fault name now ≡ Some fault → NoSpellingBegins bytes deep
no_spelling_by_fault bytes name r1 r2 r3 r4 id many deep old now fault l e f g r none bad s x p d q =
    let a = after_count bytes name r1 r2 r3 id many s x l p e f g q in
    let fs = r.fields in
    let same : now ≡ fs = r.put ∙ ap (λ (o : List Field). o ++ fs) none in
    let c = count_fields fs in
    let m = r.many in
    let a0 = a.1.0 in
    let n : count (fields_of fs) ≡ count s.fields = omega arith in
    let i = (spelled_inj (fields_of fs) s.fields r4 x r.are p.fields n (sym r.spells ∙ a.1.1)).0 in
    let some = p.some in
    let top = p.count in
    let deep_so : depth (fields_of fs) ≤ 8 = subst (λ (t : Fields). depth t ≤ 8) (sym i) p.depth in
    let leaves_so : leaves (fields_of fs) ≤ 65535 = subst (λ (t : Fields). leaves t ≤ 65535) (sym i) p.leaves in
    let short : length name ≤ 255 = subst (λ (t : List ℕ). length t ≤ 255) (sym a.0) p.name in
    let z = no_fault name fs short (no_long_name fs r.are) (omega arith) (omega arith) deep_so leaves_so in
    let y : schema_fault name fs ≡ Some fault = ap (schema_fault name) (sym same) ∙ bad in
    absurd cc

-- heads

pub no_head_by_spelling : (bytes rest : List ℕ) → bytes ≡ 83 ∷ 82 ∷ 49 ∷ 10 ∷ rest → NoSpellingBegins rest 8 → NoHeadBegins bytes
no_head_by_spelling bytes rest e none s p b =
    let t : rest ≡ spelling s ++ b.0 = let q = b.1 in cc in
    none s b.0 p p.depth t

pub same_error : {T U E : Type 0} (e f : E) → IsErrOf {T = T} {E = E} (Err e) f → IsErrOf {T = U} {E = E} (Err e) f
same_error e f p = let q : e ≡ f = cc in ap Err q
