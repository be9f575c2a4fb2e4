-- A head is compared piece by piece.
use Rattle.std.proofs.Common.{◌≡◌, ◌+◌, ◌*◌, ◌-◌, ◌≤◌, ◌<◌, ◌^◌, ℕ, zero, suc, Bool, true, false, List, [], ◌∷◌, ◌++◌, length, refl, arith, ap, sym, ◌∙◌, Option, Some, None, drop, Result, Ok, Err, eqb, if◌then◌else◌, length-append, slice_index, ◌⊎◌, inl, inr, take, slice_index_or, append_assoc, subst, min, ⊎_elim}
use Rattle.std.proofs.lemmas.Grind.{common_steps}
use Rattle.std.proofs.lemmas.Bool.{cases_lt}
use Rattle.std.proofs.lemmas.Bool.Decides.{nat_tests}
use Rattle.std.specs.Int.{to_le_bytes, w64}
use Rattle.stabby_record.specs.Shape.{Shape, Fields, end, number, nested, count, places, number_id}
use Rattle.stabby_record.specs.Limits.{AreFields, IsSchema}
use Rattle.stabby_record.specs.Fits.{or_else}
use Rattle.stabby_record.specs.Message.{name_bytes, start, spelled, spelling, head}
use Rattle.stabby_record.specs.Reading.{first_differing, IsPlain}
use Rattle.stabby_record.specs.Compared.{Compared}
use Rattle.stabby_record.specs.Kinds.{kind_code, kind_spelled}
use Rattle.stabby_record.specs.Read.{fields_of, with_field}
use Rattle.stabby_record.specs.declared.schema.Field.{Field}
use Rattle.stabby_record.specs.declared.schema.Kind.{Kind}
use Rattle.stabby_record.specs.declared.schema.Kind.TheVariants as kind
use Rattle.stabby_record.proofs.Bounds.{few_places, fields_split}

ended : (q : List ℕ) (at : ℕ) → first_differing q [] at ≡ None
ended [] at = refl
ended (h ∷ q) at = refl

either_way : (t : Bool) (x y : Option ℕ) (at : ℕ) → (if t then or_else x y else Some at) ≡ or_else (if t then x else Some at) y
either_way true x y at = refl
either_way false x y at = refl

differing_append : (p q bs : List ℕ) (at : ℕ)
    → first_differing (p ++ q) bs at ≡ or_else (first_differing p bs at) (first_differing q (drop (length p) bs) (at + length p))
differing_append [] q bs at = let e : at ≡ at + 0 = omega arith in ap (first_differing q bs) e
differing_append (h ∷ p) q [] at = sym (ended q (at + suc (length p)))
differing_append (h ∷ p) q (b ∷ bs) at =
    let e : (at + 1) + length p ≡ at + suc (length p) = omega arith in
    let k = differing_append p q bs (at + 1) ∙ ap (λ (n : ℕ). or_else (first_differing p bs (at + 1)) (first_differing q (drop (length p) bs) n)) e in
    ap (λ (o : Option ℕ). if eqb h b then o else Some at) k
    ∙ either_way (eqb h b) (first_differing p bs (at + 1)) (first_differing q (drop (length p) bs) (at + suc (length p))) at

drop_more : (n m : ℕ) (l : List ℕ) → drop n (drop m l) ≡ drop (m + n) l
drop_more n m l = grind (arith, common_steps)

-- a piece that differs nowhere leaves the answer to the piece after it
passed : (p q bytes : List ℕ) (at next : ℕ) → first_differing p (drop at bytes) at ≡ None → next ≡ at + length p
    → first_differing (p ++ q) (drop at bytes) at ≡ first_differing q (drop next bytes) next
passed p q bytes at next e n =
    differing_append p q (drop at bytes) at
    ∙ (λ i. or_else (e i) (first_differing q (drop_more (length p) at bytes i) (at + length p)))
    ∙ ap (λ (k : ℕ). first_differing q (drop k bytes) k) (sym n)

pub then_compared : (r : Result ℕ ℕ) (p q bytes : List ℕ) (at next : ℕ) → first_differing p (drop at bytes) at ≡ None → next ≡ at + length p
    → Compared r q bytes next → Compared r (p ++ q) bytes at
then_compared (Ok m) p q bytes at next e n c =
    let l = length-append p q in
    let c1 = c.1 in
    (passed p q bytes at next e n ∙ c.0, omega arith)
then_compared (Err m) p q bytes at next e n c = passed p q bytes at next e n ∙ c

pub stopped : (p q bytes : List ℕ) (at place : ℕ) → first_differing p (drop at bytes) at ≡ Some place → first_differing (p ++ q) (drop at bytes) at ≡ Some place
stopped p q bytes at place e =
    differing_append p q (drop at bytes) at ∙ ap (λ (o : Option ℕ). or_else o (first_differing q (drop (length p) (drop at bytes)) (at + length p))) e

-- one byte that is the same passes the question on
more : (hs bs : List ℕ) (index at : ℕ) → index < length hs → index < length bs → slice_index hs index ≡ slice_index bs index
    → first_differing (drop index hs) (drop index bs) (at + index) ≡ first_differing (drop (suc index) hs) (drop (suc index) bs) (at + suc index)
more [] bs index at p q e = absurd (omega arith)
more (h ∷ hs) [] index at p q e = absurd (omega arith)
more (h ∷ hs) (b ∷ bs) zero at p q e =
    let t : eqb h b ≡ true = grind (arith, nat_tests) in
    let n : at + 0 + 1 ≡ at + suc 0 = omega arith in
    (λ i. if t i then first_differing hs bs (n i) else Some (at + 0))
more (h ∷ hs) (b ∷ bs) (suc index) at p q e =
    let n : at + suc index ≡ (at + 1) + index = omega arith in
    let m : (at + 1) + suc index ≡ at + suc (suc index) = omega arith in
    let k = more hs bs index (at + 1) (omega arith) (omega arith) e in
    ap (λ (j : ℕ). first_differing (drop index hs) (drop index bs) j) n ∙ k
    ∙ ap (λ (j : ℕ). first_differing (drop (suc index) hs) (drop (suc index) bs) j) m

pub one_more : (hs bs : List ℕ) (index at : ℕ) → index < length hs → index < length bs → slice_index hs index ≡ slice_index bs index
    → first_differing (drop index hs) (drop index bs) (at + index) ≡ first_differing (drop (index + 1) hs) (drop (index + 1) bs) (at + (index + 1))
one_more hs bs index at p q e =
    let n : suc index ≡ index + 1 = omega arith in
    more hs bs index at p q e ∙ ap (λ (j : ℕ). first_differing (drop j hs) (drop j bs) (at + j)) n

-- a byte that is another ends it
pub one_other : (hs bs : List ℕ) (index at : ℕ) → index < length hs → index < length bs → (slice_index hs index ≡ slice_index bs index → ⊥)
    → first_differing (drop index hs) (drop index bs) (at + index) ≡ Some (at + index)
one_other [] bs index at p q e = absurd (omega arith)
one_other (h ∷ hs) [] index at p q e = absurd (omega arith)
one_other (h ∷ hs) (b ∷ bs) zero at p q e =
    let t : eqb h b ≡ false = grind (arith, nat_tests) in
    (λ i. if t i then first_differing hs bs (at + 0 + 1) else Some (at + 0))
one_other (h ∷ hs) (b ∷ bs) (suc index) at p q e =
    let n : at + suc index ≡ (at + 1) + index = omega arith in
    let k = one_other hs bs index (at + 1) (omega arith) (omega arith) e in
    ap (λ (j : ℕ). first_differing (drop index hs) (drop index bs) j) n ∙ k ∙ ap Some (sym n)

-- where one of the two has ended there is nothing left
pub both_ended : (hs bs : List ℕ) (index at : ℕ) → (length hs ≤ index) ⊎ (length bs ≤ index) → first_differing (drop index hs) (drop index bs) at ≡ None
both_ended hs bs index at (inl p) = let e : drop index hs ≡ [] = grind (arith, common_steps) in ap (λ (l : List ℕ). first_differing l (drop index bs) at) e
both_ended hs bs index at (inr p) =
    let e : drop index bs ≡ [] = grind (arith, common_steps) in
    ap (λ (l : List ℕ). first_differing (drop index hs) l at) e ∙ ended (drop index hs) at

-- a field takes at most 521 bytes of the head
pub spelled_long : (fs : Fields) → AreFields fs → length (spelled fs) ≤ 522 * places fs
spelled_long end w = omega arith
spelled_long (number n k rest) w =
    let h = spelled_long rest w.1 in
    let w0 = w.0 in
    let a = length-append n (number_id k ∷ spelled rest) in
    omega arith
spelled_long (nested n r i inner rest) w =
    let g = spelled_long inner w.5 in
    let h = spelled_long rest w.6 in
    let w0 = w.0 in let w1 = w.1 in
    let d = length-append (spelled inner) (spelled rest) in
    let b = length-append r (to_le_bytes w64 i ++ (count inner ∷ (spelled inner ++ spelled rest))) in
    let a = length-append n (5 ∷ (name_bytes r ++ (to_le_bytes w64 i ++ (count inner ∷ (spelled inner ++ spelled rest))))) in
    omega arith

pub short_head : (s : Shape) → IsSchema s → length (head s) < 2 ^ 32
short_head s w =
    let h = spelled_long s.fields w.fields in
    let p = few_places s w in
    let n = w.name in
    let a = length-append s.name (to_le_bytes w64 s.id ++ (count s.fields ∷ spelled s.fields)) in
    omega arith

-- the pieces of a head

pub head_pieces : (s : Shape) → (83 ∷ 82 ∷ 49 ∷ 10 ∷ []) ++ (start s.name s.id (count s.fields) ++ spelled s.fields) ≡ head s
head_pieces s = simp append_assoc

spelling_pieces : (s : Shape) (x : List ℕ) → start s.name s.id (count s.fields) ++ (spelled s.fields ++ x) ≡ spelling s ++ x
spelling_pieces s x = simp append_assoc

item_pieces : (n : List ℕ) (k : Kind) (rest : Fields) → name_bytes n ++ (kind_code k ∷ (kind_spelled k ++ spelled rest)) ≡ spelled (with_field n k rest)
item_pieces n kind.U8 rest = refl
item_pieces n kind.U16 rest = refl
item_pieces n kind.U32 rest = refl
item_pieces n kind.U64 rest = refl
item_pieces n (kind.Record s) rest = simp append_assoc

abbrev pub Tail : List Field → Fields
Tail fs = fields_of (take (length fs - 1) (drop 1 fs))

step_pieces : (fs : List Field) (f : Field) → 1 ≤ length fs → f ≡ slice_index_or fs 0 f
    → name_bytes f.name ++ (kind_code f.kind ∷ (kind_spelled f.kind ++ spelled (Tail fs))) ≡ spelled (fields_of fs)
step_pieces fs f p e = item_pieces f.name f.kind (Tail fs) ∙ ap spelled (sym (fields_split fs f p e))

pub by_pieces : (r : Result ℕ ℕ) (fs : List Field) (f : Field) (bytes : List ℕ) (at : ℕ) → 1 ≤ length fs → f ≡ slice_index_or fs 0 f
    → Compared r (name_bytes f.name ++ ((kind_code f.kind ∷ []) ++ (kind_spelled f.kind ++ spelled (Tail fs)))) bytes at → Compared r (spelled (fields_of fs)) bytes at
by_pieces r fs f bytes at p e h = subst (λ (l : List ℕ). Compared r l bytes at) (step_pieces fs f p e) h

plain_pieces : (k : Kind) (x : List ℕ) → IsPlain k → x ≡ kind_spelled k ++ x
plain_pieces kind.U8 x p = refl
plain_pieces kind.U16 x p = refl
plain_pieces kind.U32 x p = refl
plain_pieces kind.U64 x p = refl
plain_pieces (kind.Record s) x p = absurd p

pub by_number : (r : Result ℕ ℕ) (k : Kind) (x bytes : List ℕ) (at : ℕ) → IsPlain k → Compared r x bytes at → Compared r (kind_spelled k ++ x) bytes at
by_number r k x bytes at p h = subst (λ (l : List ℕ). Compared r l bytes at) (plain_pieces k x p) h

pub by_record : (r : Result ℕ ℕ) (k : Kind) (s : Shape) (x bytes : List ℕ) (at : ℕ) → k ≡ kind.Record s
    → Compared r (start s.name s.id (count s.fields) ++ (spelled s.fields ++ x)) bytes at → Compared r (kind_spelled k ++ x) bytes at
by_record r k s x bytes at e h =
    let a = ap (λ (c : Kind). kind_spelled c ++ x) e in
    subst (λ (l : List ℕ). Compared r l bytes at) (spelling_pieces s x ∙ sym a) h

pub one_side : (a b i : ℕ) → min a b ≤ i → (a ≤ i) ⊎ (b ≤ i)
one_side a b i p = ⊎_elim (λ lt. inr (omega arith)) (λ le. inl le) (cases_lt i a)

-- the same bytes by another name
pub with_piece : (p q bytes : List ℕ) (at : ℕ) (o : Option ℕ) → p ≡ q → first_differing p (drop at bytes) at ≡ o → first_differing q (drop at bytes) at ≡ o
with_piece p q bytes at o e h = subst (λ (l : List ℕ). first_differing l (drop at bytes) at ≡ o) e h

pub with_length : (p q : List ℕ) (at next : ℕ) → p ≡ q → next ≡ at + length p → next ≡ at + length q
with_length p q at next e h = subst (λ (l : List ℕ). next ≡ at + length l) e h

pub with_same : (r : Result ℕ ℕ) (p q bytes : List ℕ) (at : ℕ) → p ≡ q → Compared r p bytes at → Compared r q bytes at
with_same r p q bytes at e h = subst (λ (l : List ℕ). Compared r l bytes at) e h
