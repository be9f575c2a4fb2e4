-- The lines of a text are its lines, and a report grows line by line.
use Rattle.std.proofs.Common.{◌≡◌, ◌≢◌, ℕ, zero, suc, ◌+◌, ◌<◌, ◌≤◌, ◌==◌, List, [], ◌∷◌, ◌++◌, length, map, flat_map, refl, sym, ◌∙◌, ap, subst, arith, Bool, true, false, if◌then◌else◌, ◌⊎◌, inl, inr, append_assoc, append-nil}
use Rattle.std.specs.List.{AllByRecursion, AllZip}
use Rattle.std.proofs.lemmas.Bool.Decides.{nat_tests}
use Rattle.stabby_tables.specs.Tables.{Table}
use Rattle.stabby_tables.specs.Pieces.{lines_of, onto}
use Rattle.stabby_tables.specs.Lines.{ended, joined, IsLaidOut, IsText, IsLines, IsBadLine, Spells}

abbrev NoBreak : List ℕ → Type 0
NoBreak line = AllByRecursion (λ b. b ≢ 10) line

laid_break : (bytes : List ℕ) (ls : List (List ℕ)) → IsLaidOut bytes ls → IsLaidOut (10 ∷ bytes) ([] ∷ ls)
laid_break bytes ls (inl e) = inl (ap (λ l. 10 ∷ l) e)
laid_break bytes ls (inr (front, last, split, some, e)) = inr ([] ∷ front, last, ap (λ l. [] ∷ l) split, some, ap (λ l. 10 ∷ l) e)

no_push_is_nil : (front : List (List ℕ)) (last : List ℕ) → [] ≡ front ++ last ∷ [] → ⊥
no_push_is_nil [] last e = absurd (cc)
no_push_is_nil (f ∷ front) last e = absurd (cc)

laid_nil : (b : ℕ) (bytes : List ℕ) → IsLaidOut bytes [] → IsLaidOut (b ∷ bytes) ((b ∷ []) ∷ [])
laid_nil b bytes (inl e) = inr ([], b ∷ [], refl, omega arith, ap (λ l. b ∷ l) e)
laid_nil b bytes (inr (front, last, split, some, e)) = absurd (no_push_is_nil front last split)

laid_last : (b : ℕ) (bytes : List ℕ) (l : List ℕ) (ls front : List (List ℕ)) (last : List ℕ) → l ∷ ls ≡ front ++ last ∷ [] → 0 < length last → bytes ≡ ended front ++ last → IsLaidOut (b ∷ bytes) ((b ∷ l) ∷ ls)
laid_last b bytes l ls [] last split some e =
    let same : l ≡ last = cc in
    let none : ls ≡ [] = cc in
    inr ([], b ∷ l, rw none refl, omega arith, ap (λ x. b ∷ x) (e ∙ sym same))
laid_last b bytes l ls (f ∷ front) last split some e =
    let same : l ≡ f = cc in
    let rest : ls ≡ front ++ last ∷ [] = cc in
    inr ((b ∷ f) ∷ front, last, rw (same, rest) refl, some, ap (λ x. b ∷ x) e)

laid_onto : (b : ℕ) (bytes : List ℕ) (ls : List (List ℕ)) → IsLaidOut bytes ls → IsLaidOut (b ∷ bytes) (onto b ls)
laid_onto b bytes [] laid = laid_nil b bytes laid
laid_onto b bytes (l ∷ ls) (inl e) = inl (ap (λ x. b ∷ x) e)
laid_onto b bytes (l ∷ ls) (inr (front, last, split, some, e)) = laid_last b bytes l ls front last split some e

clear_onto : (b : ℕ) (ls : List (List ℕ)) → b ≢ 10 → AllByRecursion NoBreak ls → AllByRecursion NoBreak (onto b ls)
clear_onto b [] other clear = ((other, tt), tt)
clear_onto b (l ∷ ls) other clear = ((other, clear.0), clear.1)

text_by : (t : Bool) (b : ℕ) (bytes : List ℕ) → (b == 10) ≡ t → IsText bytes (lines_of bytes) → IsText (b ∷ bytes) (if t then [] ∷ lines_of bytes else onto b (lines_of bytes))
text_by true b bytes e rest =
    let break : b ≡ 10 = grind (arith, nat_tests) in
    ((tt, rest.0), rw break (laid_break bytes (lines_of bytes) rest.1))
text_by false b bytes e rest =
    let other : b ≢ 10 = grind (arith, nat_tests) in
    (clear_onto b (lines_of bytes) other rest.0, laid_onto b bytes (lines_of bytes) rest.1)

-- each text has its lines
pub text_lines : (bytes : List ℕ) → IsText bytes (lines_of bytes)
text_lines [] = (tt, inl refl)
text_lines (b ∷ bytes) = text_by (b == 10) b bytes refl (text_lines bytes)

pub lines_from_zip : (bytes : List ℕ) (ts : List Table) → AllZip Spells (lines_of bytes) ts → IsLines bytes ts
lines_from_zip bytes ts zip = (lines_of bytes, text_lines bytes, zip)

-- ---- reports
pub ended-append : (xs ys : List (List ℕ)) → ended (xs ++ ys) ≡ ended xs ++ ended ys
ended-append [] ys = refl
ended-append (x ∷ xs) ys = ap (λ l. (x ++ 10 ∷ []) ++ l) (ended-append xs ys) ∙ sym (append_assoc (x ++ 10 ∷ []) (ended xs) (ended ys))

pub ended_push : (xs : List (List ℕ)) (x : List ℕ) → ended (xs ++ x ∷ []) ≡ ended xs ++ (x ++ 10 ∷ [])
ended_push xs x = ended-append xs (x ∷ []) ∙ ap (λ l. ended xs ++ l) (append-nil (x ++ 10 ∷ []))

pub joined_push : (runs : List (List ℕ)) (run : List ℕ) → 0 < length runs → joined (runs ++ run ∷ []) ≡ joined runs ++ 32 ∷ run
joined_push [] run some = absurd (omega arith)
joined_push (r ∷ []) run some = refl
joined_push (r ∷ s ∷ runs) run some = ap (λ l. r ++ 32 ∷ l) (joined_push (s ∷ runs) run (omega arith)) ∙ sym (append_assoc r (32 ∷ joined (s ∷ runs)) (32 ∷ run))

-- ---- a text has no other lines
clear_test : (b : ℕ) → b ≢ 10 → (b == 10) ≡ false
clear_test b other = grind (arith, nat_tests)

line_then : (line rest : List ℕ) → NoBreak line → lines_of (line ++ 10 ∷ rest) ≡ line ∷ lines_of rest
line_then [] rest clear = refl
line_then (b ∷ line) rest clear = rw (clear_test b clear.0, line_then line rest clear.1) refl

line_alone : (line : List ℕ) → NoBreak line → 0 < length line → lines_of line ≡ line ∷ []
line_alone [] clear some = absurd (omega arith)
line_alone (b ∷ []) clear some = rw (clear_test b clear.0) refl
line_alone (b ∷ c ∷ line) clear some = rw (clear_test b clear.0) (ap (onto b) (line_alone (c ∷ line) clear.1 (omega arith)))

lines_ended : (lines : List (List ℕ)) (rest : List ℕ) → AllByRecursion NoBreak lines → lines_of (ended lines ++ rest) ≡ lines ++ lines_of rest
lines_ended [] rest clear = refl
lines_ended (l ∷ lines) rest clear =
    let laid : ended (l ∷ lines) ++ rest ≡ l ++ 10 ∷ (ended lines ++ rest) = append_assoc (l ++ 10 ∷ []) (ended lines) rest ∙ append_assoc l (10 ∷ []) (ended lines ++ rest) in
    ap lines_of laid ∙ line_then l (ended lines ++ rest) clear.0 ∙ ap (λ ls. l ∷ ls) (lines_ended lines rest clear.1)

clear_front : (front : List (List ℕ)) (last : List ℕ) → AllByRecursion NoBreak (front ++ last ∷ []) → AllByRecursion NoBreak front × NoBreak last
clear_front [] last clear = (tt, clear.0)
clear_front (f ∷ front) last clear = let rest = clear_front front last clear.1 in ((clear.0, rest.0), rest.1)

unique_by : (bytes : List ℕ) (lines : List (List ℕ)) → AllByRecursion NoBreak lines → IsLaidOut bytes lines → lines_of bytes ≡ lines
unique_by bytes lines clear (inl e) = ap lines_of (e ∙ sym (append-nil (ended lines))) ∙ lines_ended lines [] clear ∙ append-nil lines
unique_by bytes lines clear (inr (front, last, split, some, e)) =
    let parts = clear_front front last (subst (AllByRecursion NoBreak) split clear) in
    ap lines_of e ∙ lines_ended front last parts.0 ∙ ap (λ ls. front ++ ls) (line_alone last parts.1 some) ∙ sym split

pub text_unique : (bytes : List ℕ) (lines : List (List ℕ)) → IsText bytes lines → lines_of bytes ≡ lines
text_unique bytes lines text = unique_by bytes lines text.0 text.1

spelled_at : (front : List (List ℕ)) (line : List ℕ) (after : List (List ℕ)) (ts : List Table) → AllZip Spells (front ++ line ∷ after) ts → (t : Table) × Spells line t
spelled_at [] line after [] zip = absurd zip
spelled_at [] line after (t ∷ ts) zip = (t, zip.0)
spelled_at (f ∷ front) line after [] zip = absurd zip
spelled_at (f ∷ front) line after (t ∷ ts) zip = spelled_at front line after ts zip.1

-- a text with a line that spells no table doesn't spell tables
pub not_both : (bytes : List ℕ) (ts : List Table) (k : ℕ) → IsLines bytes ts → IsBadLine bytes k → ⊥
not_both bytes ts k good bad =
    let same : good.0 ≡ bad.front ++ bad.line ∷ bad.after = sym (text_unique bytes good.0 good.1) ∙ text_unique bytes (bad.front ++ bad.line ∷ bad.after) bad.text in
    let at = spelled_at bad.front bad.line bad.after ts (subst (λ ls. AllZip Spells ls ts) same good.2) in
    bad.bad at.0 at.1
