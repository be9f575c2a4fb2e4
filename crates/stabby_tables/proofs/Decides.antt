-- Each text spells tables, or has a first line that spells none.
use Rattle.std.proofs.Common.{◌≡◌, ℕ, ◌+◌, ◌^◌, ◌<◌, ◌≤◌, List, [], ◌∷◌, ◌++◌, length, refl, sym, ◌∙◌, ap, subst, arith, ◌⊎◌, inl, inr}
use Rattle.std.specs.Char.{digit_value}
use Rattle.std.specs.Str.Parse.{AllDigits, IsNumeral, digits_value}
use Rattle.std.specs.List.{AllZip}
use Rattle.std.proofs.lemmas.Bool.{cases_lt}
use Rattle.stabby_tables.specs.Tables.{Table}
use Rattle.stabby_tables.specs.Pieces.{lines_of}
use Rattle.stabby_tables.specs.Lines.{SpellsWord, Spells, SpellsNone, IsText, IsLines, IsBadLine}
use Rattle.stabby_tables.proofs.Runs.{words_of, table_spelled, words_spell}
use Rattle.stabby_tables.proofs.Texts.{text_lines, text_unique}

-- ---- a table is the only one that its line spells
word_once : (run : List ℕ) (v w : ℕ) → SpellsWord run v → SpellsWord run w → v ≡ w
word_once run v w p q = sym p.value ∙ q.value

words_once : (runs : List (List ℕ)) (t u : Table) → AllZip SpellsWord runs t → AllZip SpellsWord runs u → t ≡ u
words_once [] [] [] p q = refl
words_once [] [] (y ∷ u) p q = absurd q
words_once [] (x ∷ t) u p q = absurd p
words_once (r ∷ runs) [] u p q = absurd p
words_once (r ∷ runs) (x ∷ t) [] p q = absurd q
words_once (r ∷ runs) (x ∷ t) (y ∷ u) p q = ap (λ w. w ∷ t) (word_once r x y p.0 q.0) ∙ ap (λ l. y ∷ l) (words_once runs t u p.1 q.1)

table_once : (line : List ℕ) (t u : Table) → Spells line t → Spells line u → t ≡ u
table_once line t u p q = words_once (words_of line) t u (words_spell line t p) (words_spell line u q)

zipped_once : (lines : List (List ℕ)) (ts us : List Table) → AllZip Spells lines ts → AllZip Spells lines us → ts ≡ us
zipped_once [] [] [] p q = refl
zipped_once [] [] (y ∷ us) p q = absurd q
zipped_once [] (x ∷ ts) us p q = absurd p
zipped_once (l ∷ lines) [] us p q = absurd p
zipped_once (l ∷ lines) (x ∷ ts) [] p q = absurd q
zipped_once (l ∷ lines) (x ∷ ts) (y ∷ us) p q = ap (λ w. w ∷ ts) (table_once l x y p.0 q.0) ∙ ap (λ z. y ∷ z) (zipped_once lines ts us p.1 q.1)

-- a text spells one list of tables
pub tables_once : (bytes : List ℕ) (ts us : List Table) → IsLines bytes ts → IsLines bytes us → ts ≡ us
tables_once bytes ts us p q = zipped_once (lines_of bytes) ts us
    (subst (λ ls. AllZip Spells ls ts) (sym (text_unique bytes p.0 p.1)) p.2)
    (subst (λ ls. AllZip Spells ls us) (sym (text_unique bytes q.0 q.1)) q.2)

-- ---- what a line spells can be told
digits_or_not : (run : List ℕ) → AllDigits 10 run ⊎ (AllDigits 10 run → ⊥)
digits_or_not [] = inl tt
digits_or_not (c ∷ run) = by (cases_lt (digit_value c) 10) (digits_or_not run)
  where
    by : (digit_value c < 10) ⊎ (10 ≤ digit_value c) → AllDigits 10 run ⊎ (AllDigits 10 run → ⊥) → AllDigits 10 (c ∷ run) ⊎ (AllDigits 10 (c ∷ run) → ⊥)
    by (inl low) (inl all) = inl (low, all)
    by (inl low) (inr some) = inr (λ h. some h.1)
    by (inr high) rest = inr (λ h. absurd (omega (arith, high, h.0)))

word_or_none : (run : List ℕ) → ((w : ℕ) × SpellsWord run w) ⊎ ((w : ℕ) → SpellsWord run w → ⊥)
word_or_none run = by (cases_lt 0 (length run)) (digits_or_not run) (cases_lt (digits_value 10 run) (2 ^ 64))
  where
    by : (0 < length run) ⊎ (length run ≤ 0) → AllDigits 10 run ⊎ (AllDigits 10 run → ⊥) → (digits_value 10 run < 2 ^ 64) ⊎ (2 ^ 64 ≤ digits_value 10 run) → ((w : ℕ) × SpellsWord run w) ⊎ ((w : ℕ) → SpellsWord run w → ⊥)
    by (inl some) (inl all) (inl low) = inl (digits_value 10 run, record { digits = (some, all); value = refl; fits = low })
    by (inl some) (inl all) (inr high) = inr (λ w s. let v = s.value in let f = s.fits in absurd (omega (arith, high, v, f)))
    by (inl some) (inr other) fits = inr (λ w s. other s.digits.1)
    by (inr none) all fits = inr (λ w s. absurd (omega (arith, none, s.digits.0)))

words_or_none : (runs : List (List ℕ)) → ((t : Table) × AllZip SpellsWord runs t) ⊎ ((t : Table) → AllZip SpellsWord runs t → ⊥)
words_or_none [] = inl ([], tt)
words_or_none (r ∷ runs) = by (word_or_none r) (words_or_none runs)
  where
    by : ((w : ℕ) × SpellsWord r w) ⊎ ((w : ℕ) → SpellsWord r w → ⊥) → ((t : Table) × AllZip SpellsWord runs t) ⊎ ((t : Table) → AllZip SpellsWord runs t → ⊥) → ((t : Table) × AllZip SpellsWord (r ∷ runs) t) ⊎ ((t : Table) → AllZip SpellsWord (r ∷ runs) t → ⊥)
    by (inl (w, one)) (inl (t, rest)) = inl (w ∷ t, (one, rest))
    by (inl word) (inr other) = inr rest_fails
      where
        rest_fails : (t : Table) → AllZip SpellsWord (r ∷ runs) t → ⊥
        rest_fails [] zip = zip
        rest_fails (w ∷ t) zip = other t zip.1
    by (inr other) rest = inr first_fails
      where
        first_fails : (t : Table) → AllZip SpellsWord (r ∷ runs) t → ⊥
        first_fails [] zip = zip
        first_fails (w ∷ t) zip = other w zip.0

table_or_none : (line : List ℕ) → ((t : Table) × Spells line t) ⊎ SpellsNone line
table_or_none line = by (words_or_none (words_of line))
  where
    by : ((t : Table) × AllZip SpellsWord (words_of line) t) ⊎ ((t : Table) → AllZip SpellsWord (words_of line) t → ⊥) → ((t : Table) × Spells line t) ⊎ SpellsNone line
    by (inl (t, zip)) = inl (t, table_spelled line t zip)
    by (inr other) = inr (λ t s. other t (words_spell line t s))

-- all lines spell tables, or one is the first that spells none
record HasBadLine (lines : List (List ℕ)) : Type 0 where
  front : List (List ℕ)
  line : List ℕ
  after : List (List ℕ)
  split : lines ≡ front ++ line ∷ after
  tables : List Table
  good : AllZip Spells front tables
  bad : SpellsNone line

later_line : (l : List ℕ) (lines : List (List ℕ)) (t : Table) → Spells l t → HasBadLine lines → HasBadLine (l ∷ lines)
later_line l lines t one b = record { front = l ∷ b.front; line = b.line; after = b.after; split = ap (λ ls. l ∷ ls) b.split; tables = t ∷ b.tables; good = (one, b.good); bad = b.bad }

lines_or_bad : (lines : List (List ℕ)) → ((ts : List Table) × AllZip Spells lines ts) ⊎ HasBadLine lines
lines_or_bad [] = inl ([], tt)
lines_or_bad (l ∷ lines) = by (table_or_none l) (lines_or_bad lines)
  where
    by : ((t : Table) × Spells l t) ⊎ SpellsNone l → ((ts : List Table) × AllZip Spells lines ts) ⊎ HasBadLine lines → ((ts : List Table) × AllZip Spells (l ∷ lines) ts) ⊎ HasBadLine (l ∷ lines)
    by (inl (t, one)) (inl (ts, rest)) = inl (t ∷ ts, (one, rest))
    by (inl (t, one)) (inr b) = inr (later_line l lines t one b)
    by (inr none) rest = inr (record { front = []; line = l; after = lines; split = refl; tables = []; good = tt; bad = none })

pub one_holds : (bytes : List ℕ) → ((ts : List Table) × IsLines bytes ts) ⊎ ((k : ℕ) × IsBadLine bytes k)
one_holds bytes = by (lines_or_bad (lines_of bytes))
  where
    by : ((ts : List Table) × AllZip Spells (lines_of bytes) ts) ⊎ HasBadLine (lines_of bytes) → ((ts : List Table) × IsLines bytes ts) ⊎ ((k : ℕ) × IsBadLine bytes k)
    by (inl (ts, zip)) = inl (ts, (lines_of bytes, text_lines bytes, zip))
    by (inr b) = inr (length b.front + 1, record { front = b.front; line = b.line; after = b.after; text = subst (IsText bytes) b.split (text_lines bytes); place = refl; tables = b.tables; good = b.good; bad = b.bad })
