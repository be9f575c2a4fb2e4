-- The runs of a line, and the table that they spell.
use Rattle.std.proofs.Common.{◌≡◌, ℕ, zero, suc, ◌<◌, List, [], ◌∷◌, ◌++◌, length, refl, sym, ◌∙◌, ap, subst, arith, Bool, true, false, ◌==◌, if◌then◌else◌}
use Rattle.std.specs.Char.{digit_value}
use Rattle.std.specs.Str.Parse.{AllDigits}
use Rattle.std.specs.List.{AllByRecursion, AllZip}
use Rattle.std.proofs.lemmas.Bool.Decides.{nat_tests}
use Rattle.stabby_tables.specs.Tables.{Table}
use Rattle.stabby_tables.specs.Pieces.{onto, runs_of}
use Rattle.stabby_tables.specs.Lines.{joined, Spells, SpellsWord}
use Rattle.stabby_tables.proofs.Zips.{zip_at}

pub some_run : (line : List ℕ) → 0 < length (runs_of line)
some_run [] = omega arith
some_run (b ∷ line) = by (b == 32) (runs_of line)
  where
    by : (t : Bool) (rs : List (List ℕ)) → 0 < length (if t then [] ∷ rs else onto b rs)
    by true rs = omega arith
    by false [] = omega arith
    by false (r ∷ rs) = omega arith

joined_onto : (b : ℕ) (rs : List (List ℕ)) → 0 < length rs → joined (onto b rs) ≡ b ∷ joined rs
joined_onto b [] some = absurd (omega arith)
joined_onto b (r ∷ []) some = refl
joined_onto b (r ∷ s ∷ rs) some = refl

joined_space : (rs : List (List ℕ)) → 0 < length rs → joined ([] ∷ rs) ≡ 32 ∷ joined rs
joined_space [] some = absurd (omega arith)
joined_space (r ∷ rs) some = refl

joined_by : (t : Bool) (b : ℕ) (line : List ℕ) → (b == 32) ≡ t → joined (runs_of line) ≡ line → joined (if t then [] ∷ runs_of line else onto b (runs_of line)) ≡ b ∷ line
joined_by true b line e rest =
    let space : b ≡ 32 = grind (arith, nat_tests) in
    joined_space (runs_of line) (some_run line) ∙ rw (rest, space) refl
joined_by false b line e rest = joined_onto b (runs_of line) (some_run line) ∙ rw rest refl

pub joined_runs : (line : List ℕ) → joined (runs_of line) ≡ line
joined_runs [] = refl
joined_runs (b ∷ line) = joined_by (b == 32) b line refl (joined_runs line)

-- digits have no space among them
abbrev pub NoSpace : List ℕ → Type 0
NoSpace run = AllByRecursion (λ b. (b == 32) ≡ false) run

digit_no_space : (c : ℕ) → digit_value c < 10 → (c == 32) ≡ false
digit_no_space c h = grind (arith, nat_tests)

pub digits_no_space : (run : List ℕ) → AllDigits 10 run → NoSpace run
digits_no_space [] all = tt
digits_no_space (c ∷ run) all = (digit_no_space c all.0, digits_no_space run all.1)

pub runs_one : (run : List ℕ) → NoSpace run → runs_of run ≡ run ∷ []
runs_one [] clear = refl
runs_one (b ∷ run) clear = rw (clear.0, runs_one run clear.1) refl

pub runs_more : (run rest : List ℕ) → NoSpace run → runs_of (run ++ 32 ∷ rest) ≡ run ∷ runs_of rest
runs_more [] rest clear = refl
runs_more (b ∷ run) rest clear = rw (clear.0, runs_more run rest clear.1) refl

pub runs_joined : (run : List ℕ) (runs : List (List ℕ)) → AllByRecursion NoSpace (run ∷ runs) → runs_of (joined (run ∷ runs)) ≡ run ∷ runs
runs_joined run [] clear = runs_one run clear.0
runs_joined run (next ∷ runs) clear = runs_more run (joined (next ∷ runs)) clear.0 ∙ ap (λ rs. run ∷ rs) (runs_joined next runs clear.1)

spelled_no_space : (runs : List (List ℕ)) (t : Table) → AllZip SpellsWord runs t → AllByRecursion NoSpace runs
spelled_no_space [] [] zip = tt
spelled_no_space [] (w ∷ t) zip = tt
spelled_no_space (r ∷ runs) [] zip = absurd zip
spelled_no_space (r ∷ runs) (w ∷ t) zip = (digits_no_space r zip.0.digits.1, spelled_no_space runs t zip.1)

-- the runs of a line, of which the empty line has none
abbrev pub words_of : List ℕ → List (List ℕ)
words_of [] = []
words_of (b ∷ line) = runs_of (b ∷ line)

joined_words : (line : List ℕ) → joined (words_of line) ≡ line
joined_words [] = refl
joined_words (b ∷ line) = joined_runs (b ∷ line)

pub table_spelled : (line : List ℕ) (t : Table) → AllZip SpellsWord (words_of line) t → Spells line t
table_spelled line t zip = (words_of line, zip, sym (joined_words line))

empty_join : (runs : List (List ℕ)) (t : Table) → AllZip SpellsWord runs t → [] ≡ joined runs → AllZip SpellsWord [] t
empty_join [] t zip e = zip
empty_join (r ∷ runs) [] zip e = absurd zip
empty_join ([] ∷ runs) (w ∷ t) zip e = absurd (omega (arith, zip.0.digits.0))
empty_join ((b ∷ r) ∷ []) (w ∷ t) zip e = absurd (cc)
empty_join ((b ∷ r) ∷ s ∷ runs) (w ∷ t) zip e = absurd (cc)

full_join : (b : ℕ) (line : List ℕ) (runs : List (List ℕ)) (t : Table) → AllZip SpellsWord runs t → b ∷ line ≡ joined runs → AllZip SpellsWord (runs_of (b ∷ line)) t
full_join b line [] t zip e = absurd (cc)
full_join b line (r ∷ runs) t zip e = subst (λ l. AllZip SpellsWord (runs_of l) t) (sym e) (rw (runs_joined r runs (spelled_no_space (r ∷ runs) t zip)) zip)

pub words_spell : (line : List ℕ) (t : Table) → Spells line t → AllZip SpellsWord (words_of line) t
words_spell [] t s = empty_join s.0 t s.1 s.2
words_spell (b ∷ line) t s = full_join b line s.0 t s.1 s.2

pub no_table : (line : List ℕ) (front : List (List ℕ)) (run : List ℕ) (after : List (List ℕ)) → words_of line ≡ front ++ run ∷ after → ((w : ℕ) → SpellsWord run w → ⊥) → (t : Table) → Spells line t → ⊥
no_table line front run after split none t s =
    let at = zip_at SpellsWord front run after t (rw (← split) (words_spell line t s)) in
    none at.0 at.1
