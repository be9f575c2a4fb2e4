-- Reading a line byte by byte.
use Rattle.std.proofs.Common.{◌≡◌, ◌≢◌, ℕ, ◌+◌, ◌*◌, ◌^◌, ◌<◌, ◌≤◌, ◌==◌, List, [], ◌∷◌, ◌++◌, length, get_or, take, drop, refl, sym, ◌∙◌, ap, arith, Bool, true, false, if◌then◌else◌, nat_lt, append_assoc, append-nil, ◌⊎◌}
use mathlib.Core.Bool.{false≢true}
use Rattle.std.specs.List.{AllZip}
use Rattle.std.specs.Char.{digit_value}
use Rattle.std.specs.Str.Parse.{AllDigits, digits_value}
use Rattle.std.proofs.lemmas.List.{take_more}
use Rattle.std.proofs.lemmas.Bool.Decides.{nat_tests}
use Rattle.stabby_tables.specs.Pieces.{onto, runs_of}
use Rattle.stabby_tables.specs.Lines.{SpellsWord, Spells, SpellsNone}
use Rattle.stabby_tables.proofs.Runs.{some_run, words_of, table_spelled, no_table}
use Rattle.stabby_tables.proofs.Zips.{zip_push}
use Rattle.stabby_intern.proofs.Words.{digits_push, value-append, none_through, split_at}

-- the runs of two parts of a line: the last of the first part goes on in the first of the second
abbrev glued : List (List ℕ) → List (List ℕ) → List (List ℕ)
glued [] ys = ys
glued (x ∷ []) [] = x ∷ []
glued (x ∷ []) (y ∷ ys) = (x ++ y) ∷ ys
glued (x ∷ z ∷ xs) ys = x ∷ glued (z ∷ xs) ys

glued_space : (xs ys : List (List ℕ)) → 0 < length xs → glued ([] ∷ xs) ys ≡ [] ∷ glued xs ys
glued_space [] ys some = absurd (omega arith)
glued_space (x ∷ xs) ys some = refl

glued_onto : (b : ℕ) (xs ys : List (List ℕ)) → 0 < length xs → glued (onto b xs) ys ≡ onto b (glued xs ys)
glued_onto b [] ys some = absurd (omega arith)
glued_onto b (x ∷ []) [] some = refl
glued_onto b (x ∷ []) (y ∷ ys) some = refl
glued_onto b (x ∷ z ∷ xs) ys some = refl

runs-append_by : (t : Bool) (b : ℕ) (xs ys : List ℕ) → runs_of (xs ++ ys) ≡ glued (runs_of xs) (runs_of ys)
    → (if t then [] ∷ runs_of (xs ++ ys) else onto b (runs_of (xs ++ ys))) ≡ glued (if t then [] ∷ runs_of xs else onto b (runs_of xs)) (runs_of ys)
runs-append_by true b xs ys rest = ap (λ l. [] ∷ l) rest ∙ sym (glued_space (runs_of xs) (runs_of ys) (some_run xs))
runs-append_by false b xs ys rest = ap (onto b) rest ∙ sym (glued_onto b (runs_of xs) (runs_of ys) (some_run xs))

glued_empty : (ys : List (List ℕ)) → 0 < length ys → glued ([] ∷ []) ys ≡ ys
glued_empty [] some = absurd (omega arith)
glued_empty (y ∷ ys) some = refl

runs-append : (xs ys : List ℕ) → runs_of (xs ++ ys) ≡ glued (runs_of xs) (runs_of ys)
runs-append [] ys = sym (glued_empty (runs_of ys) (some_run ys))
runs-append (b ∷ xs) ys = runs-append_by (b == 32) b xs ys (runs-append xs ys)

glued_last : (done : List (List ℕ)) (run first : List ℕ) (others : List (List ℕ)) → glued (done ++ run ∷ []) (first ∷ others) ≡ done ++ (run ++ first) ∷ others
glued_last [] run first others = refl
glued_last (d ∷ []) run first others = refl
glued_last (d ∷ e ∷ done) run first others = ap (λ l. d ∷ l) (glued_last (e ∷ done) run first others)

runs_on : (xs ys : List ℕ) (done : List (List ℕ)) (run first : List ℕ) (others : List (List ℕ)) → runs_of xs ≡ done ++ run ∷ [] → runs_of ys ≡ first ∷ others → runs_of (xs ++ ys) ≡ done ++ (run ++ first) ∷ others
runs_on xs ys done run first others p q = runs-append xs ys ∙ rw (p, q) (glued_last done run first others)

-- what was seen of a line: whole words, and the digits of the word that is being read
pub record Scanned (seen words : List ℕ) (value : ℕ) (begun : Bool) : Type 0 where
  pub done : List (List ℕ)
  pub run : List ℕ
  pub runs : runs_of seen ≡ done ++ run ∷ []
  pub spelled : AllZip SpellsWord done words
  pub digits : AllDigits 10 run
  pub value_is : value ≡ digits_value 10 run
  pub begun_is : begun ≡ nat_lt 0 (length run)
  pub fits : value < 2 ^ 64

pub nothing_scanned : (words : List ℕ) → words ≡ [] → Scanned [] words 0 false
nothing_scanned words none = rw none (record { done = []; run = []; runs = refl; spelled = tt; digits = tt; value_is = refl; begun_is = refl; fits = omega arith })

word_read : (run : List ℕ) (value : ℕ) → AllDigits 10 run → value ≡ digits_value 10 run → true ≡ nat_lt 0 (length run) → value < 2 ^ 64 → SpellsWord run value
word_read run value digits is begun fits = record { digits = (grind (arith, nat_tests), digits); value = sym is; fits = fits }

-- a space ends a word
pub word_ends : (line : List ℕ) (i : ℕ) (words words' : List ℕ) (value : ℕ) → i < length line → get_or line i 0 ≡ 32 → words' ≡ words ++ value ∷ [] → Scanned (take i line) words value true → Scanned (take (i + 1) line) words' 0 false
word_ends line i words words' value lt space pushed s =
    let part : take (i + 1) line ≡ take i line ++ 32 ∷ [] = take_more line i 0 lt ∙ ap (λ (b : ℕ). take i line ++ b ∷ []) space in
    record {
      done = s.done ++ s.run ∷ [];
      run = [];
      runs = rw part (runs_on (take i line) (32 ∷ []) s.done s.run [] ([] ∷ []) s.runs refl ∙ rw (append-nil s.run) (sym (append_assoc s.done (s.run ∷ []) ([] ∷ []))));
      spelled = rw pushed (zip_push SpellsWord s.done words s.run value s.spelled (word_read s.run value s.digits s.value_is s.begun_is s.fits));
      digits = tt;
      value_is = refl;
      begun_is = refl;
      fits = omega arith;
    }

runs_of_digit : (b : ℕ) → b ≢ 32 → runs_of (b ∷ []) ≡ (b ∷ []) ∷ []
runs_of_digit b other = let e : (b == 32) ≡ false = grind (arith, nat_tests) in rw e refl

longer_begun : (run : List ℕ) (b : ℕ) → true ≡ nat_lt 0 (length (run ++ b ∷ []))
longer_begun [] b = refl
longer_begun (c ∷ run) b = grind (arith, nat_tests)

digit_no_space : (b : ℕ) → digit_value b < 10 → b ≢ 32
digit_no_space b low e = absurd (omega (arith, rw e at low))

-- a digit goes on with one
pub word_goes_on : (line : List ℕ) (i : ℕ) (words : List ℕ) (value next : ℕ) (begun : Bool) → i < length line → digit_value (get_or line i 0) < 10 → next ≡ value * 10 + digit_value (get_or line i 0) → next < 2 ^ 64 → Scanned (take i line) words value begun → Scanned (take (i + 1) line) words next true
word_goes_on line i words value next begun lt low more fits s =
    let b = get_or line i 0 in
    let part : take (i + 1) line ≡ take i line ++ b ∷ [] = take_more line i 0 lt in
    record {
      done = s.done;
      run = s.run ++ b ∷ [];
      runs = rw part (runs_on (take i line) (b ∷ []) s.done s.run (b ∷ []) [] s.runs (runs_of_digit b (digit_no_space b low)));
      spelled = s.spelled;
      digits = digits_push s.run b s.digits low;
      value_is = more ∙ rw (value-append 0 s.run (b ∷ []), ← s.value_is) refl;
      begun_is = longer_begun s.run b;
      fits = fits;
    }

-- the words of a line that isn't empty are its runs
words_are_runs : (line : List ℕ) → 0 < length line → words_of line ≡ runs_of line
words_are_runs [] some = absurd (omega arith)
words_are_runs (b ∷ line) some = refl

no_word_empty : (w : ℕ) → SpellsWord [] w → ⊥
no_word_empty w s = absurd (omega (arith, s.digits.0))

not_begun : (run : List ℕ) → false ≡ nat_lt 0 (length run) → run ≡ []
not_begun [] e = refl
not_begun (c ∷ run) e = absurd (false≢true (e ∙ grind (arith, nat_tests)))

some_at : (line : List ℕ) (i : ℕ) → i < length line → 0 < length line
some_at line i lt = omega (arith, lt)

-- a space where no word has begun
pub space_too_many : (line : List ℕ) (i : ℕ) (words : List ℕ) (value : ℕ) → i < length line → get_or line i 0 ≡ 32 → Scanned (take i line) words value false → SpellsNone line
space_too_many line i words value lt space s =
    let more = drop (i + 1) line in
    let empty : s.run ≡ [] = not_begun s.run s.begun_is in
    let cut : take i line ++ 32 ∷ more ≡ line = ap (λ (b : ℕ). take i line ++ b ∷ more) (sym space) ∙ split_at line i lt in
    let runs : runs_of line ≡ s.done ++ [] ∷ runs_of more =
    ap runs_of (sym cut) ∙ runs_on (take i line) (32 ∷ more) s.done s.run [] (runs_of more) s.runs refl ∙ ap (λ (r : List ℕ). s.done ++ (r ++ []) ∷ runs_of more) empty in
    no_table line s.done [] (runs_of more) (words_are_runs line (some_at line i lt) ∙ runs) no_word_empty

-- the first run of what is left
head_run : (b : ℕ) (more : List ℕ) → b ≢ 32 → (rest : List ℕ) × (others : List (List ℕ)) × (runs_of (b ∷ more) ≡ (b ∷ rest) ∷ others)
head_run b more other = let e : (b == 32) ≡ false = grind (arith, nat_tests) in rw e (by (runs_of more) (some_run more))
  where
    by : (rs : List (List ℕ)) → 0 < length rs → (rest : List ℕ) × (others : List (List ℕ)) × (onto b rs ≡ (b ∷ rest) ∷ others)
    by [] some = absurd (omega arith)
    by (r ∷ rs) some = (r, rs, refl)

-- a byte that is no digit, or that takes the word past the greatest
pub no_digit : (line : List ℕ) (i : ℕ) (words : List ℕ) (value : ℕ) (begun : Bool) → i < length line → get_or line i 0 ≢ 32 → (10 ≤ digit_value (get_or line i 0)) ⊎ (2 ^ 64 ≤ value * 10 + digit_value (get_or line i 0)) → Scanned (take i line) words value begun → SpellsNone line
no_digit line i words value begun lt other why s =
    let b = get_or line i 0 in
    let more = drop (i + 1) line in
    let head = head_run b more other in
    let runs : runs_of line ≡ s.done ++ (s.run ++ b ∷ head.0) ∷ head.1 =
    ap runs_of (sym (split_at line i lt)) ∙ runs_on (take i line) (b ∷ more) s.done s.run (b ∷ head.0) head.1 s.runs head.2 in
    no_table line s.done (s.run ++ b ∷ head.0) head.1 (words_are_runs line (some_at line i lt) ∙ runs) (none_through s.run head.0 b value s.value_is why)

-- the line is at its end
pub ends_in_space : (line words : List ℕ) (value : ℕ) → 0 < length line → Scanned line words value false → SpellsNone line
ends_in_space line words value some s =
    no_table line s.done [] [] (words_are_runs line some ∙ s.runs ∙ ap (λ (r : List ℕ). s.done ++ r ∷ []) (not_begun s.run s.begun_is)) no_word_empty

pub line_read : (line words words' : List ℕ) (value : ℕ) → 0 < length line → words' ≡ words ++ value ∷ [] → Scanned line words value true → Spells line words'
line_read line words words' value some pushed s =
    table_spelled line words' (rw (words_are_runs line some, s.runs, pushed) (zip_push SpellsWord s.done words s.run value s.spelled (word_read s.run value s.digits s.value_is s.begun_is s.fits)))
