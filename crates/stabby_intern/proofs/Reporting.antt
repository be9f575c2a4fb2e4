-- How the text of a report grows, and that it is the report.
use Rattle.std.proofs.Common.{◌≡◌, ℕ, suc, ◌+◌, ◌<◌, List, [], ◌∷◌, ◌++◌, length, map, take, get_or, refl, sym, ◌∙◌, ap, subst, arith, Bool, true, false, if◌then◌else◌, nat_lt, inr}
use mathlib.Core.Bool.{false≢true}
use Rattle.std.specs.Fmt.{decimal}
use Rattle.std.proofs.lemmas.List.{take_more}
use Rattle.std.proofs.lemmas.Grind.{common_steps}
use Rattle.std.proofs.lemmas.Bool.Decides.{nat_tests}
use Rattle.stabby_tables.specs.Tables.{Table, is_same}
use Rattle.stabby_tables.specs.Lists.{has, distinct, place, increasing, ordered, rank, entry_place, IsDistinct, HoldsEachOnce, AppendsAbsent, AppendsSome}
use Rattle.stabby_tables.specs.Shares.{IsFirstInShare}
use Rattle.stabby_tables.specs.Pieces.{lines_of}
use Rattle.stabby_tables.specs.Lines.{joined, ended, IsText, IsBadLine, Spells}
use Rattle.stabby_tables.specs.Reports.{spelled, rank_report, number_report}
use Rattle.std.specs.List.{AllZip}
use Rattle.stabby_intern.specs.Parsing.{IsBadAt}
use Rattle.stabby_intern.specs.declared.command.Task.{Task}
use Rattle.stabby_intern.specs.declared.command.Task.TheVariants as tasks
use Rattle.stabby_intern.specs.Printing.{text_of}
use Rattle.stabby_intern.specs.Runs.{PartlyAdded, Reported, task_report}
use Rattle.stabby_intern.proofs.ByNumber.{listed-ordered}
use Rattle.stabby_registry.specs.Catalog.{listed}
use Rattle.stabby_registry.specs.Interned.{InternedValue}
use Rattle.stabby_tables.proofs.Growing.{has_distinct, same_itself}
use Rattle.stabby_tables.proofs.Sorted.{increasing_unique}
use Rattle.stabby_tables.proofs.Ranks.{rank_by_entries}
use Rattle.stabby_tables.proofs.Texts.{joined_push, text_lines, lines_from_zip}

map_push : (ws : List ℕ) (w : ℕ) → map decimal (ws ++ w ∷ []) ≡ map decimal ws ++ decimal w ∷ []
map_push [] w = refl
map_push (v ∷ ws) w = ap (λ l. decimal v ∷ l) (map_push ws w)

length_map : (ws : List ℕ) → length (map decimal ws) ≡ length ws
length_map [] = refl
length_map (w ∷ ws) = ap suc (length_map ws)

word_by : (b : Bool) (front : List ℕ) (w : ℕ) → b ≡ nat_lt 0 (length front) → spelled (front ++ w ∷ []) ≡ spelled front ++ (if b then 32 ∷ decimal w else decimal w)
word_by b [] w is = rw is refl
word_by true (v ∷ front) w is = ap joined (map_push (v ∷ front) w) ∙ joined_push (map decimal (v ∷ front)) (decimal w) (omega (arith, length_map (v ∷ front)))
word_by false (v ∷ front) w is = absurd (false≢true (is ∙ grind (arith, nat_tests)))

-- one word more
pub spelled_step : (ws : List ℕ) (i : ℕ) (between : Bool) → i < length ws → between ≡ nat_lt 0 i → spelled (take (i + 1) ws) ≡ spelled (take i ws) ++ (if between then 32 ∷ decimal (get_or ws i 0) else decimal (get_or ws i 0))
spelled_step ws i between lt is =
    let size : length (take i ws) ≡ i = grind (arith, common_steps) in
    rw (take_more ws i 0 lt) (word_by between (take i ws) (get_or ws i 0) (rw size is))

-- the places of the entries are the ranks
pub ranks_part : (ts f us : List Table) → HoldsEachOnce ts f → ((u : Table) → has us u ≡ true → has ts u ≡ true)
    → map (entry_place (ordered f)) (map (place f) us) ≡ map (rank (distinct ts)) us
ranks_part ts f [] holds members = refl
ranks_part ts f (u ∷ us) holds members =
    let first : has ts u ≡ true = members u (rw (same_itself u) refl) in
    let rest : (w : Table) → has us w ≡ true → has ts w ≡ true = λ w m. members w (elim (is_same u w) as (λ b. (if b then true else has us w) ≡ true) [ true ↦ refl | false ↦ m ]) in
    rw (rank_by_entries ts f u holds first, ranks_part ts f us holds rest) refl

decimals : (g : Table → ℕ) (us : List Table) → map decimal (map g us) ≡ map (λ t. decimal (g t)) us
decimals g [] = refl
decimals g (u ∷ us) = ap (λ l. decimal (g u) ∷ l) (decimals g us)

numbers_part : (ts f : List Table) → HoldsEachOnce ts f → map decimal (map (entry_place (ordered f)) (map (place f) ts)) ≡ map (λ t. decimal (rank (distinct ts) t)) ts
numbers_part ts f holds = ap (map decimal) (ranks_part ts f ts holds (λ u m. m)) ∙ decimals (rank (distinct ts)) ts

tables_part : (f s : List Table) → map (λ (e : Table × ℕ). spelled e.0) (map (λ t. (t, place f t)) s) ≡ map spelled s
tables_part f [] = refl
tables_part f (t ∷ s) = ap (λ l. spelled t ∷ l) (tables_part f s)

rank_report_is : (ts f : List Table) (numbers : List ℕ) (entries : List (Table × ℕ)) → HoldsEachOnce ts f → numbers ≡ map (place f) ts → entries ≡ ordered f
    → ended (map decimal (map (entry_place entries) numbers)) ++ ended (map (λ (e : Table × ℕ). spelled e.0) entries) ≡ rank_report ts
rank_report_is ts f numbers entries holds numbered in_order =
    let members : (t : Table) → has f t ≡ has (distinct ts) t = λ t. holds.members t ∙ sym (has_distinct ts t) in
    rw (in_order, numbered, numbers_part ts f holds, tables_part f (increasing f), increasing_unique f (distinct ts) members) refl

number_report_is : (ts f : List Table) (numbers : List ℕ) (entries : List (Table × ℕ)) → IsDistinct f → numbers ≡ map (place f) ts → entries ≡ ordered f
    → ended (map decimal numbers) ++ ended (map spelled (listed entries)) ≡ number_report ts f
number_report_is ts f numbers entries once numbered in_order = rw (in_order, numbered, decimals (place f) ts, listed-ordered f once) refl

-- the text that is made of the numbers and the entries is the report of the task
report_is : (task : Task) (ts f : List Table) (interned : InternedValue) → HoldsEachOnce ts f → interned.numbers ≡ map (place f) ts → interned.entries ≡ ordered f → text_of task interned ≡ task_report task ts f
report_is tasks.Ranks ts f interned holds numbered in_order = rank_report_is ts f interned.numbers interned.entries holds numbered in_order
report_is tasks.Numbers ts f interned holds numbered in_order = number_report_is ts f interned.numbers interned.entries holds.once numbered in_order

-- a registry that was empty holds the tables, each once
pub holds_from_empty : (ts f : List Table) → AppendsAbsent [] ts f → HoldsEachOnce ts f
holds_from_empty ts f appends = record { once = appends.some.once; members = λ t. same_by (has f t) (has ts t) refl refl (λ m. appends.some.from t (subst (λ l. has l t ≡ true) appends.some.appended m)) (appends.every t) }
  where
    same_by : (a b : Bool) → a ≡ a → b ≡ b → (a ≡ true → b ≡ true) → (b ≡ true → a ≡ true) → a ≡ b
    same_by true true p q to from = refl
    same_by true false p q to from = absurd (false≢true (to refl))
    same_by false true p q to from = absurd (false≢true (from refl))
    same_by false false p q to from = refl

-- a line that spells no table, among the lines of a text
pub bad_line : (text : List ℕ) (k : ℕ) → IsBadAt (lines_of text) k → IsBadLine text k
bad_line text k bad = record { front = bad.front; line = bad.line; after = bad.after; text = subst (IsText text) bad.split (text_lines text); place = bad.place; tables = bad.tables; good = bad.good; bad = bad.bad }

-- what an interning that gave up leaves
pub partly : (text : List ℕ) (ts old f : List Table) → AllZip Spells (lines_of text) ts → old ≡ [] → AppendsSome old ts f → PartlyAdded text f
partly text ts old f zip empty some = inr (ts, lines_from_zip text ts zip, subst (λ o. AppendsSome o ts f) empty some)

pub reported : (task : Task) (text : List ℕ) (workers : ℕ) (ts old f : List Table) (interned : InternedValue) (report : List ℕ) → AllZip Spells (lines_of text) ts → old ≡ [] → AppendsAbsent old ts f
    → interned.numbers ≡ map (place f) ts → interned.entries ≡ ordered f → IsFirstInShare interned.numbers workers (length old)
    → report ≡ text_of task interned → Reported task text workers f report
reported task text workers ts old f interned report zip empty appends numbered in_order first is =
    let holds : HoldsEachOnce ts f = holds_from_empty ts f (subst (λ o. AppendsAbsent o ts f) empty appends) in
    record {
      tables = ts;
      lines = lines_from_zip text ts zip;
      is_report = is ∙ report_is task ts f interned holds numbered in_order;
      holds = holds;
      first = subst (λ n. IsFirstInShare n workers 0) numbered (subst (λ o. IsFirstInShare interned.numbers workers (length o)) empty first);
    }

-- the entries are the ordered ones of the list that they stand for
pub entries_in_order : (entries : List (Table × ℕ)) (f : List Table) → entries ≡ ordered f → IsDistinct f → ordered (listed entries) ≡ entries
entries_in_order entries f is once = rw is (ap ordered (listed-ordered f once))

pub entries_distinct : (entries : List (Table × ℕ)) (f : List Table) → entries ≡ ordered f → IsDistinct f → IsDistinct (listed entries)
entries_distinct entries f is once = rw (is, listed-ordered f once) once
