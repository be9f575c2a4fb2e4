-- A batch, as far as it has come.
use Rattle.std.proofs.Common.{◌≡◌, ℕ, suc, ◌+◌, ◌-◌, ◌<◌, ◌≤◌, List, length, take, drop, sym, ap, ◌∙◌, subst, arith, slice_index, Ok}
use mathlib.Core.List.{IsPrefix}
use mathlib.Core.Logic.{dite}
use native.Mathlib.Decide.{ℕ_discrete}
use Rattle.std.specs.List.{sum}
use Rattle.std.specs.Prelude.{slice_set, slice_range}
use Rattle.std.proofs.lemmas.List.{get_or-set_same, get_or-set_other}
use Rattle.std.proofs.lemmas.List.Sums.{sum_by_more, sum_by_more_le}
use Rattle.stabby_tables.specs.Tables.{Table}
use Rattle.stabby_registry.specs.Laws.{NumbersStay}
use Rattle.stabby_registry.specs.Inserts.{IsNumber}
use Rattle.stabby_registry.proofs.Agreeing.{numbers_stay}
use Rattle.stabby_c.specs.Batches.{table_at, AreNumbered}
use Rattle.stabby_c.specs.Clients.{TriesInsert, TriedEach}
use Rattle.stabby_c.specs.declared.client.Client.{Client}

-- the words of the first tables and those of the next one
pub sum_more : (ls : List ℕ) (i n : ℕ) → i < length ls → n ≡ slice_index ls i → sum (take (i + 1) ls) ≡ sum (take i ls) + n
sum_more ls i n below is = sum_by_more (λ x. x) ls i 0 below ∙ ap (λ m. sum (take i ls) + m) (sym is)

pub sum_within : (ls : List ℕ) (i n : ℕ) → i < length ls → n ≡ slice_index ls i → sum (take i ls) + n ≤ sum ls
sum_within ls i n below is = subst (λ m. sum (take i ls) + m ≤ sum ls) (sym is) (sum_by_more_le (λ x. x) ls i 0 below)

-- numbers stay as the front grows
pub numbered_later : (front later : List Table) (words ls numbers : List ℕ) (n : ℕ) → IsPrefix front later → AreNumbered front words ls numbers n → AreNumbered later words ls numbers n
numbered_later front later words ls numbers n p so i below = NumbersStay.kept numbers_stay front later (table_at words ls i) (slice_index numbers i) p (so i below)

-- one table more has its number
pub numbered_more : (front later : List Table) (words ls numbers : List ℕ) (n number : ℕ) → IsPrefix front later → AreNumbered front words ls numbers n → n < length numbers
    → IsNumber later (table_at words ls n) number → AreNumbered later words ls (slice_set numbers n number) (n + 1)
numbered_more front later words ls numbers n number p so room at i below = dite (ℕ_discrete i n)
    (λ e. subst (λ j. IsNumber later (table_at words ls j) (slice_index (slice_set numbers n number) j)) (sym e)
    (subst (IsNumber later (table_at words ls n)) (sym (get_or-set_same numbers n number 0 room)) at))
    (λ ne. subst (IsNumber later (table_at words ls i)) (sym (get_or-set_other numbers n i number 0 ne)) (numbered_later front later words ls numbers n p so i (omega (arith, below, ne))))

-- the words that a batch goes to are those of its next table
pub next_table : (words ls : List ℕ) (i from : ℕ) → from ≡ sum (take i ls) → slice_range words from (from + slice_index ls i) ≡ table_at words ls i
next_table words ls i from e =
    let long : (from + slice_index ls i) - from ≡ slice_index ls i = omega arith in
    ap (λ m. take m (drop from words)) long ∙ ap (λ f. take (slice_index ls i) (drop f words)) e

-- one table more was tried
pub each_more : (c d e : Client) (n number : ℕ) → TriedEach c n d → TriesInsert d e (Ok number) → TriedEach c (n + 1) e
each_more c d e n number each tried =
    let next : suc n ≡ n + 1 = omega arith in
    let more : TriedEach c (suc n) e = (d, each, (number, tried)) in
    subst (λ k. TriedEach c k e) next more
