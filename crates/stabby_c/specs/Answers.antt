-- What a code says that C gets.
use Rattle.std.specs.Prelude.{◌≡◌, ◌≢◌, ◌↔◌, ℕ, ◌+◌, ◌<◌, ◌≤◌, true, List, length, Result, Option, MatchOption, IfOk, IfErr, OnOk}
use mathlib.Core.List.{IsPrefix}
use Rattle.stabby_cell.specs.declared.fault.CellFault.{CellFault}
use Rattle.stabby_tables.specs.Tables.{Table}
use Rattle.stabby_tables.specs.Lists.{has, IsDistinct}
use Rattle.stabby_registry.specs.declared.fault.TryFault.{TryFault}
use Rattle.stabby_registry.specs.Inserts.{IsNumber}
use Rattle.stabby_registry.specs.Tries.{IsOwnFault}
use Rattle.stabby_c.specs.declared.answer.Answer.{Answer}
use Rattle.stabby_c.specs.declared.client.Client.{Client}
use Rattle.stabby_c.specs.Codes.{code_of, of_insert, of_entry}
use Rattle.stabby_c.specs.declared.answer.Answer.TheVariants.{Done, Malformed}
use Rattle.stabby_c.specs.Batches.{IsMalformed, table_at, AreNumbered, StoppedAt}
use Rattle.stabby_c.specs.Clients.{home_of, front_of, weight_of, IsAlone, IsSplitRefusal, OnlyLooked, AddsOrKnows, InsertFault, ReadFault, HasCopied, TriesInsert, TriesRead, TriedEach}

-- the weight k was to be cut off c, which is d by now
pub record SplitsHandle (c d : Client) (k code : ℕ) : Type 0 where
  pub answer : Answer
  pub code_is : code ≡ code_of answer
  pub done : answer ≡ Done → (0 < k) × (weight_of d + k ≡ weight_of c)
  pub refused : answer ≢ Done → IsSplitRefusal c k answer × (weight_of d ≡ weight_of c)

-- one try to insert t through c, which is d by now: the code that was answered, and the number before and after
pub record TriedInsert (c d : Client) (t : Table) (code before after : ℕ) : Type 0 where
  pub answer : Result ℕ TryFault
  pub code_is : code ≡ code_of (of_insert answer)
  pub same : home_of d ≡ home_of c
  pub front : IsPrefix (front_of c) (front_of d)
  pub number : IfOk answer (λ n. (after ≡ n) × IsNumber (front_of d) t n)
  pub inserts : IfOk answer (AddsOrKnows c d t)
  pub distinct : OnOk answer (IsDistinct (front_of d))
  pub known : has (front_of c) t ≡ true → OnOk answer (OnlyLooked c d)
  pub tried : TriesInsert c d answer
  pub refused : IfErr answer (λ fault. (after ≡ before) × InsertFault c d t fault)
  pub alone : IsAlone c → IfErr answer IsOwnFault

-- one try to read the entry of a number
pub record TriedEntry (c d : Client) (number : ℕ) (code : ℕ) (words_before words_after : List ℕ) (length_before length_after : ℕ) : Type 0 where
  pub answer : Result (Option ℕ) CellFault
  pub code_is : code ≡ code_of (of_entry answer)
  pub same : home_of d ≡ home_of c
  pub front : IsPrefix (front_of c) (front_of d)
  pub entry : IfOk answer (λ found. MatchOption found
      ((length (front_of d) ≤ number) × (words_after ≡ words_before) × (length_after ≡ length_before))
      (λ n. (length_after ≡ n) × HasCopied (front_of d) number words_before words_after n))
  pub tried : TriesRead c d answer
  pub refused : IfErr answer (λ fault. (words_after ≡ words_before) × (length_after ≡ length_before) × ReadFault c d fault)

-- tries to insert the tables of a batch, one after the other until one is refused: `done` of them have their numbers
pub record TriedAll (c d : Client) (words lengths : List ℕ) (code : ℕ) (before after : List ℕ) (done : ℕ) : Type 0 where
  pub answer : Answer
  pub code_is : code ≡ code_of answer
  pub same : home_of d ≡ home_of c
  pub front : IsPrefix (front_of c) (front_of d)
  pub malformed : (answer ≡ Malformed) ↔ IsMalformed words lengths before
  pub unchanged : answer ≡ Malformed → (d ≡ c) × (done ≡ 0) × (after ≡ before)
  pub numbers : AreNumbered (front_of d) words lengths after done
  pub all : answer ≡ Done → (done ≡ length lengths) × TriedEach c done d
  pub stopped : answer ≢ Done → answer ≢ Malformed → (done < length lengths) × StoppedAt c d done (table_at words lengths done) answer
