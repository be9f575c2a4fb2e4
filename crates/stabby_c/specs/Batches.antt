-- Batches: tables that lie behind one another in one list of words, each as long as its length says.
use Rattle.std.specs.Prelude.{◌≡◌, ◌≢◌, ℕ, ◌<◌, ◌⊎◌, List, length, take, drop, slice_index, Err}
use Rattle.std.specs.List.{sum}
use mathlib.Core.List.{IsPrefix}
use Rattle.stabby_tables.specs.Tables.{Table}
use Rattle.stabby_registry.specs.declared.fault.TryFault.{TryFault}
use Rattle.stabby_registry.specs.Inserts.{IsNumber}
use Rattle.stabby_c.specs.declared.answer.Answer.{Answer}
use Rattle.stabby_c.specs.declared.client.Client.{Client}
use Rattle.stabby_c.specs.Codes.{of_try}
use Rattle.stabby_c.specs.Clients.{home_of, front_of, InsertFault, TriedEach, TriesInsert}

-- the lengths don't add up to the words, or there are more tables than places for their numbers
abbrev pub IsMalformed : List ℕ → List ℕ → List ℕ → Type 0
IsMalformed words lengths numbers = (sum lengths ≢ length words) ⊎ (length numbers < length lengths)

-- the i-th table of the batch
abbrev pub table_at : List ℕ → List ℕ → ℕ → Table
table_at words lengths i = take (slice_index lengths i) (drop (sum (take i lengths)) words)

-- the first n tables of the batch have these numbers
abbrev pub AreNumbered : List Table → List ℕ → List ℕ → List ℕ → ℕ → Type 0
AreNumbered front words lengths numbers n = (i : ℕ) → i < n → IsNumber front (table_at words lengths i) (slice_index numbers i)

-- n tables were tried once each and have numbers, and then one try to insert t was refused and gave this answer
pub record StoppedAt (c d : Client) (n : ℕ) (t : Table) (answer : Answer) : Type 0 where
  pub fault : TryFault
  pub answer_is : answer ≡ of_try fault
  pub before : Client
  pub each : TriedEach c n before
  pub tried : TriesInsert before d (Err fault)
  pub from : home_of before ≡ home_of c
  pub grown : IsPrefix (front_of c) (front_of before)
  pub refused : InsertFault before d t fault
