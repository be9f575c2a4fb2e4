-- The words of a command.
use Rattle.std.specs.Prelude.{◌≡◌, ℕ, List, [], ◌∷◌, codes}
use Rattle.stabby_intern.specs.Commands.{IsNumber}
use Rattle.word_index.specs.declared.command.Task.{Task}
use Rattle.word_index.specs.declared.command.Task.TheVariants as tasks

-- the word that asks for a task
abbrev pub name_of : Task → List ℕ
name_of tasks.Words = codes "words"
name_of tasks.Spans = codes "spans"

-- the words are a task's name and a number from 1 to 64
pub record IsCommand (words : List (List ℕ)) (task : Task) (workers : ℕ) : Type 0 where
  pub digits : List ℕ
  pub words_are : words ≡ name_of task ∷ digits ∷ []
  pub number : IsNumber 64 digits workers

-- the words are no command
abbrev pub IsNoCommand : List (List ℕ) → Type 0
IsNoCommand words = (task : Task) (workers : ℕ) → IsCommand words task workers → ⊥

-- the words are a command
abbrev pub HasCommand : List (List ℕ) → Type 0
HasCommand words = (task : Task) × (workers : ℕ) × IsCommand words task workers
