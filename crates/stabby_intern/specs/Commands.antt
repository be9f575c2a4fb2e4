-- The words of a command.
use Rattle.std.specs.Prelude.{◌≡◌, ◌≢◌, ℕ, ◌%◌, ◌≤◌, List, [], ◌∷◌, codes}
use Rattle.std.specs.Str.Parse.{IsNumeral, digits_value}
use Rattle.stabby_intern.specs.declared.command.Task.{Task}
use Rattle.stabby_intern.specs.declared.command.Task.TheVariants as tasks
use Rattle.stabby_intern.specs.declared.command.Command.{Command}
use Rattle.stabby_intern.specs.declared.command.Command.TheVariants.{Intern, Generate}

-- the word that asks for a task
abbrev pub name_of : Task → List ℕ
name_of tasks.Ranks = codes "ranks"
name_of tasks.Numbers = codes "numbers"

-- the words are a task's name and a number from 1 to 64
pub record IsCommand (words : List (List ℕ)) (task : Task) (workers : ℕ) : Type 0 where
  pub digits : List ℕ
  pub words_are : words ≡ name_of task ∷ digits ∷ []
  pub numeral : IsNumeral 10 digits
  pub number : digits_value 10 digits ≡ workers
  pub least : 1 ≤ workers
  pub most : workers ≤ 64

-- the digits spell a number from 1 to the greatest
pub record IsNumber (greatest : ℕ) (digits : List ℕ) (number : ℕ) : Type 0 where
  pub numeral : IsNumeral 10 digits
  pub value : digits_value 10 digits ≡ number
  pub least : 1 ≤ number
  pub most : number ≤ greatest

-- the greatest number of generated tables, and the greatest divisor
abbrev pub generation_limit : ℕ
generation_limit = 1000000

-- the words are `gen`, a number of tables, a divisor that is no multiple of 7, and a number of workers from 1 to 64
pub record IsGeneration (words : List (List ℕ)) (tables divisor workers : ℕ) : Type 0 where
  pub first : List ℕ
  pub second : List ℕ
  pub third : List ℕ
  pub words_are : words ≡ codes "gen" ∷ first ∷ second ∷ third ∷ []
  pub for_tables : IsNumber generation_limit first tables
  pub for_divisor : IsNumber generation_limit second divisor
  pub for_workers : IsNumber 64 third workers
  pub no_multiple : divisor % 7 ≢ 0

-- the words are no command
pub record IsNoCommand (words : List (List ℕ)) : Type 0 where
  pub no_interning : (task : Task) (workers : ℕ) → IsCommand words task workers → ⊥
  pub no_generation : (tables divisor workers : ℕ) → IsGeneration words tables divisor workers → ⊥

-- the words ask for this command
abbrev pub Asks : List (List ℕ) → Command → Type 0
Asks words (Intern interning) = IsCommand words interning.task interning.workers
Asks words (Generate generation) = IsGeneration words generation.tables generation.divisor generation.workers
