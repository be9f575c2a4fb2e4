-- What the commands of a session do, one after another.
use Rattle.std.specs.Prelude.{◌≡◌, ◌≤◌, ◌<◌, ◌+◌, ℕ, List, [], ◌∷◌, ◌++◌, length, codes, Option, Some, None, ◌⊎◌}
use Rattle.stabby_cell.specs.Passes.{front_of}
use Rattle.stabby_index.specs.Passes.{kept_by}
use Rattle.stabby_index.specs.Rows.{rows_at}
use Rattle.stabby_index.specs.declared.row.Change.{Change}
use Rattle.index_log.specs.Printed.{number_line, IsAnswer}
use Rattle.index_log.specs.declared.command.Question.{Question}
use Rattle.index_log.specs.declared.command.Command.{Command}
use Rattle.index_log.specs.declared.command.Command.TheVariants as command
use Rattle.index_log.specs.declared.session.Session.{Session}

-- how many versions are kept, the lists of changes that were committed, and the changes that wait
pub record State : Type 0 where
  pub keep : ℕ
  pub committed : List (List Change)
  pub pending : List Change

abbrev pub state_of : Session → State
state_of s = record { keep = kept_by s.index; committed = front_of s.pass; pending = s.pending.items }

-- before the first command
abbrev pub opening : ℕ → State
opening keep = record { keep = keep; committed = []; pending = [] }

abbrev pub after : State → Command → State
after s (command.Change change) = record { keep = s.keep; committed = s.committed; pending = s.pending ++ change ∷ [] }
after s command.Commit = record { keep = s.keep; committed = s.committed ++ s.pending ∷ []; pending = [] }
after s (command.Ask question stamp) = s

-- the stamp of the newest version
abbrev pub newest : State → ℕ
newest s = length s.committed

-- the version of the stamp n is kept
abbrev pub Keeps : State → ℕ → Type 0
Keeps s n = (n ≤ newest s) × (newest s < n + s.keep)

-- what is printed of the newest version, or of that of a stamp
abbrev pub PrintsVersion : State → Question → Option ℕ → List ℕ → Type 0
PrintsVersion s question None printed = IsAnswer (rows_at s.committed (newest s)) question printed
PrintsVersion s question (Some n) printed =
    (Keeps s n × IsAnswer (rows_at s.committed n) question printed)
    ⊎ ((Keeps s n → ⊥) × (printed ≡ number_line (codes "not kept ") n))

-- what a command prints
abbrev pub Prints : State → Command → List ℕ → Type 0
Prints s (command.Change change) printed = printed ≡ []
Prints s command.Commit printed = printed ≡ number_line (codes "stamp ") (newest s + 1)
Prints s (command.Ask question stamp) printed = PrintsVersion s question stamp printed

-- after commands, in order
abbrev pub after_all : State → List Command → State
after_all s [] = s
after_all s (c ∷ cs) = after_all (after s c) cs

-- what commands print, in order
abbrev pub PrintsAll : State → List Command → List ℕ → Type 0
PrintsAll s [] printed = printed ≡ []
PrintsAll s (c ∷ cs) printed = (first : List ℕ) × (rest : List ℕ) × Prints s c first × PrintsAll (after s c) cs rest × (printed ≡ first ++ rest)

-- a command was obeyed, and printed that
abbrev pub Obeys : Session → Session → Command → List ℕ → Type 0
Obeys s t c printed = (state_of t ≡ after (state_of s) c) × Prints (state_of s) c printed
