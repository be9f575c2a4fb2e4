-- Which lines are which commands.
use Rattle.std.specs.Prelude.{◌≡◌, ℕ, List, ◌∷◌, ◌++◌, codes, Option, None, Some}
use Rattle.std.specs.Str.{IsUtf8}
use Rattle.stabby_tables.specs.Lines.{SpellsWord}
use Rattle.stabby_lines.specs.Pieces.{followed}
use Rattle.stabby_index.specs.declared.row.Row.{Row}
use Rattle.stabby_index.specs.declared.row.Change.{Change}
use Rattle.stabby_index.specs.declared.row.Change.TheVariants.{Put, Delete}
use Rattle.index_log.specs.declared.command.Question.{Question}
use Rattle.index_log.specs.declared.command.Question.TheVariants.{Rows, Group, Groups}
use Rattle.index_log.specs.declared.command.Command.{Command}
use Rattle.index_log.specs.declared.command.Command.TheVariants as command

-- the word that a command begins with
abbrev pub word_of_change : Change → List ℕ
word_of_change (Put row) = codes "put"
word_of_change (Delete key) = codes "delete"

abbrev pub word_of_question : Question → List ℕ
word_of_question Rows = codes "rows"
word_of_question (Group group) = codes "group"
word_of_question Groups = codes "groups"

abbrev pub word_of : Command → List ℕ
word_of (command.Change change) = word_of_change change
word_of command.Commit = codes "commit"
word_of (command.Ask question stamp) = word_of_question question

-- KEY GROUP TEXT
pub record SpellsRow (text : List ℕ) (row : Row) : Type 0 where
  pub key : List ℕ
  pub group : List ℕ
  pub is_key : SpellsWord key row.key
  pub is_group : SpellsWord group row.group
  pub is_text : IsUtf8 row.text
  pub whole : text ≡ key ++ 32 ∷ (group ++ 32 ∷ row.text)

-- nothing, or S
abbrev pub SpellsStamp : Option (List ℕ) → Option ℕ → Type 0
SpellsStamp None None = Unit {0}
SpellsStamp None (Some stamp) = ⊥
SpellsStamp (Some digits) None = ⊥
SpellsStamp (Some digits) (Some stamp) = SpellsWord digits stamp

-- G, or G S
pub record SpellsGroup (text : List ℕ) (group : ℕ) (stamp : Option ℕ) : Type 0 where
  pub digits : List ℕ
  pub after : Option (List ℕ)
  pub is_group : SpellsWord digits group
  pub is_stamp : SpellsStamp after stamp
  pub whole : text ≡ followed digits after

-- what follows a command's word
abbrev pub FollowsChange : Option (List ℕ) → Change → Type 0
FollowsChange None change = ⊥
FollowsChange (Some text) (Put row) = SpellsRow text row
FollowsChange (Some text) (Delete key) = SpellsWord text key

abbrev pub FollowsQuestion : Option (List ℕ) → Question → Option ℕ → Type 0
FollowsQuestion rest Rows stamp = SpellsStamp rest stamp
FollowsQuestion rest Groups stamp = SpellsStamp rest stamp
FollowsQuestion None (Group group) stamp = ⊥
FollowsQuestion (Some text) (Group group) stamp = SpellsGroup text group stamp

abbrev pub Follows : Option (List ℕ) → Command → Type 0
Follows rest (command.Change change) = FollowsChange rest change
Follows rest command.Commit = rest ≡ None
Follows rest (command.Ask question stamp) = FollowsQuestion rest question stamp

-- the line is this command
pub record IsLineOf (line : List ℕ) (c : Command) : Type 0 where
  pub rest : Option (List ℕ)
  pub whole : line ≡ followed (word_of c) rest
  pub follows : Follows rest c

-- the line is no command
abbrev pub IsNoCommand : List ℕ → Type 0
IsNoCommand line = (c : Command) → IsLineOf line c → ⊥

-- what was found of a line: the command that it is, or that it is none
abbrev pub Reads : List ℕ → Option Command → Type 0
Reads line (Some c) = IsLineOf line c
Reads line None = IsNoCommand line

-- what was found of what follows a word
abbrev pub ReadsAfter : List ℕ → Option (List ℕ) → Option Command → Type 0
ReadsAfter word rest (Some c) = (word_of c ≡ word) × Follows rest c
ReadsAfter word rest None = (c : Command) → word_of c ≡ word → Follows rest c → ⊥

abbrev pub ReadsRow : List ℕ → Option Row → Type 0
ReadsRow text (Some row) = SpellsRow text row
ReadsRow text None = (row : Row) → SpellsRow text row → ⊥

abbrev pub ReadsStamp : Option (List ℕ) → Option (Option ℕ) → Type 0
ReadsStamp rest (Some stamp) = SpellsStamp rest stamp
ReadsStamp rest None = (stamp : Option ℕ) → SpellsStamp rest stamp → ⊥
