-- Lines cut at their first space, and which command a word begins.
use Rattle.std.proofs.Common.{◌≡◌, ◌≢◌, ℕ, ◌+◌, ◌<◌, ◌≤◌, List, [], ◌∷◌, ◌++◌, length, take, drop, refl, sym, ◌∙◌, ap, subst, arith, Bool, true, false, ◌==◌, ◌&&◌, cond, not, Option, Some, None, Result, Ok, Err, IfOk, codes, suc}
use mathlib.Core.Bool.{false≢true}
use Rattle.std.specs.List.{AllByRecursion, position_or_len}
use Rattle.std.specs.Char.{digit_value}
use Rattle.std.specs.Str.{IsUtf8}
use Rattle.std.specs.Str.Parse.{AllDigits}
use Rattle.std.proofs.lemmas.Bool.Decides.{nat_tests}
use Rattle.stabby_tables.specs.Lines.{SpellsWord}
use Rattle.stabby_lines.specs.Pieces.{followed}
use Rattle.stabby_lines.proofs.Cuts.{NoSpace, SameCut, cut_same, spelled_no_space, other}
use Rattle.stabby_lines.proofs.Apart.{apart, never_some, some_same}
use Rattle.stabby_index.specs.declared.row.Row.{Row}
use Rattle.stabby_index.specs.declared.row.Change.{Change}
use Rattle.stabby_index.specs.declared.row.Change.TheVariants.{Put, Delete}
use Rattle.index_log.specs.declared.command.Question.{Question}
use Rattle.index_log.specs.declared.command.Question.TheVariants.{Rows, Group, Groups}
use Rattle.index_log.specs.declared.command.Command.{Command}
use Rattle.index_log.specs.declared.command.Command.TheVariants as command
use Rattle.index_log.specs.Lines.{word_of, Follows, IsLineOf, IsNoCommand, Reads, ReadsAfter, SpellsRow, SpellsGroup, SpellsStamp}

-- ---- words have no space
word_no_space : (c : Command) → NoSpace (word_of c)
word_no_space (command.Change (Put row)) = (other 112 refl, (other 117 refl, (other 116 refl, tt)))
word_no_space (command.Change (Delete key)) = (other 100 refl, (other 101 refl, (other 108 refl, (other 101 refl, (other 116 refl, (other 101 refl, tt))))))
word_no_space command.Commit = (other 99 refl, (other 111 refl, (other 109 refl, (other 109 refl, (other 105 refl, (other 116 refl, tt))))))
word_no_space (command.Ask Rows stamp) = (other 114 refl, (other 111 refl, (other 119 refl, (other 115 refl, tt))))
word_no_space (command.Ask (Group group) stamp) = (other 103 refl, (other 114 refl, (other 111 refl, (other 117 refl, (other 112 refl, tt)))))
word_no_space (command.Ask Groups stamp) = (other 103 refl, (other 114 refl, (other 111 refl, (other 117 refl, (other 112 refl, (other 115 refl, tt))))))

-- what follows a word tells what the line is
pub reads_line : (line word : List ℕ) (rest : Option (List ℕ)) (found : Option Command) → line ≡ followed word rest → NoSpace word → ReadsAfter word rest found → Reads line found
reads_line line word rest (Some c) cut none after = record { rest = rest; whole = cut ∙ ap (λ (w : List ℕ). followed w rest) (sym after.0); follows = after.1 }
reads_line line word rest None cut none after = λ c is.
    let same = cut_same word (word_of c) rest (IsLineOf.rest is) none (word_no_space c) (sym cut ∙ IsLineOf.whole is) in
    after c (sym (SameCut.piece same)) (subst (λ (o : Option (List ℕ)). Follows o c) (sym (SameCut.rest same)) (IsLineOf.follows is))

pub reads_all : {E : Type 0} (line word : List ℕ) (rest : Option (List ℕ)) (r : Result (Option Command) E) → line ≡ followed word rest → NoSpace word → IfOk r (λ found. ReadsAfter word rest found) → IfOk r (λ found. Reads line found)
reads_all line word rest (Ok found) cut none after = reads_line line word rest found cut none after
reads_all line word rest (Err e) cut none after = tt

-- ---- which commands a word begins
pub none_put : (text : List ℕ) → ((row : Row) → SpellsRow text row → ⊥) → (c : Command) → word_of c ≡ codes "put" → Follows (Some text) c → ⊥
none_put text h (command.Change (Put row)) w f = h row f
none_put text h (command.Change (Delete key)) w f = absurd (apart (codes "delete") (codes "put") refl w)
none_put text h command.Commit w f = absurd (apart (codes "commit") (codes "put") refl w)
none_put text h (command.Ask Rows stamp) w f = absurd (apart (codes "rows") (codes "put") refl w)
none_put text h (command.Ask (Group group) stamp) w f = absurd (apart (codes "group") (codes "put") refl w)
none_put text h (command.Ask Groups stamp) w f = absurd (apart (codes "groups") (codes "put") refl w)

pub none_delete : (text : List ℕ) → ((key : ℕ) → SpellsWord text key → ⊥) → (c : Command) → word_of c ≡ codes "delete" → Follows (Some text) c → ⊥
none_delete text h (command.Change (Put row)) w f = absurd (apart (codes "put") (codes "delete") refl w)
none_delete text h (command.Change (Delete key)) w f = h key f
none_delete text h command.Commit w f = absurd (apart (codes "commit") (codes "delete") refl w)
none_delete text h (command.Ask Rows stamp) w f = absurd (apart (codes "rows") (codes "delete") refl w)
none_delete text h (command.Ask (Group group) stamp) w f = absurd (apart (codes "group") (codes "delete") refl w)
none_delete text h (command.Ask Groups stamp) w f = absurd (apart (codes "groups") (codes "delete") refl w)

pub none_commit : (text : List ℕ) → (c : Command) → word_of c ≡ codes "commit" → Follows (Some text) c → ⊥
none_commit text (command.Change (Put row)) w f = absurd (apart (codes "put") (codes "commit") refl w)
none_commit text (command.Change (Delete key)) w f = absurd (apart (codes "delete") (codes "commit") refl w)
none_commit text command.Commit w f = absurd (never_some text f)
none_commit text (command.Ask Rows stamp) w f = absurd (apart (codes "rows") (codes "commit") refl w)
none_commit text (command.Ask (Group group) stamp) w f = absurd (apart (codes "group") (codes "commit") refl w)
none_commit text (command.Ask Groups stamp) w f = absurd (apart (codes "groups") (codes "commit") refl w)

pub none_rows : (rest : Option (List ℕ)) → ((stamp : Option ℕ) → SpellsStamp rest stamp → ⊥) → (c : Command) → word_of c ≡ codes "rows" → Follows (rest) c → ⊥
none_rows rest h (command.Change (Put row)) w f = absurd (apart (codes "put") (codes "rows") refl w)
none_rows rest h (command.Change (Delete key)) w f = absurd (apart (codes "delete") (codes "rows") refl w)
none_rows rest h command.Commit w f = absurd (apart (codes "commit") (codes "rows") refl w)
none_rows rest h (command.Ask Rows stamp) w f = h stamp f
none_rows rest h (command.Ask (Group group) stamp) w f = absurd (apart (codes "group") (codes "rows") refl w)
none_rows rest h (command.Ask Groups stamp) w f = absurd (apart (codes "groups") (codes "rows") refl w)

pub none_groups : (rest : Option (List ℕ)) → ((stamp : Option ℕ) → SpellsStamp rest stamp → ⊥) → (c : Command) → word_of c ≡ codes "groups" → Follows (rest) c → ⊥
none_groups rest h (command.Change (Put row)) w f = absurd (apart (codes "put") (codes "groups") refl w)
none_groups rest h (command.Change (Delete key)) w f = absurd (apart (codes "delete") (codes "groups") refl w)
none_groups rest h command.Commit w f = absurd (apart (codes "commit") (codes "groups") refl w)
none_groups rest h (command.Ask Rows stamp) w f = absurd (apart (codes "rows") (codes "groups") refl w)
none_groups rest h (command.Ask (Group group) stamp) w f = absurd (apart (codes "group") (codes "groups") refl w)
none_groups rest h (command.Ask Groups stamp) w f = h stamp f

pub none_group : (text : List ℕ) → ((group : ℕ) (stamp : Option ℕ) → SpellsGroup text group stamp → ⊥) → (c : Command) → word_of c ≡ codes "group" → Follows (Some text) c → ⊥
none_group text h (command.Change (Put row)) w f = absurd (apart (codes "put") (codes "group") refl w)
none_group text h (command.Change (Delete key)) w f = absurd (apart (codes "delete") (codes "group") refl w)
none_group text h command.Commit w f = absurd (apart (codes "commit") (codes "group") refl w)
none_group text h (command.Ask Rows stamp) w f = absurd (apart (codes "rows") (codes "group") refl w)
none_group text h (command.Ask (Group group) stamp) w f = h group stamp f
none_group text h (command.Ask Groups stamp) w f = absurd (apart (codes "groups") (codes "group") refl w)

-- nothing follows
pub bare_put : (c : Command) → word_of c ≡ codes "put" → Follows None c → ⊥
bare_put (command.Change (Put row)) w f = f
bare_put (command.Change (Delete key)) w f = absurd (apart (codes "delete") (codes "put") refl w)
bare_put command.Commit w f = absurd (apart (codes "commit") (codes "put") refl w)
bare_put (command.Ask Rows stamp) w f = absurd (apart (codes "rows") (codes "put") refl w)
bare_put (command.Ask (Group group) stamp) w f = absurd (apart (codes "group") (codes "put") refl w)
bare_put (command.Ask Groups stamp) w f = absurd (apart (codes "groups") (codes "put") refl w)

-- nothing follows
pub bare_delete : (c : Command) → word_of c ≡ codes "delete" → Follows None c → ⊥
bare_delete (command.Change (Put row)) w f = absurd (apart (codes "put") (codes "delete") refl w)
bare_delete (command.Change (Delete key)) w f = f
bare_delete command.Commit w f = absurd (apart (codes "commit") (codes "delete") refl w)
bare_delete (command.Ask Rows stamp) w f = absurd (apart (codes "rows") (codes "delete") refl w)
bare_delete (command.Ask (Group group) stamp) w f = absurd (apart (codes "group") (codes "delete") refl w)
bare_delete (command.Ask Groups stamp) w f = absurd (apart (codes "groups") (codes "delete") refl w)

-- nothing follows
pub bare_group : (c : Command) → word_of c ≡ codes "group" → Follows None c → ⊥
bare_group (command.Change (Put row)) w f = absurd (apart (codes "put") (codes "group") refl w)
bare_group (command.Change (Delete key)) w f = absurd (apart (codes "delete") (codes "group") refl w)
bare_group command.Commit w f = absurd (apart (codes "commit") (codes "group") refl w)
bare_group (command.Ask Rows stamp) w f = absurd (apart (codes "rows") (codes "group") refl w)
bare_group (command.Ask (Group group) stamp) w f = f
bare_group (command.Ask Groups stamp) w f = absurd (apart (codes "groups") (codes "group") refl w)

-- another word begins no command
pub no_word : (word : List ℕ) → (word ≡ codes "put" → ⊥) → (word ≡ codes "delete" → ⊥) → (word ≡ codes "commit" → ⊥) → (word ≡ codes "rows" → ⊥) → (word ≡ codes "group" → ⊥) → (word ≡ codes "groups" → ⊥) → (c : Command) → word_of c ≡ word → ⊥
no_word word a b d e f h (command.Change (Put row)) w = a (sym w)
no_word word a b d e f h (command.Change (Delete key)) w = b (sym w)
no_word word a b d e f h command.Commit w = d (sym w)
no_word word a b d e f h (command.Ask Rows stamp) w = e (sym w)
no_word word a b d e f h (command.Ask (Group group) stamp) w = f (sym w)
no_word word a b d e f h (command.Ask Groups stamp) w = h (sym w)

-- ---- KEY GROUP TEXT
-- the first piece of a row is its key
pub row_key : (text key : List ℕ) (rest : Option (List ℕ)) (row : Row) → text ≡ followed key rest → NoSpace key → (s : SpellsRow text row) → SameCut key (SpellsRow.key s) rest (Some (SpellsRow.group s ++ 32 ∷ row.text))
row_key text key rest row cut none s = cut_same key (SpellsRow.key s) rest (Some (SpellsRow.group s ++ 32 ∷ row.text)) none (spelled_no_space (SpellsRow.key s) row.key (SpellsRow.is_key s)) (sym cut ∙ SpellsRow.whole s)

-- and the next one its group
pub row_group : (text key after group : List ℕ) (rest : Option (List ℕ)) (row : Row) → text ≡ followed key (Some after) → NoSpace key → after ≡ followed group rest → NoSpace group → (s : SpellsRow text row) → SameCut group (SpellsRow.group s) rest (Some row.text)
row_group text key after group rest row cut none cut' none' s =
    let first = row_key text key (Some after) row cut none s in
    cut_same group (SpellsRow.group s) rest (Some row.text) none' (spelled_no_space (SpellsRow.group s) row.group (SpellsRow.is_group s)) (sym cut' ∙ some_same after (SpellsRow.group s ++ 32 ∷ row.text) (SameCut.rest first))

pub no_row_short : (text key : List ℕ) → text ≡ followed key None → NoSpace key → (row : Row) → SpellsRow text row → ⊥
no_row_short text key cut none row s = never_some (SpellsRow.group s ++ 32 ∷ row.text) (sym (SameCut.rest (row_key text key None row cut none s)))

pub no_row_text : (text key after group : List ℕ) → text ≡ followed key (Some after) → NoSpace key → after ≡ followed group None → NoSpace group → (row : Row) → SpellsRow text row → ⊥
no_row_text text key after group cut none cut' none' row s = never_some row.text (sym (SameCut.rest (row_group text key after group None row cut none cut' none' s)))

pub no_row_key : (text key : List ℕ) (rest : Option (List ℕ)) → text ≡ followed key rest → NoSpace key → ((n : ℕ) → SpellsWord key n → ⊥) → (row : Row) → SpellsRow text row → ⊥
no_row_key text key rest cut none unspelled row s = unspelled row.key (subst (λ (l : List ℕ). SpellsWord l row.key) (sym (SameCut.piece (row_key text key rest row cut none s))) (SpellsRow.is_key s))

pub no_row_group : (text key after group : List ℕ) (rest : Option (List ℕ)) → text ≡ followed key (Some after) → NoSpace key → after ≡ followed group rest → NoSpace group → ((n : ℕ) → SpellsWord group n → ⊥) → (row : Row) → SpellsRow text row → ⊥
no_row_group text key after group rest cut none cut' none' unspelled row s = unspelled row.group (subst (λ (l : List ℕ). SpellsWord l row.group) (sym (SameCut.piece (row_group text key after group rest row cut none cut' none' s))) (SpellsRow.is_group s))

pub no_row_utf8 : (text key after group tail : List ℕ) → text ≡ followed key (Some after) → NoSpace key → after ≡ followed group (Some tail) → NoSpace group → (IsUtf8 tail → ⊥) → (row : Row) → SpellsRow text row → ⊥
no_row_utf8 text key after group tail cut none cut' none' unspelled row s = unspelled (subst IsUtf8 (sym (some_same tail row.text (SameCut.rest (row_group text key after group (Some tail) row cut none cut' none' s)))) (SpellsRow.is_text s))

-- ---- G, or G S
group_cut : (text group : List ℕ) (rest : Option (List ℕ)) (n : ℕ) (stamp : Option ℕ) → text ≡ followed group rest → NoSpace group → (s : SpellsGroup text n stamp) → SameCut group (SpellsGroup.digits s) rest (SpellsGroup.after s)
group_cut text group rest n stamp cut none s = cut_same group (SpellsGroup.digits s) rest (SpellsGroup.after s) none (spelled_no_space (SpellsGroup.digits s) n (SpellsGroup.is_group s)) (sym cut ∙ SpellsGroup.whole s)

pub no_group_number : (text group : List ℕ) (rest : Option (List ℕ)) → text ≡ followed group rest → NoSpace group → ((n : ℕ) → SpellsWord group n → ⊥) → (n : ℕ) (stamp : Option ℕ) → SpellsGroup text n stamp → ⊥
no_group_number text group rest cut none unspelled n stamp s = unspelled n (subst (λ (l : List ℕ). SpellsWord l n) (sym (SameCut.piece (group_cut text group rest n stamp cut none s))) (SpellsGroup.is_group s))

pub no_group_stamp : (text group : List ℕ) (rest : Option (List ℕ)) → text ≡ followed group rest → NoSpace group → ((stamp : Option ℕ) → SpellsStamp rest stamp → ⊥) → (n : ℕ) (stamp : Option ℕ) → SpellsGroup text n stamp → ⊥
no_group_stamp text group rest cut none unspelled n stamp s = unspelled stamp (subst (λ (o : Option (List ℕ)). SpellsStamp o stamp) (sym (SameCut.rest (group_cut text group rest n stamp cut none s))) (SpellsGroup.is_stamp s))
