-- Which lines are which calls.
use Rattle.std.specs.Prelude.{◌≡◌, ℕ, ◌<◌, List, ◌∷◌, ◌++◌, codes, Option, None, Some}
use Rattle.stabby_tables.specs.Lines.{SpellsWord}
use Rattle.stabby_lines.specs.Pieces.{followed}
use Rattle.plugin_host.specs.declared.script.Kind.{Kind}
use Rattle.plugin_host.specs.declared.script.Kind.TheVariants.{Byte, Number}
use Rattle.plugin_host.specs.declared.script.Call.{Call}
use Rattle.plugin_host.specs.declared.script.Call.TheVariants as call

-- the name of a kind
abbrev pub name_of : Kind → List ℕ
name_of Byte = codes "byte"
name_of Number = codes "number"

-- the least number that no value of the kind is
abbrev pub end_of : Kind → ℕ
end_of Byte = 256
end_of Number = 18446744073709551616

-- the word that a call begins with
abbrev pub word_of : Call → List ℕ
word_of (call.Load kind value need) = codes "load"
word_of (call.Ask kind plugin) = codes "ask"
word_of (call.Guest plugin) = codes "guest"
word_of (call.Unload plugin) = codes "unload"

-- needs KIND
abbrev pub SpellsNeedText : List ℕ → Kind → Type 0
SpellsNeedText text Byte = text ≡ codes "needs byte"
SpellsNeedText text Number = text ≡ codes "needs number"

-- nothing, or needs KIND
abbrev pub SpellsNeed : Option (List ℕ) → Option Kind → Type 0
SpellsNeed None None = Unit {0}
SpellsNeed None (Some kind) = ⊥
SpellsNeed (Some text) None = ⊥
SpellsNeed (Some text) (Some kind) = SpellsNeedText text kind

-- N, or N needs KIND
pub record SpellsValue (text : List ℕ) (kind : Kind) (value : ℕ) (need : Option Kind) : Type 0 where
  pub digits : List ℕ
  pub after : Option (List ℕ)
  pub is_value : SpellsWord digits value
  pub fits : value < end_of kind
  pub is_need : SpellsNeed after need
  pub whole : text ≡ followed digits after

-- KIND N, or KIND N needs KIND
pub record SpellsLoad (text : List ℕ) (kind : Kind) (value : ℕ) (need : Option Kind) : Type 0 where
  pub after : List ℕ
  pub is_value : SpellsValue after kind value need
  pub whole : text ≡ name_of kind ++ 32 ∷ after

-- KIND P
pub record SpellsAsk (text : List ℕ) (kind : Kind) (plugin : ℕ) : Type 0 where
  pub digits : List ℕ
  pub is_plugin : SpellsWord digits plugin
  pub whole : text ≡ name_of kind ++ 32 ∷ digits

-- what follows a call's word and a space
abbrev pub Follows : List ℕ → Call → Type 0
Follows text (call.Load kind value need) = SpellsLoad text kind value need
Follows text (call.Ask kind plugin) = SpellsAsk text kind plugin
Follows text (call.Guest plugin) = SpellsWord text plugin
Follows text (call.Unload plugin) = SpellsWord text plugin

-- the line is this call
pub record IsLineOf (line : List ℕ) (c : Call) : Type 0 where
  pub rest : List ℕ
  pub whole : line ≡ word_of c ++ 32 ∷ rest
  pub follows : Follows rest c

-- the line is no call
abbrev pub IsNoCall : List ℕ → Type 0
IsNoCall line = (c : Call) → IsLineOf line c → ⊥

-- what was found of a line: the call that it is, or that it is none
abbrev pub Reads : List ℕ → Option Call → Type 0
Reads line (Some c) = IsLineOf line c
Reads line None = IsNoCall line

-- what was found of what follows a word and a space
abbrev pub ReadsAfter : List ℕ → List ℕ → Option Call → Type 0
ReadsAfter word text (Some c) = (word_of c ≡ word) × Follows text c
ReadsAfter word text None = (c : Call) → word_of c ≡ word → Follows text c → ⊥

abbrev pub ReadsNeed : Option (List ℕ) → Option (Option Kind) → Type 0
ReadsNeed rest (Some need) = SpellsNeed rest need
ReadsNeed rest None = (need : Option Kind) → SpellsNeed rest need → ⊥
