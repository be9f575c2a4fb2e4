-- Lines cut at their first space, and which call a word begins.
use Rattle.std.proofs.Common.{◌≡◌, ◌≢◌, ℕ, ◌+◌, ◌<◌, ◌≤◌, List, [], ◌∷◌, ◌++◌, length, take, drop, refl, sym, ◌∙◌, ap, subst, arith, Bool, true, false, ◌==◌, ◌&&◌, cond, not, Option, Some, None, codes, suc}
use mathlib.Core.Bool.{false≢true}
use Rattle.std.specs.List.{AllByRecursion}
use Rattle.std.specs.Char.{digit_value}
use Rattle.std.specs.Str.Parse.{AllDigits}
use Rattle.std.proofs.lemmas.Bool.Decides.{nat_tests}
use Rattle.stabby_tables.specs.Lines.{SpellsWord}
use Rattle.stabby_lines.specs.Pieces.{followed}
use Rattle.stabby_lines.proofs.Cuts.{NoSpace, SameCut, cut_same, spelled_no_space, other}
use Rattle.stabby_lines.proofs.Apart.{apart, never_some, some_same}
use Rattle.plugin_host.specs.declared.script.Kind.{Kind}
use Rattle.plugin_host.specs.declared.script.Kind.TheVariants.{Byte, Number}
use Rattle.plugin_host.specs.declared.script.Call.{Call}
use Rattle.plugin_host.specs.declared.script.Call.TheVariants as call
use Rattle.plugin_host.specs.Lines.{name_of, end_of, word_of, Follows, IsLineOf, IsNoCall, Reads, ReadsAfter, SpellsNeed, SpellsNeedText, SpellsValue, SpellsLoad, SpellsAsk}

-- ---- words have no space
word_no_space : (c : Call) → NoSpace (word_of c)
word_no_space (call.Load kind value need) = (other 108 refl, (other 111 refl, (other 97 refl, (other 100 refl, tt))))
word_no_space (call.Ask kind plugin) = (other 97 refl, (other 115 refl, (other 107 refl, tt)))
word_no_space (call.Guest plugin) = (other 103 refl, (other 117 refl, (other 101 refl, (other 115 refl, (other 116 refl, tt)))))
word_no_space (call.Unload plugin) = (other 117 refl, (other 110 refl, (other 108 refl, (other 111 refl, (other 97 refl, (other 100 refl, tt))))))

name_no_space : (kind : Kind) → NoSpace (name_of kind)
name_no_space Byte = (other 98 refl, (other 121 refl, (other 116 refl, (other 101 refl, tt))))
name_no_space Number = (other 110 refl, (other 117 refl, (other 109 refl, (other 98 refl, (other 101 refl, (other 114 refl, tt))))))

-- what follows a word tells what the line is
pub reads_line : (line word text : List ℕ) (found : Option Call) → line ≡ followed word (Some text) → NoSpace word → ReadsAfter word text found → Reads line found
reads_line line word text (Some c) cut none after = record { rest = text; whole = cut ∙ ap (λ (w : List ℕ). w ++ 32 ∷ text) (sym after.0); follows = after.1 }
reads_line line word text None cut none after = λ c is.
    let same = cut_same word (word_of c) (Some text) (Some (IsLineOf.rest is)) none (word_no_space c) (sym cut ∙ IsLineOf.whole is) in
    after c (sym (SameCut.piece same)) (subst (λ (o : List ℕ). Follows o c) (sym (some_same text (IsLineOf.rest is) (SameCut.rest same))) (IsLineOf.follows is))

-- a line of one piece is no call
pub no_call_short : (line word : List ℕ) → line ≡ followed word None → NoSpace word → IsNoCall line
no_call_short line word cut none c is =
    never_some (IsLineOf.rest is) (sym (SameCut.rest (cut_same word (word_of c) None (Some (IsLineOf.rest is)) none (word_no_space c) (sym cut ∙ IsLineOf.whole is))))

-- ---- which calls a word begins
pub none_load : (text : List ℕ) → ((kind : Kind) (value : ℕ) (need : Option Kind) → SpellsLoad text kind value need → ⊥) → (c : Call) → word_of c ≡ codes "load" → Follows text c → ⊥
none_load text h (call.Load kind value need) w f = h kind value need f
none_load text h (call.Ask kind plugin) w f = absurd (apart (codes "ask") (codes "load") refl w)
none_load text h (call.Guest plugin) w f = absurd (apart (codes "guest") (codes "load") refl w)
none_load text h (call.Unload plugin) w f = absurd (apart (codes "unload") (codes "load") refl w)

pub none_ask : (text : List ℕ) → ((kind : Kind) (plugin : ℕ) → SpellsAsk text kind plugin → ⊥) → (c : Call) → word_of c ≡ codes "ask" → Follows text c → ⊥
none_ask text h (call.Load kind value need) w f = absurd (apart (codes "load") (codes "ask") refl w)
none_ask text h (call.Ask kind plugin) w f = h kind plugin f
none_ask text h (call.Guest plugin) w f = absurd (apart (codes "guest") (codes "ask") refl w)
none_ask text h (call.Unload plugin) w f = absurd (apart (codes "unload") (codes "ask") refl w)

pub none_guest : (text : List ℕ) → ((plugin : ℕ) → SpellsWord text plugin → ⊥) → (c : Call) → word_of c ≡ codes "guest" → Follows text c → ⊥
none_guest text h (call.Load kind value need) w f = absurd (apart (codes "load") (codes "guest") refl w)
none_guest text h (call.Ask kind plugin) w f = absurd (apart (codes "ask") (codes "guest") refl w)
none_guest text h (call.Guest plugin) w f = h plugin f
none_guest text h (call.Unload plugin) w f = absurd (apart (codes "unload") (codes "guest") refl w)

pub none_unload : (text : List ℕ) → ((plugin : ℕ) → SpellsWord text plugin → ⊥) → (c : Call) → word_of c ≡ codes "unload" → Follows text c → ⊥
none_unload text h (call.Load kind value need) w f = absurd (apart (codes "load") (codes "unload") refl w)
none_unload text h (call.Ask kind plugin) w f = absurd (apart (codes "ask") (codes "unload") refl w)
none_unload text h (call.Guest plugin) w f = absurd (apart (codes "guest") (codes "unload") refl w)
none_unload text h (call.Unload plugin) w f = h plugin f

-- another word begins no call
pub no_word : (word : List ℕ) → (word ≡ codes "load" → ⊥) → (word ≡ codes "ask" → ⊥) → (word ≡ codes "guest" → ⊥) → (word ≡ codes "unload" → ⊥) → (c : Call) → word_of c ≡ word → ⊥
no_word word a b d e (call.Load kind value need) w = a (sym w)
no_word word a b d e (call.Ask kind plugin) w = b (sym w)
no_word word a b d e (call.Guest plugin) w = d (sym w)
no_word word a b d e (call.Unload plugin) w = e (sym w)

-- ---- names of kinds
pub no_kind : (name : List ℕ) → (name ≡ codes "byte" → ⊥) → (name ≡ codes "number" → ⊥) → (kind : Kind) → name ≡ name_of kind → ⊥
no_kind name a b Byte e = a e
no_kind name a b Number e = b e

pub no_need : (text : List ℕ) → (text ≡ codes "needs byte" → ⊥) → (text ≡ codes "needs number" → ⊥) → (kind : Kind) → SpellsNeedText text kind → ⊥
no_need text a b Byte e = a e
no_need text a b Number e = b e

pub kind_same : (a b : Kind) → name_of a ≡ name_of b → a ≡ b
kind_same Byte Byte e = refl
kind_same Byte Number e = absurd (apart (codes "byte") (codes "number") refl e)
kind_same Number Byte e = absurd (apart (codes "number") (codes "byte") refl e)
kind_same Number Number e = refl

-- ---- KIND N, or KIND N needs KIND
load_cut : (text name : List ℕ) (rest : Option (List ℕ)) (kind : Kind) (value : ℕ) (need : Option Kind) → text ≡ followed name rest → NoSpace name → (s : SpellsLoad text kind value need) → SameCut name (name_of kind) rest (Some (SpellsLoad.after s))
load_cut text name rest kind value need cut none s = cut_same name (name_of kind) rest (Some (SpellsLoad.after s)) none (name_no_space kind) (sym cut ∙ SpellsLoad.whole s)

pub no_load_short : (text name : List ℕ) → text ≡ followed name None → NoSpace name → (kind : Kind) (value : ℕ) (need : Option Kind) → SpellsLoad text kind value need → ⊥
no_load_short text name cut none kind value need s = never_some (SpellsLoad.after s) (sym (SameCut.rest (load_cut text name None kind value need cut none s)))

pub no_load_kind : (text name : List ℕ) (rest : Option (List ℕ)) → text ≡ followed name rest → NoSpace name → ((kind : Kind) → name ≡ name_of kind → ⊥) → (kind : Kind) (value : ℕ) (need : Option Kind) → SpellsLoad text kind value need → ⊥
no_load_kind text name rest cut none unnamed kind value need s = unnamed kind (SameCut.piece (load_cut text name rest kind value need cut none s))

pub no_load_value : (text name after : List ℕ) (named : Kind) → text ≡ followed name (Some after) → NoSpace name → name ≡ name_of named → ((value : ℕ) (need : Option Kind) → SpellsValue after named value need → ⊥)
    → (kind : Kind) (value : ℕ) (need : Option Kind) → SpellsLoad text kind value need → ⊥
no_load_value text name after named cut none is unspelled kind value need s =
    let same = load_cut text name (Some after) kind value need cut none s in
    let kinds = kind_same kind named (sym (SameCut.piece same) ∙ is) in
    unspelled value need (subst (λ (k : Kind). SpellsValue after k value need) kinds (subst (λ (l : List ℕ). SpellsValue l kind value need) (sym (some_same after (SpellsLoad.after s) (SameCut.rest same))) (SpellsLoad.is_value s)))

-- ---- N, or N needs KIND
value_cut : (text digits : List ℕ) (rest : Option (List ℕ)) (kind : Kind) (value : ℕ) (need : Option Kind) → text ≡ followed digits rest → NoSpace digits → (s : SpellsValue text kind value need) → SameCut digits (SpellsValue.digits s) rest (SpellsValue.after s)
value_cut text digits rest kind value need cut none s = cut_same digits (SpellsValue.digits s) rest (SpellsValue.after s) none (spelled_no_space (SpellsValue.digits s) value (SpellsValue.is_value s)) (sym cut ∙ SpellsValue.whole s)

pub no_value_number : (text digits : List ℕ) (rest : Option (List ℕ)) (kind : Kind) → text ≡ followed digits rest → NoSpace digits → ((n : ℕ) → SpellsWord digits n → ⊥) → (value : ℕ) (need : Option Kind) → SpellsValue text kind value need → ⊥
no_value_number text digits rest kind cut none unspelled value need s =
    unspelled value (subst (λ (l : List ℕ). SpellsWord l value) (sym (SameCut.piece (value_cut text digits rest kind value need cut none s))) (SpellsValue.is_value s))

pub no_value_big : (text digits : List ℕ) (rest : Option (List ℕ)) (kind : Kind) (n : ℕ) → text ≡ followed digits rest → NoSpace digits → SpellsWord digits n → (n < end_of kind → ⊥) → (value : ℕ) (need : Option Kind) → SpellsValue text kind value need → ⊥
no_value_big text digits rest kind n cut none spells big value need s =
    let is = subst (λ (l : List ℕ). SpellsWord l value) (sym (SameCut.piece (value_cut text digits rest kind value need cut none s))) (SpellsValue.is_value s) in
    big (subst (λ (v : ℕ). v < end_of kind) (sym (SpellsWord.value is) ∙ SpellsWord.value spells) (SpellsValue.fits s))

pub no_value_need : (text digits : List ℕ) (rest : Option (List ℕ)) (kind : Kind) → text ≡ followed digits rest → NoSpace digits → ((need : Option Kind) → SpellsNeed rest need → ⊥) → (value : ℕ) (need : Option Kind) → SpellsValue text kind value need → ⊥
no_value_need text digits rest kind cut none unspelled value need s =
    unspelled need (subst (λ (o : Option (List ℕ)). SpellsNeed o need) (sym (SameCut.rest (value_cut text digits rest kind value need cut none s))) (SpellsValue.is_need s))

pub need_text : (text : List ℕ) → ((kind : Kind) → SpellsNeedText text kind → ⊥) → (need : Option Kind) → SpellsNeed (Some text) need → ⊥
need_text text unspelled None s = s
need_text text unspelled (Some kind) s = unspelled kind s

-- ---- KIND P
ask_cut : (text name : List ℕ) (rest : Option (List ℕ)) (kind : Kind) (plugin : ℕ) → text ≡ followed name rest → NoSpace name → (s : SpellsAsk text kind plugin) → SameCut name (name_of kind) rest (Some (SpellsAsk.digits s))
ask_cut text name rest kind plugin cut none s = cut_same name (name_of kind) rest (Some (SpellsAsk.digits s)) none (name_no_space kind) (sym cut ∙ SpellsAsk.whole s)

pub no_ask_short : (text name : List ℕ) → text ≡ followed name None → NoSpace name → (kind : Kind) (plugin : ℕ) → SpellsAsk text kind plugin → ⊥
no_ask_short text name cut none kind plugin s = never_some (SpellsAsk.digits s) (sym (SameCut.rest (ask_cut text name None kind plugin cut none s)))

pub no_ask_kind : (text name : List ℕ) (rest : Option (List ℕ)) → text ≡ followed name rest → NoSpace name → ((kind : Kind) → name ≡ name_of kind → ⊥) → (kind : Kind) (plugin : ℕ) → SpellsAsk text kind plugin → ⊥
no_ask_kind text name rest cut none unnamed kind plugin s = unnamed kind (SameCut.piece (ask_cut text name rest kind plugin cut none s))

pub no_ask_number : (text name digits : List ℕ) → text ≡ followed name (Some digits) → NoSpace name → ((n : ℕ) → SpellsWord digits n → ⊥) → (kind : Kind) (plugin : ℕ) → SpellsAsk text kind plugin → ⊥
no_ask_number text name digits cut none unspelled kind plugin s =
    unspelled plugin (subst (λ (l : List ℕ). SpellsWord l plugin) (sym (some_same digits (SpellsAsk.digits s) (SameCut.rest (ask_cut text name (Some digits) kind plugin cut none s)))) (SpellsAsk.is_plugin s))
