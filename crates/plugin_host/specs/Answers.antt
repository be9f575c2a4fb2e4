-- The words of an answer.
use Rattle.std.specs.Prelude.{◌≡◌, ℕ, List, ◌++◌, flat_map, codes, Option, Some, None, Ok, Err}
use Rattle.std.specs.List.{AllZip}
use Rattle.std.specs.Fmt.{decimal}
use Rattle.stabby_host.specs.declared.faults.LoadFault.{LoadFault}
use Rattle.stabby_host.specs.declared.faults.LoadFault.TheVariants as load
use Rattle.stabby_host.specs.declared.faults.AskFault.{AskFault}
use Rattle.stabby_host.specs.declared.faults.AskFault.TheVariants as ask
use Rattle.stabby_host.specs.declared.faults.GuestFault.{GuestFault}
use Rattle.stabby_host.specs.declared.faults.GuestFault.TheVariants as guest
use Rattle.stabby_host.specs.declared.faults.UnloadFault.{UnloadFault}
use Rattle.stabby_host.specs.declared.faults.UnloadFault.TheVariants as unload
use Rattle.plugin_host.specs.declared.script.Kind.{Kind}
use Rattle.plugin_host.specs.declared.script.Kind.TheVariants.{Byte, Number}
use Rattle.plugin_host.specs.declared.script.Call.{Call}
use Rattle.plugin_host.specs.declared.script.Call.TheVariants as call
use Rattle.plugin_host.specs.declared.answers.Answer.{Answer}
use Rattle.plugin_host.specs.declared.answers.Answer.TheVariants as answer

-- words, and a number after them, on a line
abbrev pub number_line : List ℕ → ℕ → List ℕ
number_line words n = words ++ (decimal n ++ codes "\n")

abbrev pub load_fault_text : LoadFault → List ℕ
load_fault_text (load.Full live) = number_line (codes "full: live ") live
load_fault_text (load.Exhausted loaded) = number_line (codes "exhausted: loaded ") loaded
load_fault_text (load.Unmet place) = number_line (codes "unmet: need ") place
load_fault_text load.Memory = codes "memory\n"

abbrev pub ask_fault_text : AskFault → List ℕ
ask_fault_text ask.Unknown = codes "unknown\n"
ask_fault_text ask.Ended = codes "ended\n"
ask_fault_text (ask.Differs held asked) = codes "differs: id " ++ (decimal held ++ number_line (codes ", asked ") asked)

abbrev pub guest_fault_text : GuestFault → List ℕ
guest_fault_text (guest.Ask fault) = ask_fault_text fault
guest_fault_text (guest.Full word) = number_line (codes "full: word ") word
guest_fault_text guest.Memory = codes "memory\n"

abbrev pub unload_fault_text : UnloadFault → List ℕ
unload_fault_text unload.Unknown = codes "unknown\n"
unload_fault_text unload.Ended = codes "ended\n"
unload_fault_text (unload.Needed by) = number_line (codes "needed by ") by

abbrev pub value_text : Kind → ℕ → List ℕ
value_text Byte value = number_line (codes "unloaded: byte ") value
value_text Number value = number_line (codes "unloaded: number ") value

abbrev pub unloaded_text : Option (Kind × ℕ) → List ℕ
unloaded_text None = codes "unloaded: a guest has the value\n"
unloaded_text (Some given) = value_text given.0 given.1

-- the line of an answer
abbrev pub text_of : Answer → List ℕ
text_of (answer.Load (Ok plugin)) = number_line (codes "plugin ") plugin
text_of (answer.Load (Err fault)) = load_fault_text fault
text_of (answer.Ask (Ok value)) = number_line (codes "value ") value
text_of (answer.Ask (Err fault)) = ask_fault_text fault
text_of (answer.Guest (Ok given)) = codes "guest\n"
text_of (answer.Guest (Err fault)) = guest_fault_text fault
text_of (answer.Unload (Ok given)) = unloaded_text given
text_of (answer.Unload (Err fault)) = unload_fault_text fault

-- the lines of answers, in order
abbrev pub texts_of : List Answer → List ℕ
texts_of answers = flat_map text_of answers

-- the answer is one to a call of this kind
abbrev pub IsAnswerTo : Call → Answer → Type 0
IsAnswerTo (call.Load kind value need) (answer.Load result) = Unit {0}
IsAnswerTo (call.Load kind value need) (answer.Ask result) = ⊥
IsAnswerTo (call.Load kind value need) (answer.Guest result) = ⊥
IsAnswerTo (call.Load kind value need) (answer.Unload result) = ⊥
IsAnswerTo (call.Ask kind plugin) (answer.Load result) = ⊥
IsAnswerTo (call.Ask kind plugin) (answer.Ask result) = Unit {0}
IsAnswerTo (call.Ask kind plugin) (answer.Guest result) = ⊥
IsAnswerTo (call.Ask kind plugin) (answer.Unload result) = ⊥
IsAnswerTo (call.Guest plugin) (answer.Load result) = ⊥
IsAnswerTo (call.Guest plugin) (answer.Ask result) = ⊥
IsAnswerTo (call.Guest plugin) (answer.Guest result) = Unit {0}
IsAnswerTo (call.Guest plugin) (answer.Unload result) = ⊥
IsAnswerTo (call.Unload plugin) (answer.Load result) = ⊥
IsAnswerTo (call.Unload plugin) (answer.Ask result) = ⊥
IsAnswerTo (call.Unload plugin) (answer.Guest result) = ⊥
IsAnswerTo (call.Unload plugin) (answer.Unload result) = Unit {0}

-- the text holds a line for each call, which answers it
pub record AreAnswered (calls : List Call) (text : List ℕ) : Type 0 where
  pub answers : List Answer
  pub fit : AllZip IsAnswerTo calls answers
  pub lines : text ≡ texts_of answers
