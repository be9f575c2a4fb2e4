-- One call more was answered.
use Rattle.std.proofs.Common.{◌≡◌, ℕ, ◌+◌, ◌<◌, List, [], ◌∷◌, ◌++◌, length, take, get_or, refl, sym, ◌∙◌, ap, append_assoc, append-nil}
use Rattle.std.proofs.lemmas.List.{take_more}
use Rattle.stabby_tables.proofs.Zips.{zip_push}
use Rattle.plugin_host.specs.Answers.{AreAnswered, IsAnswerTo, text_of, texts_of}
use Rattle.plugin_host.specs.declared.answers.Answer.{Answer}
use Rattle.plugin_host.specs.declared.script.Call.{Call}

texts_push : (list : List Answer) (a : Answer) → texts_of (list ++ a ∷ []) ≡ texts_of list ++ text_of a
texts_push [] a = append-nil (text_of a)
texts_push (b ∷ list) a = ap (λ (l : List ℕ). text_of b ++ l) (texts_push list a) ∙ sym (append_assoc (text_of b) (texts_of list) (text_of a))

pub answered_none : (calls : List Call) → AreAnswered (take 0 calls) []
answered_none calls = record { answers = []; fit = tt; lines = refl }

pub answered_more : (calls : List Call) (i : ℕ) (d : Call) (a : Answer) (text next : List ℕ) → i < length calls → AreAnswered (take i calls) text → IsAnswerTo (get_or calls i d) a → next ≡ text ++ text_of a
    → AreAnswered (take (i + 1) calls) next
answered_more calls i d a text next lt so fit is =
    let more : AreAnswered (take i calls ++ get_or calls i d ∷ []) next = record {
      answers = AreAnswered.answers so ++ a ∷ [];
      fit = zip_push IsAnswerTo (take i calls) (AreAnswered.answers so) (get_or calls i d) a (AreAnswered.fit so) fit;
      lines = is ∙ (ap (λ (l : List ℕ). l ++ text_of a) (AreAnswered.lines so) ∙ sym (texts_push (AreAnswered.answers so) a));
    } in
    rw (take_more calls i d lt) more
