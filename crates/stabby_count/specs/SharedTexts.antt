-- What a contract says of the handles of shared texts. Each is a handle of a shared text with a capacity.
use Rattle.std.specs.Prelude.{ℕ, List}
use Rattle.stabby_text.specs.Texts.{Text}
use Rattle.stabby_count.specs.Shared.{arc_value, arc_block, arc_record, IsSole, IsShared, IsSameArc, IsSameWeak, FindsOthers, weak_value, weak_block, weak_record}
use Rattle.stabby_count.specs.declared.view.Note.{Note}
use Rattle.stabby_count.specs.declared.text.ArcStr.{ArcStr}
use Rattle.stabby_count.specs.declared.text.WeakStr.{WeakStr}

-- the bytes, and the capacity that the text was shared with
abbrev pub text_value : ArcStr → Text
text_value a = arc_value a.shared

abbrev pub text_bytes : ArcStr → List ℕ
text_bytes a = (text_value a).items

abbrev pub text_block : ArcStr → ℕ
text_block a = arc_block a.shared

abbrev pub text_record : ArcStr → List Note
text_record a = arc_record a.shared

abbrev pub IsSoleText : ArcStr → Type 0
IsSoleText a = IsSole a.shared

abbrev pub IsSharedText : ArcStr → Type 0
IsSharedText a = IsShared a.shared

abbrev pub IsSameText : ArcStr → ArcStr → Type 0
IsSameText before after = IsSameArc before.shared after.shared

-- one look, which did not find the handle alone
abbrev pub TextFindsOthers : ArcStr → ArcStr → Type 0
TextFindsOthers before after = FindsOthers before.shared after.shared

abbrev pub weak_text_value : WeakStr → Text
weak_text_value w = weak_value w.shared

abbrev pub weak_text_block : WeakStr → ℕ
weak_text_block w = weak_block w.shared

abbrev pub weak_text_record : WeakStr → List Note
weak_text_record w = weak_record w.shared

abbrev pub IsSameWeakText : WeakStr → WeakStr → Type 0
IsSameWeakText before after = IsSameWeak before.shared after.shared
