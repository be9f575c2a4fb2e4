-- What the end of one of several handles answers.
use Rattle.std.specs.Prelude.{◌≡◌, ◌<◌, Result, Ok, Err}
use Rattle.stabby_count.specs.declared.spent.Spent.{Spent}
use Rattle.stabby_count.specs.declared.strong.Arc.{Arc}
use Rattle.stabby_count.specs.Records.{strong_of}
use Rattle.stabby_count.specs.Shared.{arc_value, arc_block, spent_block, spent_word}

-- the step of the end read more than one strong handle
abbrev pub LeftOthers : Spent → Type 0
LeftOthers spent = 1 < strong_of (spent_word spent)

-- both handles counted in one word
abbrev pub AreOfOneBlock : Spent → Spent → Type 0
AreOfOneBlock first second = spent_block first ≡ spent_block second

-- the value of the handle, or a spent handle of its block that was not the last strong one
abbrev pub IsEndOf : {X : Type 0} → Arc X → Result X Spent → Type 0
IsEndOf handle (Ok value) = value ≡ arc_value handle
IsEndOf handle (Err spent) = LeftOthers spent × (spent_block spent ≡ arc_block handle)
