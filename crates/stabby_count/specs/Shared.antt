-- What a contract says of the handles of shared values.
use Rattle.std.specs.Prelude.{◌≡◌, ◌≢◌, ◌⊎◌, ◌↔◌, ℕ, ◌<◌, Bool, true, false, List, [], ◌∷◌, ◌++◌, Result, IsOk, IfErr, MatchResult}
use Rattle.stabby_count.specs.Records.{AddsLook, ReadsAlone, note, alone, strong_of}
use Rattle.stabby_count.specs.declared.machine.Step.TheVariants.{Look, EndStrong}
use Rattle.stabby_count.specs.declared.view.Note.{Note}
use Rattle.stabby_count.specs.declared.strong.Arc.{Arc}
use Rattle.stabby_count.specs.declared.spent.Spent.{Spent}
use Rattle.stabby_count.specs.declared.weak.Weak.{Weak}

module _ {X : Type 0} where
  -- the value that a strong handle reads
  abbrev pub arc_value : Arc X → X
  arc_value a = a.share.value

  -- which count word a handle counts in: one number for all handles of one shared value
  abbrev pub arc_block : Arc X → ℕ
  arc_block a = a.share.names.views

  -- the handle's own steps, in order
  abbrev pub arc_record : Arc X → List Note
  arc_record a = a.share.view.notes

  -- no other handle of the value is there
  abbrev pub IsSole : Arc X → Type 0
  IsSole a = 0 < a.share.view.sole

  -- another handle was made of it, or it of another one, and no look told since that it is alone
  abbrev pub IsShared : Arc X → Type 0
  IsShared a = a.share.view.sole ≡ 0

  -- one read told whether a handle lends its value: one that did has the value x, which was written, and one that did
  -- not has its own
  pub record IsLent (before after : Arc X) (x : X) (lent : Bool) : Type 0 where
    pub written : lent ≡ true → arc_value after ≡ x
    pub kept : lent ≡ false → arc_value after ≡ arc_value before
    pub read : ReadsAlone (arc_record before) (arc_record after) lent
    pub block : arc_block after ≡ arc_block before
    pub sole : lent ≡ true → IsSole after

  -- the handle has the same value, and counts in the same word
  abbrev pub IsSameArc : Arc X → Arc X → Type 0
  IsSameArc before after = (arc_value after ≡ arc_value before) × (arc_block after ≡ arc_block before)

  -- the record once the handle has ended by a step that read n
  abbrev pub record_after_end : Arc X → ℕ → List Note
  record_after_end a n = arc_record a ++ note EndStrong n ∷ []

  -- the end of the handle read more than one strong, in its own block
  abbrev pub LeavesOthers : Arc X → Spent → Type 0
  LeavesOthers a s = (1 < strong_of s.word) × (s.seat.views ≡ arc_block a)

  -- what the end of a handle answered, whose step read the word n: the value exactly where n has one strong, and else n
  abbrev pub EndsAt : Result X Spent → ℕ → Type 0
  EndsAt answer n = (0 < strong_of n) × (IsOk answer ↔ (strong_of n ≡ 1)) × IfErr answer (λ s. s.word ≡ n)

  -- one look found the handle alone, and it keeps its block and its value x
  abbrev pub StaysAlone : Arc X → Arc X → X → Type 0
  StaysAlone before after x =
      (x ≡ arc_value before) × (arc_block after ≡ arc_block before) × AddsLook (arc_record before) (arc_record after) alone

  -- one look read `seen` and did not find the handle alone; it ended by a step that read `ended`, and x is a clone in a
  -- block of its own, whose handle one look found alone
  abbrev pub BeginsAnew : (X → X → Type 0) → Arc X → Arc X → X → Type 0
  BeginsAnew is_clone before after x =
      (seen : ℕ) × (ended : ℕ) × (seen ≢ alone) × (0 < strong_of ended) × is_clone (arc_value before) x
      × (arc_record after ≡ note Look alone ∷ [])

  -- y is x, or what a clone of x may be
  abbrev pub IsOrClones : (X → X → Type 0) → X → X → Type 0
  IsOrClones is_clone x y = (y ≡ x) ⊎ is_clone x y

  -- how a handle became the only one, with the value x
  abbrev pub PartsWays : (X → X → Type 0) → Arc X → Arc X → X → Type 0
  PartsWays is_clone before after x = StaysAlone before after x ⊎ BeginsAnew is_clone before after x

  -- what the end of the handle before it answered: of its value, its block and its record, after one look that did not
  -- find it alone
  abbrev pub EndsAfterLook : Arc X → Result X Spent → Type 0
  EndsAfterLook before answer =
      (seen : ℕ) × (ended : ℕ) × (seen ≢ alone) × EndsAt answer ended
      × MatchResult answer (λ x. x ≡ arc_value before)
      (λ s. (s.seat.views ≡ arc_block before)
      × (s.seat.view.notes ≡ arc_record before ++ note Look seen ∷ note EndStrong ended ∷ []))

  -- one look, which did not find the handle alone
  abbrev pub FindsOthers : Arc X → Arc X → Type 0
  FindsOthers before after = (word : ℕ) × (word ≢ alone) × AddsLook (arc_record before) (arc_record after) word

  -- the value that an upgrade gives
  abbrev pub weak_value : Weak X → X
  weak_value w = w.share.value

  abbrev pub weak_block : Weak X → ℕ
  weak_block w = w.share.names.views

  abbrev pub weak_record : Weak X → List Note
  weak_record w = w.share.view.notes

  -- the weak handle has the same value, and counts in the same word
  abbrev pub IsSameWeak : Weak X → Weak X → Type 0
  IsSameWeak before after = (weak_value after ≡ weak_value before) × (weak_block after ≡ weak_block before)

abbrev pub spent_block : Spent → ℕ
spent_block s = s.seat.views

abbrev pub spent_record : Spent → List Note
spent_record s = s.seat.view.notes

-- the word that the end step read
abbrev pub spent_word : Spent → ℕ
spent_word s = s.word
