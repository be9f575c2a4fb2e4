-- What the laws of the rule say: from every word and all views that meet the rule, a step leads to a word and views that meet it.
use Rattle.std.specs.Prelude.{◌≡◌, ◌≢◌, ◌↔◌, ◌⊎◌, ℕ, ◌+◌, ◌/◌, ◌%◌, ◌^◌, ◌<◌, List, [], ◌∷◌, ◌++◌, Some, slice_get, slice_set, sum_by}
use Rattle.stabby_count.specs.Handles.{count_limit, stepped}
use Rattle.stabby_count.specs.Rule.{Rule, machine_of, totals_of}
use Rattle.stabby_count.specs.Views.{opening, HasStrong, HasWeak, HasShare}
use Rattle.stabby_count.specs.declared.machine.Step.{Step}
use Rattle.stabby_count.specs.declared.machine.Step.TheVariants.{Clone, Downgrade, Upgrade}
use Rattle.stabby_count.specs.declared.machine.ValueState.TheVariants.{Live}
use Rattle.stabby_count.specs.declared.machine.Reply.{Reply}
use Rattle.stabby_count.specs.declared.machine.Reply.TheVariants.{Full, Gone}
use Rattle.stabby_count.specs.declared.view.View.{View}

-- a step of the machine took all views to others and the word to another
pub record IsStep (before after : List View) (word : ℕ) (step : Step) (reply : Reply) : Type 0 where
  pub rule : Rule word after
  pub machine : stepped (machine_of before) step ≡ (machine_of after, reply)

-- a move of seats alone: the word and the machine stay
pub record IsMove (before after : List View) (word : ℕ) : Type 0 where
  pub rule : Rule word after
  pub machine : machine_of after ≡ machine_of before

-- one row of the table of steps: which view takes the step at which word, the word and the view after, the machine's step and its answer
abbrev pub KeepsRule : (View → ℕ → Type 0) → (ℕ → ℕ) → (View → ℕ → View) → Step → (ℕ → Reply) → Type 0
KeepsRule may word view step reply = (n place : ℕ) (views : List View) (v : View) → Rule n views → slice_get views place ≡ Some v → may v n
    → IsStep views (slice_set views place (view v n)) (word n) step (reply n)

-- a split leaves `left` of a view and gives `right` to a new seat
abbrev pub SplitKeepsRule : (View → Type 0) → (View → View) → (View → View) → Type 0
SplitKeepsRule may left right = (n place : ℕ) (views : List View) (v : View) → Rule n views → slice_get views place ≡ Some v → may v
    → IsMove views (slice_set views place (left v) ++ right v ∷ []) n

-- the end of a seat, or its join into another
abbrev pub EndKeepsRule : (View → Type 0) → (View → View) → Type 0
EndKeepsRule may after = (n place : ℕ) (views : List View) (v : View) → Rule n views → slice_get views place ≡ Some v → may v
    → IsMove views (slice_set views place (after v)) n

abbrev pub OpeningMeetsRule : Type 0
OpeningMeetsRule = Rule (2 ^ 32 + 1) (opening ∷ [])

-- a step that finds its count at the limit, or no strong handle, changes nothing: the machine refuses it as well
pub record IsRefused (n : ℕ) (views : List View) (v : View) : Type 0 where
  pub clone_full : HasStrong v → n / 2 ^ 32 ≡ count_limit → stepped (machine_of views) Clone ≡ (machine_of views, Full)
  pub downgrade_full : HasShare v → n % 2 ^ 32 ≡ count_limit → stepped (machine_of views) Downgrade ≡ (machine_of views, Full)
  pub upgrade_full : HasWeak v → n / 2 ^ 32 ≡ count_limit → stepped (machine_of views) Upgrade ≡ (machine_of views, Full)
  pub upgrade_gone : HasWeak v → n / 2 ^ 32 ≡ 0 → stepped (machine_of views) Upgrade ≡ (machine_of views, Gone)

abbrev pub RefusalsAreTheMachines : Type 0
RefusalsAreTheMachines = (n place : ℕ) (views : List View) (v : View) → Rule n views → slice_get views place ≡ Some v → IsRefused n views v

abbrev pub SoleViewReadsOneAndOne : Type 0
SoleViewReadsOneAndOne = (n place : ℕ) (views : List View) (v : View) → Rule n views → slice_get views place ≡ Some v → 0 < v.sole → n ≡ 2 ^ 32 + 1

-- where a strong view reads one strong and one weak, no other view has a share or a right
abbrev pub OneAndOneIsAlone : Type 0
OneAndOneIsAlone = (place other : ℕ) (views : List View) (v u : View) → Rule (2 ^ 32 + 1) views → slice_get views place ≡ Some v → HasStrong v
    → slice_get views other ≡ Some u → other ≢ place → u.strong + u.weak + u.due + u.free + u.sole ≡ 0

-- the value is not taken exactly where there is a strong view or one due view, and never both
pub record IsUntakenWhereHeld (views : List View) : Type 0 where
  pub untaken : ((machine_of views).value ≡ Live) ↔ (0 < (totals_of views).strong + (totals_of views).due)
  pub never_both : (totals_of views).strong ≡ 0 ⊎ (totals_of views).due ≡ 0

abbrev pub ValueIsHeld : Type 0
ValueIsHeld = (n : ℕ) (views : List View) → Rule n views → IsUntakenWhereHeld views

abbrev pub ReplacingChangesTheSum : Type 0
ReplacingChangesTheSum = (f : View → ℕ) (views : List View) (place : ℕ) (old new : View) → slice_get views place ≡ Some old
    → sum_by f (slice_set views place new) + f old ≡ sum_by f views + f new
