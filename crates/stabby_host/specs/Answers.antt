-- What a host answers of a plugin, by the plugin's state.
use Rattle.std.specs.Prelude.{◌≡◌, ◌≢◌, ◌↔◌, ℕ, ◌<◌, List, set, Option, Some, None, IsSome, IsNone, IfSome, MatchOption, Result, Err, OnErr, MatchResult}
use Rattle.stabby_count.specs.Records.{RaisesAfterLooks, Refuses, strong_of, weak_of}
use Rattle.stabby_count.specs.Shared.{arc_value, arc_block, arc_record, weak_block, weak_record, weak_value, spent_record, spent_word, record_after_end, IsSameArc, IsSole, LeavesOthers}
use Rattle.stabby_count.specs.declared.fault.CountFault.TheVariants as count
use Rattle.stabby_count.specs.declared.machine.Step.TheVariants.{Downgrade}
use Rattle.stabby_count.specs.declared.spent.Spent.{Spent}
use Rattle.stabby_count.specs.declared.strong.Arc.{Arc}
use Rattle.stabby_count.specs.declared.view.Note.{Note}
use Rattle.stabby_count.specs.declared.weak.Weak.{Weak}
use Rattle.stabby_host.specs.Plugins.{IsLeastNeeding, NeedsPlugin, number_of, table_of, value_of}
use Rattle.stabby_host.specs.declared.faults.AskFault.{AskFault}
use Rattle.stabby_host.specs.declared.faults.AskFault.TheVariants as ask
use Rattle.stabby_host.specs.declared.faults.GuestFault.{GuestFault}
use Rattle.stabby_host.specs.declared.faults.GuestFault.TheVariants as guest
use Rattle.stabby_host.specs.declared.faults.UnloadFault.{UnloadFault}
use Rattle.stabby_host.specs.declared.faults.UnloadFault.TheVariants as unload
use Rattle.stabby_host.specs.declared.faults.ViewFault.{ViewFault}
use Rattle.stabby_host.specs.declared.faults.ViewFault.TheVariants as view
use Rattle.stabby_host.specs.declared.plugin.Loaded.{Loaded}
use Rattle.stabby_host.specs.declared.plugin.Plugin.{Plugin}
use Rattle.stabby_host.specs.declared.plugin.Plugin.TheVariants.{Live, Ended}

-- why no weak handle was made: what the strong handle's record had before and has now
abbrev pub IsGuestFault : List Note → List Note → GuestFault → Type 0
IsGuestFault before after (guest.Ask fault) = ⊥
IsGuestFault before after (guest.Full word) = Refuses weak_of before after (count.Full word)
IsGuestFault before after guest.Memory = Refuses weak_of before after count.Memory

module _ {U X : Type 0} where
  -- a plugin that was never loaded, one that was unloaded, and a live one, of which the answer or the fault says more
  abbrev pub Answers : Option (Plugin U) → Result X AskFault → (Loaded U → X → Type 0) → (Loaded U → AskFault → Type 0) → Type 0
  Answers None answer ok fault = answer ≡ Err ask.Unknown
  Answers (Some (Ended left)) answer ok fault = answer ≡ Err ask.Ended
  Answers (Some (Live p)) answer ok fault = MatchResult answer (ok p) (fault p)

  -- the same of a view
  abbrev pub Views : Option (Plugin U) → Result X ViewFault → (Loaded U → X → Type 0) → (Loaded U → ViewFault → Type 0) → Type 0
  Views None answer ok fault = answer ≡ Err (view.Ask ask.Unknown)
  Views (Some (Ended left)) answer ok fault = answer ≡ Err (view.Ask ask.Ended)
  Views (Some (Live p)) answer ok fault = MatchResult answer (ok p) (fault p)

module _ {U : Type 0} where
  -- why a live plugin can't be viewed with a table of these words
  abbrev pub IsViewFault : List ℕ → Loaded U → ViewFault → Type 0
  IsViewFault words p (view.Ask fault) = ⊥
  IsViewFault words p (view.OtherTable held) = (words ≢ table_of p) × (held ≡ number_of p)
  IsViewFault words p view.Memory = Unit {0}

  -- a weak handle of the value, which counts in the same word, by a step of the strong one
  pub record IsGuest (handle after : Arc U) (weak : Weak U) : Type 0 where
    pub value : weak_value weak ≡ arc_value handle
    pub block : weak_block weak ≡ arc_block handle
    pub added : RaisesAfterLooks Downgrade weak_of (arc_record handle) (arc_record after)
    pub copied : weak_record weak ≡ arc_record after

  -- a live plugin was asked for a weak handle, by steps of its own handle, which alone has changed
  pub record GivesGuest (at : ℕ) (p : Loaded U) (before after : List (Plugin U)) (answer : Result (Weak U) GuestFault) : Type 0 where
    pub handle : Arc U
    pub plugins : after ≡ set before at (Live (record p { handle = handle }))
    pub same : IsSameArc p.handle handle
    pub answer_is : MatchResult answer (IsGuest p.handle handle) (IsGuestFault (arc_record p.handle) (arc_record handle))
    pub stays_sole : IsSole p.handle → OnErr answer (IsSole handle)

  abbrev pub Guests : ℕ → List (Plugin U) → List (Plugin U) → Option (Plugin U) → Result (Weak U) GuestFault → Type 0
  Guests at before after None answer = (answer ≡ Err (guest.Ask ask.Unknown)) × (after ≡ before)
  Guests at before after (Some (Ended left)) answer = (answer ≡ Err (guest.Ask ask.Ended)) × (after ≡ before)
  Guests at before after (Some (Live p)) answer = GivesGuest at p before after answer

  -- a live plugin ended, by one step of its handle, which read `word`: the value came exactly where that is one strong, and
  -- else what is left of the handle stays in its place
  pub record EndsPlugin (at : ℕ) (p : Loaded U) (before after : List (Plugin U)) (given : Option U) : Type 0 where
    pub word : ℕ
    pub had_strong : 0 < strong_of word
    pub exactly : IsSome given ↔ (strong_of word ≡ 1)
    pub sole : IsSole p.handle → IsSome given
    pub value : IfSome given (λ value. value ≡ value_of p)
    pub left : Option Spent
    pub plugins : after ≡ set before at (Ended left)
    pub stays : MatchOption left (IsSome given) (λ spent. IsNone given × (spent_word spent ≡ word)
        × LeavesOthers p.handle spent × (spent_record spent ≡ record_after_end p.handle word))

  -- what is answered where a live plugin is to be unloaded
  abbrev pub UnloadsLive : ℕ → Loaded U → List (Plugin U) → List (Plugin U) → Result (Option U) UnloadFault → Type 0
  UnloadsLive at p before after answer = MatchResult answer
      (λ given. ((j : ℕ) → ¬ NeedsPlugin before at j) × EndsPlugin at p before after given)
      (λ fault. ((by : ℕ) × (fault ≡ unload.Needed by) × IsLeastNeeding before at by) × (after ≡ before))

  abbrev pub Unloads : ℕ → List (Plugin U) → List (Plugin U) → Option (Plugin U) → Result (Option U) UnloadFault → Type 0
  Unloads at before after None answer = (answer ≡ Err unload.Unknown) × (after ≡ before)
  Unloads at before after (Some (Ended left)) answer = (answer ≡ Err unload.Ended) × (after ≡ before)
  Unloads at before after (Some (Live p)) answer = UnloadsLive at p before after answer
