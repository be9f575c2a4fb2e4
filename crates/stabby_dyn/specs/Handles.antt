-- What a counted pointer does to its handle, as the crate of the counted handles says it.
use Rattle.std.specs.Prelude.{◌≡◌, Bool, true, false}
use Rattle.stabby_count.specs.Shared.{arc_value, arc_block, arc_record, IsSole, IsShared, weak_block, weak_record}
use Rattle.stabby_count.specs.Records.{AddsStep, RaisesAfterLooks, ReadsAlone, Refuses, alone, strong_of, weak_of}
use Rattle.stabby_count.specs.declared.fault.CountFault.{CountFault}
use Rattle.stabby_count.specs.declared.fault.CountFault.TheVariants.{Memory}
use Rattle.stabby_count.specs.declared.machine.Step.TheVariants.{Clone, Downgrade}
use Rattle.stabby_count.specs.declared.strong.Arc.{Arc}
use Rattle.stabby_count.specs.declared.weak.Weak.{Weak}

module _ {X : Type 0} where
  -- one read of the word told that the handle lends its value: it is the only one
  abbrev pub LendsAlone : Arc X → Arc X → Type 0
  LendsAlone before after = ReadsAlone (arc_record before) (arc_record after) true
      × (arc_block after ≡ arc_block before) × IsSole after

  -- one read of the word told that it doesn't
  abbrev pub FindsOthers : Arc X → Arc X → Type 0
  FindsOthers before after = ReadsAlone (arc_record before) (arc_record after) false
      × (arc_block after ≡ arc_block before)

  -- a strong handle was cloned: what it is after that, and the other handle
  abbrev pub ClonesStrong : Arc X → Arc X → Arc X → Type 0
  ClonesStrong before after other = RaisesAfterLooks Clone strong_of (arc_record before) (arc_record after)
      × (arc_record other ≡ arc_record after) × (arc_block after ≡ arc_block before)
      × (arc_block other ≡ arc_block before) × IsShared after × IsShared other
      × (IsSole before → AddsStep Clone (arc_record before) (arc_record after) alone)

  -- the clone of a strong handle was refused
  abbrev pub RefusesStrong : Arc X → Arc X → CountFault → Type 0
  RefusesStrong before after fault = Refuses strong_of (arc_record before) (arc_record after) fault
      × (arc_block after ≡ arc_block before) × (IsSole before → IsSole after × (fault ≡ Memory))

  -- the same of a weak handle
  abbrev pub ClonesWeak : Weak X → Weak X → Weak X → Type 0
  ClonesWeak before after other = RaisesAfterLooks Downgrade weak_of (weak_record before) (weak_record after)
      × (weak_record other ≡ weak_record after) × (weak_block after ≡ weak_block before)
      × (weak_block other ≡ weak_block before)

  abbrev pub RefusesWeak : Weak X → Weak X → CountFault → Type 0
  RefusesWeak before after fault = Refuses weak_of (weak_record before) (weak_record after) fault
      × (weak_block after ≡ weak_block before)
