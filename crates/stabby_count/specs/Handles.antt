-- What a handle machine has, and what each step does to it and answers.
use Rattle.std.specs.Prelude.{◌≡◌, ℕ, ◌+◌, ◌-◌, ◌*◌, ◌^◌, ◌==◌, ◌&&◌, if◌then◌else◌}
use Rattle.stabby_count.specs.declared.machine.ValueState.{ValueState}
use Rattle.stabby_count.specs.declared.machine.ValueState.TheVariants.{Live, Taken, Released}
use Rattle.stabby_count.specs.declared.machine.Step.{Step}
use Rattle.stabby_count.specs.declared.machine.Step.TheVariants.{Clone, Downgrade, Upgrade, EndStrong, EndWeak, Look, Take}
use Rattle.stabby_count.specs.declared.machine.Reply.{Reply}
use Rattle.stabby_count.specs.declared.machine.Reply.TheVariants.{Done, Last, Freed, Full, Gone, Counts, NotHeld}

pub record Handles : Type 0 where
  pub strong : ℕ
  pub weak : ℕ
  pub value : ValueState

abbrev pub handles : ℕ → ℕ → ValueState → Handles
handles s w v = record { strong = s; weak = w; value = v }

-- one strong handle and its value
abbrev pub start : Handles
start = handles 1 0 Live

-- all strong handles together count as one weak one, for as long as the value is there
abbrev pub live_count : ValueState → ℕ
live_count Live = 1
live_count Taken = 0
live_count Released = 0

abbrev pub weak_count : Handles → ℕ
weak_count m = m.weak + live_count m.value

-- the strong count in the upper half of a word, the weak count in the lower
abbrev pub word_of : Handles → ℕ
word_of m = m.strong * 2 ^ 32 + weak_count m

-- the greatest count that half a word holds
abbrev pub count_limit : ℕ
count_limit = 2 ^ 32 - 1

-- the value has lost its last strong handle and waits to be taken
abbrev pub IsDue : Handles → Type 0
IsDue m = (m.strong ≡ 0) × (m.value ≡ Live)

-- the machine after a step, and the answer
abbrev pub Outcome : Type 0
Outcome = Handles × Reply

abbrev pub one_more_strong : Handles → Outcome
one_more_strong m = if m.strong == count_limit then (m, Full) else (handles (m.strong + 1) m.weak m.value, Done)

abbrev pub one_more_weak : Handles → Outcome
one_more_weak m = if weak_count m == count_limit then (m, Full) else (handles m.strong (m.weak + 1) m.value, Done)

-- the last weak handle of a taken value frees the block
abbrev pub without_weak : ℕ → ℕ → ValueState → Outcome
without_weak s w Live = (handles s w Live, Done)
without_weak s w Taken = if w == 0 then (handles s w Released, Freed) else (handles s w Taken, Done)
without_weak s w Released = (handles s w Released, Done)

-- the value is taken where no handle is strong, and frees the block where no handle is weak
abbrev pub without_value : Handles → ValueState → Outcome
without_value m Live = if m.strong == 0 then (if m.weak == 0 then (handles 0 0 Released, Freed) else (handles 0 m.weak Taken, Done)) else (m, NotHeld)
without_value m Taken = (m, NotHeld)
without_value m Released = (m, NotHeld)

abbrev pub stepped : Handles → Step → Outcome
stepped m Clone = if m.strong == 0 then (m, NotHeld) else one_more_strong m
stepped m Downgrade = if (m.strong == 0) && (m.weak == 0) then (m, NotHeld) else one_more_weak m
stepped m Upgrade = if m.weak == 0 then (m, NotHeld) else (if m.strong == 0 then (m, Gone) else one_more_strong m)
stepped m EndStrong = if m.strong == 0 then (m, NotHeld) else (handles (m.strong - 1) m.weak m.value, if m.strong == 1 then Last else Done)
stepped m EndWeak = if m.weak == 0 then (m, NotHeld) else without_weak m.strong (m.weak - 1) m.value
stepped m Look = if (m.strong == 0) && (m.weak == 0) then (m, NotHeld) else (m, Counts m.strong (weak_count m))
stepped m Take = without_value m m.value
