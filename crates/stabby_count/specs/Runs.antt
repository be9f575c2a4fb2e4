-- What a list of steps comes to, from one strong handle and its value.
use Rattle.std.specs.Prelude.{◌≡◌, ◌≢◌, ℕ, ◌+◌, ◌*◌, ◌/◌, ◌%◌, ◌^◌, ◌<◌, ◌≤◌, List, [], ◌∷◌, ◌++◌}
use Rattle.stabby_count.specs.Handles.{Handles, start, stepped, weak_count, word_of, IsDue}
use Rattle.stabby_count.specs.declared.machine.ValueState.{ValueState}
use Rattle.stabby_count.specs.declared.machine.ValueState.TheVariants.{Live, Taken, Released}
use Rattle.stabby_count.specs.declared.machine.Step.{Step}
use Rattle.stabby_count.specs.declared.machine.Step.TheVariants.{Take}
use Rattle.stabby_count.specs.declared.machine.Reply.{Reply}
use Rattle.stabby_count.specs.declared.machine.Reply.TheVariants.{Done, Freed}

abbrev pub after_from : Handles → List Step → Handles
after_from m [] = m
after_from m (s ∷ ss) = after_from (stepped m s).0 ss

abbrev pub after : List Step → Handles
after ss = after_from start ss

-- 1 where the step took the value
abbrev pub taken_by : Step → Reply → ℕ
taken_by Take Done = 1
taken_by Take Freed = 1
taken_by s r = 0

-- 1 where the step freed the block
abbrev pub freed_by : Reply → ℕ
freed_by Freed = 1
freed_by r = 0

abbrev pub takes_from : Handles → List Step → ℕ
takes_from m [] = 0
takes_from m (s ∷ ss) = taken_by s (stepped m s).1 + takes_from (stepped m s).0 ss

-- how many steps took the value
abbrev pub takes : List Step → ℕ
takes ss = takes_from start ss

abbrev pub frees_from : Handles → List Step → ℕ
frees_from m [] = 0
frees_from m (s ∷ ss) = freed_by (stepped m s).1 + frees_from (stepped m s).0 ss

-- how many steps freed the block
abbrev pub frees : List Step → ℕ
frees ss = frees_from start ss

-- the states of a value in their order
abbrev pub place_of : ValueState → ℕ
place_of Live = 0
place_of Taken = 1
place_of Released = 2

-- the word that both counts make, and that gives both back
pub record IsWordOf (word : ℕ) (m : Handles) : Type 0 where
  pub live : m.value ≡ Live → word ≡ m.strong * 2 ^ 32 + m.weak + 1
  pub not_live : m.value ≢ Live → word ≡ m.strong * 2 ^ 32 + m.weak
  pub upper_half : word / 2 ^ 32 ≡ m.strong
  pub lower_half : word % 2 ^ 32 ≡ weak_count m
  pub fits : word < 2 ^ 64

abbrev pub WordHoldsBothCounts : Type 0
WordHoldsBothCounts = (ss : List Step) → IsWordOf (word_of (after ss)) (after ss)

abbrev pub ValueNeverGoesBack : Type 0
ValueNeverGoesBack = (ss more : List Step) → place_of (after ss).value ≤ place_of (after (ss ++ more)).value

-- the value is taken once at most, and from then on no handle is strong
pub record IsTakenOnce (ss : List Step) : Type 0 where
  pub once : takes ss ≤ 1
  pub no_strong : 0 < takes ss → (more : List Step) → (after (ss ++ more)).strong ≡ 0

abbrev pub ValueIsTakenOnce : Type 0
ValueIsTakenOnce = (ss : List Step) → IsTakenOnce ss

-- the block is freed once at most, and from then on there is no handle
pub record IsFreedOnce (ss : List Step) : Type 0 where
  pub once : frees ss ≤ 1
  pub no_strong : 0 < frees ss → (more : List Step) → (after (ss ++ more)).strong ≡ 0
  pub no_weak : 0 < frees ss → (more : List Step) → (after (ss ++ more)).weak ≡ 0

abbrev pub BlockIsFreedOnce : Type 0
BlockIsFreedOnce = (ss : List Step) → IsFreedOnce ss

-- where no handle is left and the value is not due, it was taken and the block freed
pub record IsEnded (ss : List Step) : Type 0 where
  pub taken : takes ss ≡ 1
  pub freed : frees ss ≡ 1

abbrev pub EndedHandlesLeaveNothing : Type 0
EndedHandlesLeaveNothing = (ss : List Step) → (after ss).strong ≡ 0 → (after ss).weak ≡ 0 → ¬ IsDue (after ss) → IsEnded ss
