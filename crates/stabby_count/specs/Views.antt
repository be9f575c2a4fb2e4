-- What a view is after each step on the count word, where the step read the word n.
use Rattle.std.specs.Prelude.{◌≡◌, ℕ, ◌+◌, ◌-◌, ◌/◌, ◌^◌, ◌<◌, ◌==◌, if◌then◌else◌, List, [], ◌∷◌, ◌++◌}
use Rattle.stabby_count.specs.declared.machine.Step.{Step}
use Rattle.stabby_count.specs.declared.machine.Step.TheVariants.{Clone, Downgrade, Upgrade, EndStrong, EndWeak, Look, Take}
use Rattle.stabby_count.specs.declared.view.Note.{Note}
use Rattle.stabby_count.specs.declared.view.View.{View}

-- the record with one step more
abbrev pub noted : View → Step → ℕ → List Note
noted v step n = v.notes ++ record { step = step; word = n } ∷ []

-- a new value's one strong handle
abbrev pub opening : View
opening = record { strong = 1; weak = 0; due = 0; free = 0; sole = 1; notes = [] }

abbrev pub looked : View → ℕ → View
looked v n = record v { notes = noted v Look n }

-- a strong view whose look read one strong and one weak
abbrev pub looked_sole : View → ℕ → View
looked_sole v n = record v { sole = 1; notes = noted v Look n }

abbrev pub cloned : View → ℕ → View
cloned v n = record v { strong = v.strong + 1; sole = 0; notes = noted v Clone n }

-- the end of the last strong handle leaves the value due
abbrev pub ended_strong : View → ℕ → View
ended_strong v n = record v { strong = v.strong - 1; due = if n / 2 ^ 32 == 1 then 1 else 0; sole = 0; notes = noted v EndStrong n }

-- where the value's own unit was the last, the block may be freed
abbrev pub took : View → ℕ → View
took v n = record v { due = 0; free = if n == 1 then 1 else 0; notes = noted v Take n }

-- of a strong view and of a weak one
abbrev pub downgraded : View → ℕ → View
downgraded v n = record v { weak = v.weak + 1; sole = 0; notes = noted v Downgrade n }

abbrev pub upgraded : View → ℕ → View
upgraded v n = record v { strong = v.strong + 1; notes = noted v Upgrade n }

abbrev pub ended_weak : View → ℕ → View
ended_weak v n = record v { weak = v.weak - 1; free = if n == 1 then 1 else 0; notes = noted v EndWeak n }

-- a split gives one of several shares to a new seat, which begins with a copy of the record
abbrev pub without_strong : View → View
without_strong v = record v { strong = v.strong - 1 }

abbrev pub with_strong : View → View
with_strong v = record { strong = 1; weak = 0; due = 0; free = 0; sole = 0; notes = v.notes }

abbrev pub without_weak : View → View
without_weak v = record v { weak = v.weak - 1 }

abbrev pub with_weak : View → View
with_weak v = record { strong = 0; weak = 1; due = 0; free = 0; sole = 0; notes = v.notes }

-- a seat that holds nothing and ends, or joins another
abbrev pub spent : View → View
spent v = record { strong = 0; weak = 0; due = 0; free = 0; sole = 0; notes = v.notes }

-- who may take which step, where the word is n

abbrev pub HasStrong : View → Type 0
HasStrong v = 0 < v.strong

abbrev pub HasWeak : View → Type 0
HasWeak v = 0 < v.weak

abbrev pub HasShare : View → Type 0
HasShare v = 0 < v.strong + v.weak

abbrev pub HasSeveral : View → Type 0
HasSeveral v = 1 < v.strong + v.weak

-- a strong handle at rest
abbrev pub IsOneStrong : View → Type 0
IsOneStrong v = (v.strong ≡ 1) × (v.weak ≡ 0)

-- a weak handle at rest
abbrev pub IsOneWeak : View → Type 0
IsOneWeak v = (v.strong ≡ 0) × (v.weak ≡ 1)

abbrev pub HoldsNothing : View → Type 0
HoldsNothing v = (v.strong + v.weak ≡ 0) × (v.due ≡ 0)
