-- What a call adds to the record of its handle.
use Rattle.std.specs.Prelude.{◌≡◌, ◌≢◌, ℕ, ◌+◌, ◌/◌, ◌%◌, ◌^◌, ◌<◌, ◌==◌, Bool, List, [], ◌∷◌, ◌++◌, All}
use Rattle.stabby_count.specs.Handles.{count_limit}
use Rattle.stabby_count.specs.declared.machine.Step.{Step}
use Rattle.stabby_count.specs.declared.machine.Step.TheVariants.{Look, Upgrade}
use Rattle.stabby_count.specs.declared.view.Note.{Note}
use Rattle.stabby_count.specs.declared.fault.CountFault.{CountFault}
use Rattle.stabby_count.specs.declared.fault.CountFault.TheVariants.{Full, Memory}
use Rattle.stabby_count.specs.declared.fault.TryCountFault.{TryCountFault}
use Rattle.stabby_count.specs.declared.fault.TryCountFault.TheVariants.{Moved, Full as TryFull, Memory as TryMemory}

abbrev pub note : Step → ℕ → Note
note step n = record { step = step; word = n }

-- the two counts of a word
abbrev pub strong_of : ℕ → ℕ
strong_of n = n / 2 ^ 32

abbrev pub weak_of : ℕ → ℕ
weak_of n = n % 2 ^ 32

-- one strong and one weak
abbrev pub alone : ℕ
alone = 2 ^ 32 + 1

-- one look, which read n
abbrev pub AddsLook : List Note → List Note → ℕ → Type 0
AddsLook before after n = after ≡ before ++ note Look n ∷ []

-- one look, and whether it read one strong and one weak
abbrev pub ReadsAlone : List Note → List Note → Bool → Type 0
ReadsAlone before after answer = (n : ℕ) × (answer ≡ (n == alone)) × AddsLook before after n

-- a look and a step, which read the same word
abbrev pub AddsStep : Step → List Note → List Note → ℕ → Type 0
AddsStep step before after n = after ≡ before ++ note Look n ∷ note step n ∷ []

abbrev pub IsLook : Note → Type 0
IsLook n = n.step ≡ Look

-- any number of looks
pub record AddsLooks (before after : List Note) : Type 0 where
  pub looks : List Note
  pub are_looks : All IsLook looks
  pub added : after ≡ before ++ looks

-- a raising call of one try: count says which count of a word it raises
abbrev pub RefusesTry : (ℕ → ℕ) → List Note → List Note → TryCountFault → Type 0
RefusesTry count before after (Moved first second) =
    (first ≢ second) × (after ≡ before ++ note Look first ∷ note Look second ∷ [])
RefusesTry count before after (TryFull word) = (count word ≡ count_limit) × AddsLook before after word
RefusesTry count before after TryMemory = after ≡ before

-- a raising call that tries again
abbrev pub Refuses : (ℕ → ℕ) → List Note → List Note → CountFault → Type 0
Refuses count before after (Full word) =
    (count word ≡ count_limit) × ((middle : List Note) × AddsLooks before middle × AddsLook middle after word)
Refuses count before after Memory = AddsLooks before after

-- one try that raised a count: the word that it read is below the limit
abbrev pub Raises : Step → (ℕ → ℕ) → List Note → List Note → Type 0
Raises step count before after = (n : ℕ) × (count n < count_limit) × AddsStep step before after n

-- one try that upgraded: the word that it read has a strong handle, and room for one more
abbrev pub Upgrades : List Note → List Note → Type 0
Upgrades before after = (n : ℕ) × (0 < strong_of n) × (strong_of n < count_limit) × AddsStep Upgrade before after n

-- a raising call that tries again and succeeded: looks, and then the step and the look before it, below the limit
abbrev pub RaisesAfterLooks : Step → (ℕ → ℕ) → List Note → List Note → Type 0
RaisesAfterLooks step count before after =
    (n : ℕ) × (count n < count_limit) × ((middle : List Note) × AddsLooks before middle × AddsStep step middle after n)

-- the same for an upgrade, which finds a strong handle there
abbrev pub UpgradesAfterLooks : List Note → List Note → Type 0
UpgradesAfterLooks before after =
    (n : ℕ) × (0 < strong_of n) × (strong_of n < count_limit)
    × ((middle : List Note) × AddsLooks before middle × AddsStep Upgrade middle after n)

-- a look that found no strong handle
abbrev pub FindsNone : List Note → List Note → Type 0
FindsNone before after = (n : ℕ) × (strong_of n ≡ 0) × AddsLook before after n

-- any number of looks, and then one that found no strong handle
abbrev pub FindsNoneAfterLooks : List Note → List Note → Type 0
FindsNoneAfterLooks before after = (middle : List Note) × AddsLooks before middle × FindsNone middle after
