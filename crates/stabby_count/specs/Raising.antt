-- How a call raises a count: of which share, at which words, and what it leaves of it.
use Rattle.std.specs.Prelude.{◌≡◌, ◌≢◌, ℕ, ◌<◌, List}
use Rattle.stabby_count_word.specs.Changes.{Change, clone, downgrade, clone_weak, upgrade, kind_before}
use Rattle.stabby_count_word.specs.Kinds.{Kind, one_strong, one_weak}
use Rattle.stabby_count_word.specs.Steps.{IsStrong}
use Rattle.stabby_count_word.specs.declared.share.Share.{Share}
use Rattle.stabby_count.specs.Handles.{count_limit}
use Rattle.stabby_count.specs.Records.{AddsLook, AddsLooks, strong_of, weak_of}
use Rattle.stabby_count.specs.Tells.{Reads}
use Rattle.stabby_count.specs.Views.{looked, cloned, downgraded, upgraded, without_strong, with_strong, without_weak, with_weak}
use Rattle.stabby_count.specs.declared.fault.TryCountFault.{TryCountFault}
use Rattle.stabby_count.specs.declared.fault.TryCountFault.TheVariants.{Moved, Full, Memory}
use Rattle.stabby_count.specs.declared.raise.Raise.{Raise}
use Rattle.stabby_count.specs.declared.raise.Raise.TheVariants.{Clone, Downgrade, WeakClone, Upgrade}
use Rattle.stabby_count.specs.declared.view.Note.{Note}
use Rattle.stabby_count.specs.declared.view.View.{View}

-- the shares of the view that takes the step, and the view after it
abbrev pub strong_before : Raise → ℕ
strong_before Clone = 1
strong_before Downgrade = 1
strong_before WeakClone = 0
strong_before Upgrade = 0

abbrev pub weak_before : Raise → ℕ
weak_before Clone = 0
weak_before Downgrade = 0
weak_before WeakClone = 1
weak_before Upgrade = 1

abbrev pub MayRaise : Raise → View → Type 0
MayRaise raise v = (v.strong ≡ strong_before raise) × (v.weak ≡ weak_before raise)

abbrev pub view_by : Raise → View → ℕ → View
view_by Clone v n = cloned v n
view_by Downgrade v n = downgraded v n
view_by WeakClone v n = downgraded v n
view_by Upgrade v n = upgraded v n

-- how it changes the counts
abbrev pub change_by : Raise → Change
change_by Clone = clone
change_by Downgrade = downgrade
change_by WeakClone = clone_weak
change_by Upgrade = upgrade

-- the share that takes its first look, also one that holds its value
abbrev pub MayBegin : Raise → Kind → Type 0
MayBegin Clone k = IsStrong k
MayBegin Downgrade k = IsStrong k
MayBegin WeakClone k = k ≡ one_weak
MayBegin Upgrade k = k ≡ one_weak

-- a view whose count was raised
abbrev pub HasTwo : Raise → View → Type 0
HasTwo Clone v = (v.strong ≡ 2) × (v.weak ≡ 0)
HasTwo Downgrade v = (v.strong ≡ 1) × (v.weak ≡ 1)
HasTwo WeakClone v = (v.strong ≡ 0) × (v.weak ≡ 2)
HasTwo Upgrade v = (v.strong ≡ 1) × (v.weak ≡ 1)

-- what of it stays with the handle that raised the count, and what the new one has, with its kind of share
abbrev pub stays_by : Raise → View → View
stays_by Clone v = without_strong v
stays_by Downgrade v = without_weak v
stays_by WeakClone v = without_weak v
stays_by Upgrade v = with_weak v

abbrev pub goes_by : Raise → View → View
goes_by Clone v = with_strong v
goes_by Downgrade v = with_weak v
goes_by WeakClone v = with_weak v
goes_by Upgrade v = without_weak v

abbrev pub made_by : Raise → Kind
made_by Clone = one_strong
made_by Downgrade = one_weak
made_by WeakClone = one_weak
made_by Upgrade = one_strong

module _ {X Z P : Type 0} where
  -- it is of the same block, with the same value
  abbrev pub IsOfSame : Share X Z View P → Share X Z View P → Type 0
  IsOfSame before after = (after.names ≡ before.names) × (after.value ≡ before.value)

  -- the share that raised the count, and the new handle's, which part the view v
  abbrev pub Parted : Raise → View → Share X Z View P → Share X Z View P → Type 0
  Parted raise v kept made =
      IsOfSame kept made × (kept.view ≡ stays_by raise v) × (made.view ≡ goes_by raise v)
      × (kept.kind ≡ kind_before (change_by raise)) × (made.kind ≡ made_by raise)

  -- a share that did not raise a count, whose view was v
  abbrev pub Stays : Raise → View → Share X Z View P → Type 0
  Stays raise v s =
      (s.kind ≡ kind_before (change_by raise)) × (s.view.strong ≡ v.strong) × (s.view.weak ≡ v.weak) × (s.view.sole ≡ v.sole)

-- the words at which the count may be raised, and those at which it is refused
abbrev pub HasRoom : Raise → ℕ → Type 0
HasRoom Clone n = strong_of n < count_limit
HasRoom Downgrade n = weak_of n < count_limit
HasRoom WeakClone n = weak_of n < count_limit
HasRoom Upgrade n = (0 < strong_of n) × (strong_of n < count_limit)

abbrev pub LacksRoom : Raise → ℕ → Type 0
LacksRoom Clone n = strong_of n ≡ count_limit
LacksRoom Downgrade n = weak_of n ≡ count_limit
LacksRoom WeakClone n = weak_of n ≡ count_limit
LacksRoom Upgrade n = strong_of n ≢ 0 → strong_of n ≡ count_limit

-- one exchange that expected `found`, or none where that has no room
abbrev pub RefusedFrom : Raise → ℕ → View → View → ℕ → Type 0
RefusedFrom raise found before after word =
    (word ≡ found → LacksRoom raise word × (after ≡ before))
    × (word ≢ found → (after ≡ looked before word) × Reads before word)

-- a look and one exchange
abbrev pub Raised : {X Z P : Type 0} → Raise → View → Share X Z View P → Share X Z View P → Type 0
Raised raise before kept made =
    (n : ℕ) × HasRoom raise n × Reads before n × Parted raise (view_by raise (looked before n) n) kept made

abbrev pub Refused : Raise → View → View → TryCountFault → Type 0
Refused raise before after (Moved first second) =
    (first ≢ second) × Reads before first × Reads before second × (after ≡ looked (looked before first) second)
Refused raise before after (Full word) = LacksRoom raise word × Reads before word × (after ≡ looked before word)
Refused raise before after Memory = after ≡ before

-- a view with some looks more, the last of which read n
pub record LooksTo (before after : View) (n : ℕ) : Type 0 where
  pub middle : List Note
  pub looks : AddsLooks before.notes middle
  pub last : AddsLook middle after.notes n
  pub strong : after.strong ≡ before.strong
  pub weak : after.weak ≡ before.weak
  pub sole : after.sole ≡ before.sole
  pub reads : Reads before n

-- a look and as many exchanges as it took
abbrev pub RaisedAfterLooks : {X Z P : Type 0} → Raise → View → Share X Z View P → Share X Z View P → Type 0
RaisedAfterLooks raise before kept made =
    (n : ℕ) × (seen : View) × HasRoom raise n × LooksTo before seen n × Parted raise (view_by raise seen n) kept made

abbrev pub RefusedAfterLooks : Raise → View → View → ℕ → Type 0
RefusedAfterLooks raise before after n = LacksRoom raise n × LooksTo before after n
