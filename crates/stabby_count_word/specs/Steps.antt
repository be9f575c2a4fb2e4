-- What a step of a share asks of it, and what it leaves.
use Rattle.std.specs.Prelude.{◌≡◌, ◌≢◌, ◌⊎◌, ℕ, ◌+◌, ◌-◌, ◌%◌, ◌^◌, ◌==◌}
use prog.Atomic.{either}
use Rattle.stabby_count_word.specs.Kinds.{Kind, one_strong, one_weak, held}

-- what an exchange of `old` for `new` makes of the word that it finds
abbrev pub exchanged : ℕ → ℕ → ℕ → ℕ
exchanged old new n = either (n == old) new n

-- what taking k away makes of the word that it finds, in 64 bits
abbrev pub less_by : ℕ → ℕ → ℕ
less_by k n = (n + (2 ^ 64 - k)) % 2 ^ 64

-- it reads the value: a strong share, or a sole one that holds its value
abbrev pub IsStrong : Kind → Type 0
IsStrong k = (k ≡ one_strong) ⊎ (k ≡ held)

-- it may look at the word
abbrev pub MayLook : Kind → Type 0
MayLook k = IsStrong k ⊎ (k ≡ one_weak)

-- a value that a strong share held is back in the block
abbrev pub Settles : Kind → Kind → Type 0
Settles before after = (IsStrong before → after ≡ one_strong) × (before ≡ one_weak → after ≡ one_weak)

-- the kind is `changed` where the step found `old`, else `other`
abbrev pub KindBy : ℕ → ℕ → Kind → Kind → Kind → Type 0
KindBy found old changed other kind = (found ≡ old → kind ≡ changed) × (found ≢ old → kind ≡ other)
