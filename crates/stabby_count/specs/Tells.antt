-- What a step on the count word tells its caller: of the view v before it, the word n that it read and the view w after it.
use Rattle.std.specs.Prelude.{◌≡◌, ◌≢◌, ℕ, ◌+◌, ◌/◌, ◌%◌, ◌^◌, ◌<◌, ◌≤◌}
use Rattle.stabby_count.specs.declared.view.View.{View}
use Rattle.stabby_count.specs.Views.{looked, looked_sole}

-- the word has at least the view's own shares, and is one strong and one weak where the view is sole
abbrev pub Reads : View → ℕ → Type 0
Reads v n = (0 < v.sole → n ≡ 2 ^ 32 + 1) × (v.strong ≤ n / 2 ^ 32) × (v.weak ≤ n % 2 ^ 32) × (0 < v.strong → v.weak < n % 2 ^ 32)

-- a step that finds any word
abbrev pub Told : (View → ℕ → View) → ℕ → ℕ → View → ℕ → View → Type 0
Told view old new v n w = (w ≡ view v n) × Reads v n

-- an exchange of `old` for `new`: it carries its step out where it read `old`, and else is a look
abbrev pub ToldWhere : (View → ℕ → View) → ℕ → ℕ → View → ℕ → View → Type 0
ToldWhere view old new v n w = (n ≡ old → w ≡ view v n) × (n ≢ old → w ≡ looked v n) × Reads v n

-- a look that makes a view sole where it reads one strong and one weak
abbrev pub ToldSole : ℕ → ℕ → View → ℕ → View → Type 0
ToldSole old new v n w = (n ≡ 2 ^ 32 + 1 → w ≡ looked_sole v n) × (n ≢ 2 ^ 32 + 1 → w ≡ looked v n) × Reads v n

-- a load that the record notes where it finds no strong handle, for a call answers from it there
abbrev pub ToldNone : ℕ → ℕ → View → ℕ → View → Type 0
ToldNone old new v n w = (n / 2 ^ 32 ≡ 0 → w ≡ looked v n) × (n / 2 ^ 32 ≢ 0 → w ≡ v)

-- a load that no call answers from, and that the record does not note
abbrev pub ToldNothing : ℕ → ℕ → View → ℕ → View → Type 0
ToldNothing old new v n w = w ≡ v
