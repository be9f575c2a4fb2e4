-- How the places of a list are shared among workers, and who meets a number first.
use Rattle.std.specs.Prelude.{◌≡◌, ℕ, ◌+◌, ◌-◌, ◌*◌, ◌/◌, ◌<◌, ◌≤◌, min, List, length, slice_index, Contains}

-- how many places each of w workers has of n: their quotient, rounded up
abbrev pub share_size : ℕ → ℕ → ℕ
share_size n w = (n + (w - 1)) / w

-- worker k of w, counted from 0, has place p of n
abbrev pub InShare : ℕ → ℕ → ℕ → ℕ → Type 0
InShare n w k p = (k * share_size n w ≤ p) × (p < min ((k + 1) * share_size n w) n)

-- the number at place p has only smaller numbers before it in its share
abbrev pub IsFirstAt : List ℕ → ℕ → ℕ → Type 0
IsFirstAt numbers w p = (k q : ℕ) → InShare (length numbers) w k p → InShare (length numbers) w k q → q < p
    → slice_index numbers q < slice_index numbers p

-- each number that is at least m stands at such a place
abbrev pub IsFirstInShare : List ℕ → ℕ → ℕ → Type 0
IsFirstInShare numbers w m = (v : ℕ) → Contains numbers v → m ≤ v
    → (p : ℕ) × (p < length numbers) × (slice_index numbers p ≡ v) × IsFirstAt numbers w p
