-- Sizes and alignments as numbers without a bound.
use Rattle.std.specs.Prelude.{◌≡◌, ℕ, ◌+◌, ◌-◌, ◌*◌, ◌/◌, ◌≤◌, ◌<◌, max}
use Rattle.stabby_layout.specs.declared.layout.Layout.{Layout}

-- m is the least multiple of a that isn't below n
pub record IsNextMultiple (a n m : ℕ) : Type 0 where
  pub multiple : (k : ℕ) × (m ≡ k * a)
  pub reaches : n ≤ m
  pub least : m < n + a

-- the least multiple of a that isn't below n, for a at least 1
abbrev pub next_multiple : ℕ → ℕ → ℕ
next_multiple a n = (n + (a - 1)) / a * a

-- the size up to a multiple of the new alignment
abbrev pub realigned : Layout → ℕ → Layout
realigned l a = record { size = next_multiple a l.size; align = a }

-- the two one after another, at the greater alignment
abbrev pub joined : Layout → Layout → Layout
joined a b = realigned (record { size = a.size + b.size; align = a.align }) (max a.align b.align)

-- n of them one after another
abbrev pub repeated : Layout → ℕ → Layout
repeated l n = record { size = l.size * n; align = l.align }
