-- The keys of a group, in order.
use Rattle.std.specs.Prelude.{◌≡◌, ℕ, ◌==◌, List, [], filter_map, length, Option, Some, None, false, if◌then◌else◌}
use Rattle.std.specs.Ordering.{nat_cmp, is_eq}
use Rattle.stabby_tree.specs.Sets.{IsRising, inserted}
use Rattle.stabby_tree.specs.declared.entry.Entry.{Entry}
use Rattle.stabby_tree.specs.Maps.{value_at}
use Rattle.stabby_index.specs.declared.row.Row.{Row}
use Rattle.stabby_index.specs.Rows.{row_at, counted, in_group}

abbrev pub itself : ℕ → ℕ
itself n = n

abbrev pub IsRisingKeys : List ℕ → Type 0
IsRisingKeys keys = IsRising itself nat_cmp keys

abbrev pub with_key : List ℕ → ℕ → List ℕ
with_key keys k = inserted itself nat_cmp false keys k

-- the row, where it is one of the group
abbrev pub only : ℕ → Option Row → Option Row
only g None = None
only g (Some r) = if r.group == g then Some r else None

-- of the rows of these keys, those of the group
abbrev pub picked : List Row → ℕ → List ℕ → List Row
picked rows g keys = filter_map (λ k. only g (row_at rows k)) keys

-- of these groups, those that have a row, with how many
abbrev pub counts_of : List Row → List ℕ → List (ℕ × ℕ)
counts_of rows groups = filter_map (λ g. counted g (length (in_group rows g))) groups

abbrev pub keys_in : Option (List ℕ) → List ℕ
keys_in None = []
keys_in (Some keys) = keys

-- the keys that the group has or had
abbrev pub keys_at : List (Entry ℕ (List ℕ)) → ℕ → List ℕ
keys_at groups g = keys_in (value_at nat_cmp groups g)

-- the groups after this key was put into this group's keys
abbrev pub IsWithKey : List (Entry ℕ (List ℕ)) → ℕ → ℕ → List (Entry ℕ (List ℕ)) → Type 0
IsWithKey groups g k more = (h : ℕ) → value_at nat_cmp more h ≡ (if is_eq (nat_cmp g h) then Some (with_key (keys_at groups g) k) else value_at nat_cmp groups h)
