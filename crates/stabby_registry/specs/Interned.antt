-- The numbers of a list of tables, and the entries that rank them.
use Rattle.std.specs.Prelude.{◌≢◌, ℕ, ◌<◌, List, length, map, slice_index, All}
use Rattle.stabby_tables.specs.Tables.{Table}

-- what contracts see of an interned list
pub record InternedValue : Type 0 where
  pub numbers : List ℕ
  pub entries : List (Table × ℕ)

-- the entries have the numbers below their count, each once, and each of `numbers` is below it
pub record CanRank (entries : List (Table × ℕ)) (numbers : List ℕ) : Type 0 where
  pub below : (i : ℕ) → i < length entries → slice_index (map (λ (e : Table × ℕ). e.1) entries) i < length entries
  pub once : (i j : ℕ) → i < j → j < length entries
      → slice_index (map (λ (e : Table × ℕ). e.1) entries) i ≢ slice_index (map (λ (e : Table × ℕ). e.1) entries) j
  pub known : All (λ n. n < length entries) numbers
