-- What a look-up that counts its comparisons says.
use Rattle.std.specs.Prelude.{ℕ, ◌+◌, ◌-◌, ◌*◌, ◌≤◌, List, length, Option, Some, None, if◌then◌else◌}
use Rattle.stabby_tree.specs.Sets.{IsHeightOf}
use Rattle.stabby_tables.specs.Tables.{Table}
use Rattle.stabby_tables.specs.Lists.{has, place}

-- the number of t in the list
abbrev pub number_in : List Table → Table → Option ℕ
number_in front t = if has front t then Some (place front t) else None

-- The count rose by at most as many comparisons as one path has entries, in a tree of the tables whose nodes take fewer than
-- `size`.
pub record CountsOnePath (size : ℕ) (tables : List Table) (before after : ℕ) : Type 0 where
  pub height : ℕ
  pub is_height : IsHeightOf size height (length tables)
  pub bound : after ≤ before + (size - 1) * height
