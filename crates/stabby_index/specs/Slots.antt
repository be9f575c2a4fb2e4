-- What is at each key of a version's maps.
use Rattle.std.specs.Prelude.{◌≡◌, ℕ, List, length, filter_map, IsSome, Option, Some, None}
use Rattle.std.specs.List.{AllByRecursion}
use Rattle.std.specs.Ordering.{nat_cmp}
use Rattle.std.specs.declared.sync.Arc.{Arc}
use Rattle.std.specs.Arc.{arc_value}
use Rattle.stabby_tree.specs.declared.entry.Entry.{Entry}
use Rattle.stabby_tree.specs.Sets.{found}
use Rattle.stabby_tree.specs.Maps.{IsRisingMap}
use Rattle.stabby_tree.specs.Entries.{key_of_entry, value_of_entry}
use Rattle.stabby_index.specs.declared.row.Row.{Row}
use Rattle.stabby_index.specs.Rows.{row_at}
use Rattle.stabby_index.specs.declared.row.Change.{Change}
use Rattle.stabby_index.specs.declared.row.Change.TheVariants as change
use Rattle.stabby_index.specs.declared.changes.Shared.{Shared}
use Rattle.stabby_index.specs.declared.changes.Shared.TheVariants as shared
use Rattle.stabby_index.specs.Groups.{itself, keys_at}

abbrev pub row_in : {A : Type 0} → Option (Arc Row A) → Option Row
row_in None = None
row_in (Some a) = Some (arc_value a)

-- the change that a version keeps
abbrev pub change_of : Shared → Change
change_of (shared.Put a) = change.Put (arc_value a)
change_of (shared.Delete k) = change.Delete k

-- the rows of the entries, without the marks of those that left
abbrev pub live : List (Entry ℕ (Option Row)) → List Row
live es = filter_map value_of_entry es

-- the row that a lookup of a key finds, by what it finds of its slot
abbrev pub row_of_slot : Option (Option Row) → Option Row
row_of_slot None = None
row_of_slot (Some slot) = slot

abbrev pub HasKey : ℕ → Option Row → Type 0
HasKey k None = Unit {0}
HasKey k (Some r) = r.key ≡ k

-- each row stands at its own key
abbrev pub AreKeyed : List (Entry ℕ (Option Row)) → Type 0
AreKeyed es = AllByRecursion (λ e. HasKey (key_of_entry e) (value_of_entry e)) es

-- each row's key is among its group's
abbrev pub AreGrouped : List Row → List (Entry ℕ (List ℕ)) → Type 0
AreGrouped rows groups = (k : ℕ) (r : Row) → row_at rows k ≡ Some r → IsSome (found itself nat_cmp (keys_at groups r.group) k)

pub record IsVersionOfRows (es : List (Entry ℕ (Option Row))) (groups : List (Entry ℕ (List ℕ))) (count : ℕ) : Type 0 where
  pub rising : IsRisingMap nat_cmp es
  pub keyed : AreKeyed es
  pub count_is : count ≡ length (live es)
  pub grouped : AreGrouped (live es) groups
