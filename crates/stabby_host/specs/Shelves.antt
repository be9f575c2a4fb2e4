-- What a registry with its whole pass holds.
use Rattle.std.specs.Prelude.{◌≡◌, ℕ, List}
use Rattle.stabby_tables.specs.Lists.{with_table}
use Rattle.stabby_tables.specs.Tables.{Table}
use Rattle.stabby_registry.specs.Inserts.{IsNumber}
use Rattle.stabby_registry.specs.Passes.{front_of}
use Rattle.stabby_host.specs.declared.shelf.Shelf.{Shelf}

-- the distinct tables, in the order of their numbers
abbrev pub shelf_tables : Shelf → List Table
shelf_tables shelf = front_of shelf.pass

-- the table has this number in the list, where it was put at the end unless it stood there
pub record HasTable (before after : List Table) (t : Table) (n : ℕ) : Type 0 where
  pub number : IsNumber after t n
  pub tables : after ≡ with_table before t
