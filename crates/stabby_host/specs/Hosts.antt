-- What contracts say of a host: its limit, its plugins in the order of loading, and the tables of its registry.
use Rattle.std.specs.Prelude.{◌≡◌, ℕ, ◌<◌, List, [], ◌∷◌, ◌++◌, length}
use Rattle.stabby_layout.specs.Report.{Report}
use Rattle.stabby_tables.specs.Lists.{with_table}
use Rattle.stabby_count.specs.Shared.{arc_record, IsSole}
use Rattle.stabby_dyn.specs.declared.member.Any as erasable
use Rattle.stabby_dyn.specs.declared.member.Universe as Universe
use Rattle.stabby_host.specs.Plugins.{AreMet, BindsFirst, IsFirstUnmet, IsNumberOf, bound_of, live_count, number_of, table_of, value_of}
use Rattle.stabby_host.specs.Shelves.{shelf_tables}
use Rattle.stabby_host.specs.declared.faults.LoadFault.{LoadFault}
use Rattle.stabby_host.specs.declared.faults.LoadFault.TheVariants.{Full, Exhausted, Unmet, Memory}
use Rattle.stabby_host.specs.declared.host.Host.{Host}
use Rattle.stabby_host.specs.declared.need.Need.{Need}
use Rattle.stabby_host.specs.declared.plugin.Loaded.{Loaded}
use Rattle.stabby_host.specs.declared.plugin.Plugin.{Plugin}
use Rattle.stabby_host.specs.declared.plugin.Plugin.TheVariants.{Live}

module _ {U : Type 0} {u : Universe.Ghosts U} {a : erasable.Ghosts U} where
  -- the plugins in the order of loading: a plugin's number is its place
  abbrev pub plugins_of : Host U u a → List (Plugin U)
  plugins_of host = host.plugins.items

  -- the registry's tables: a table's number is its place
  abbrev pub tables_of : Host U u a → List (List ℕ)
  tables_of host = shelf_tables host.shelf

  -- how many plugins may be live at once
  abbrev pub limit_of : Host U u a → ℕ
  limit_of host = host.limit

  pub record IsEmpty (host : Host U u a) (limit : ℕ) : Type 0 where
    pub no_plugin : plugins_of host ≡ []
    pub no_table : tables_of host ≡ []
    pub limit_is : limit_of host ≡ limit

  pub record IsSameHost (before after : Host U u a) : Type 0 where
    pub plugins : plugins_of after ≡ plugins_of before
    pub tables : tables_of after ≡ tables_of before
    pub limit : limit_of after ≡ limit_of before

  -- one more plugin may be live, and one more can be counted
  pub record HasRoom (host : Host U u a) : Type 0 where
    pub below_limit : live_count (plugins_of host) < limit_of host
    pub countable : length (plugins_of host) < 4294967295

  -- why a plugin with these needs was not loaded
  abbrev pub IsLoadFault : (U → ℕ) → (U → Report) → Host U u a → List Need → LoadFault → Type 0
  IsLoadFault id report host needs (Full live) = (live ≡ live_count (plugins_of host)) × (live ≡ limit_of host)
  IsLoadFault id report host needs (Exhausted loaded) = (live_count (plugins_of host) < limit_of host)
      × (loaded ≡ length (plugins_of host)) × (loaded ≡ 4294967295)
  IsLoadFault id report host needs (Unmet place) = HasRoom host × IsFirstUnmet id report needs (plugins_of host) place
  IsLoadFault id report host needs Memory = HasRoom host × AreMet id report needs (plugins_of host) (length needs)

  -- a plugin of this value, this table and these needs was added at the end, and got the number n
  pub record HasLoaded (id : U → ℕ) (report : U → Report) (before after : Host U u a) (value : U) (table : List ℕ) (needs : List Need) (n : ℕ) : Type 0 where
    pub plugin : Loaded U
    pub room : HasRoom before
    pub number : n ≡ length (plugins_of before)
    pub plugins : plugins_of after ≡ plugins_of before ++ Live plugin ∷ []
    pub value_is : value_of plugin ≡ value
    pub sole : IsSole plugin.handle
    pub new_record : arc_record plugin.handle ≡ []
    pub table_is : table_of plugin ≡ table
    pub table_number : IsNumberOf (tables_of after) plugin (number_of plugin)
    pub bound : BindsFirst id report needs (plugins_of before) (length needs) (bound_of plugin)
    pub tables : tables_of after ≡ with_table (tables_of before) table
    pub limit : limit_of after ≡ limit_of before
