-- What contracts say of a list of plugins.
use Rattle.std.specs.Prelude.{◌≡◌, ◌≢◌, ℕ, ◌+◌, ◌<◌, List, [], ◌∷◌, length, Option, Some, None, slice_get, Contains}
use Rattle.stabby_layout.specs.Report.{Report}
use Rattle.stabby_count.specs.Shared.{arc_value}
use Rattle.stabby_count.specs.declared.spent.Spent.{Spent}
use Rattle.stabby_host.specs.declared.faults.LoadFault.{LoadFault}
use Rattle.stabby_host.specs.declared.faults.LoadFault.TheVariants.{Full, Exhausted, Unmet, Memory}
use Rattle.stabby_host.specs.declared.need.Need.{Need}
use Rattle.stabby_host.specs.declared.plugin.Loaded.{Loaded}
use Rattle.stabby_host.specs.declared.plugin.Plugin.{Plugin}
use Rattle.stabby_host.specs.declared.plugin.Plugin.TheVariants.{Live, Ended}

module _ {U : Type 0} where
  abbrev pub value_of : Loaded U → U
  value_of p = arc_value p.handle

  -- the plugin's value is of the type that has this id and this report
  abbrev pub HasType : (U → ℕ) → (U → Report) → ℕ → Report → Loaded U → Type 0
  HasType id report stated_id stated_report p = (id (value_of p) ≡ stated_id) × (report (value_of p) ≡ stated_report)

  -- the words of the plugin's table
  abbrev pub table_of : Loaded U → List ℕ
  table_of p = p.table

  -- the number that the registry gave to the table
  abbrev pub number_of : Loaded U → ℕ
  number_of p = p.number

  -- n is the plugin's number of its table, and the place of the table in the list
  abbrev pub IsNumberOf : List (List ℕ) → Loaded U → ℕ → Type 0
  IsNumberOf tables p n = (n ≡ number_of p) × (slice_get tables n ≡ Some (table_of p))

  -- the plugins that meet the plugin's needs, in order
  abbrev pub bound_of : Loaded U → List ℕ
  bound_of p = p.bound.items

  -- how many plugins are live
  abbrev pub live_count : List (Plugin U) → ℕ
  live_count [] = 0
  live_count (Live p ∷ ps) = live_count ps + 1
  live_count (Ended left ∷ ps) = live_count ps

  -- the plugin of this number is live, and is p
  abbrev pub IsLiveAt : List (Plugin U) → ℕ → Loaded U → Type 0
  IsLiveAt plugins n p = slice_get plugins n ≡ Some (Live p)

  -- the plugin of this number was unloaded
  abbrev pub IsEndedAt : List (Plugin U) → ℕ → Type 0
  IsEndedAt plugins n = (left : Option Spent) × (slice_get plugins n ≡ Some (Ended left))

  -- the plugin is live and bound to the one of number n
  abbrev pub IsBoundTo : ℕ → Plugin U → Type 0
  IsBoundTo n (Live p) = Contains (bound_of p) n
  IsBoundTo n (Ended left) = ⊥

  -- a live plugin that isn't the one of number n, and is bound to it
  abbrev pub NeedsPlugin : List (Plugin U) → ℕ → ℕ → Type 0
  NeedsPlugin plugins n by = (p : Plugin U) × (slice_get plugins by ≡ Some p) × IsBoundTo n p × (by ≢ n)

  -- the least of these
  pub record IsLeastNeeding (plugins : List (Plugin U)) (n by : ℕ) : Type 0 where
    pub needs : NeedsPlugin plugins n by
    pub least : (j : ℕ) → j < by → ¬ NeedsPlugin plugins n j

  -- a live plugin whose value has the id and the report that are needed
  abbrev pub Meets : (U → ℕ) → (U → Report) → Need → Plugin U → Type 0
  Meets id report need (Live p) = (id (value_of p) ≡ need.id) × (report (value_of p) ≡ need.report)
  Meets id report need (Ended left) = ⊥

  -- no plugin meets the need
  abbrev pub NoneMeets : (U → ℕ) → (U → Report) → Need → List (Plugin U) → Type 0
  NoneMeets id report need plugins = (j : ℕ) (p : Plugin U) → slice_get plugins j ≡ Some p → ¬ Meets id report need p

  -- the plugin of number n meets the need, and none before it does
  pub record IsLeastMeeting (id : U → ℕ) (report : U → Report) (need : Need) (plugins : List (Plugin U)) (n : ℕ) : Type 0 where
    pub in_range : n < length plugins
    pub meets : (p : Plugin U) → slice_get plugins n ≡ Some p → Meets id report need p
    pub least : (j : ℕ) (p : Plugin U) → j < n → slice_get plugins j ≡ Some p → ¬ Meets id report need p

  -- what a search for the least plugin that meets a need answers
  abbrev pub FindsMeeting : (U → ℕ) → (U → Report) → Need → List (Plugin U) → Option ℕ → Type 0
  FindsMeeting id report need plugins None = NoneMeets id report need plugins
  FindsMeeting id report need plugins (Some n) = IsLeastMeeting id report need plugins n

  -- each of the first `count` needs is bound, at its place, to the least plugin that meets it
  pub record BindsFirst (id : U → ℕ) (report : U → Report) (needs : List Need) (plugins : List (Plugin U)) (count : ℕ) (bound : List ℕ) : Type 0 where
    pub count_is : length bound ≡ count
    pub each : (i : ℕ) (need : Need) → i < count → slice_get needs i ≡ Some need
        → (n : ℕ) × (slice_get bound i ≡ Some n) × IsLeastMeeting id report need plugins n

  -- each of the first `count` needs is met
  abbrev pub AreMet : (U → ℕ) → (U → Report) → List Need → List (Plugin U) → ℕ → Type 0
  AreMet id report needs plugins count = (i : ℕ) (need : Need) → i < count → slice_get needs i ≡ Some need
      → (n : ℕ) × IsLeastMeeting id report need plugins n

  -- the first need that no plugin meets
  pub record IsFirstUnmet (id : U → ℕ) (report : U → Report) (needs : List Need) (plugins : List (Plugin U)) (place : ℕ) : Type 0 where
    pub in_range : place < length needs
    pub unmet : (need : Need) → slice_get needs place ≡ Some need → NoneMeets id report need plugins
    pub earlier : AreMet id report needs plugins place

  -- why the needs were not bound: the first that no plugin meets, or, where each is met, want of memory
  abbrev pub IsBindFault : (U → ℕ) → (U → Report) → List Need → List (Plugin U) → LoadFault → Type 0
  IsBindFault id report needs plugins (Unmet place) = IsFirstUnmet id report needs plugins place
  IsBindFault id report needs plugins (Full live) = ⊥
  IsBindFault id report needs plugins (Exhausted loaded) = ⊥
  IsBindFault id report needs plugins Memory = AreMet id report needs plugins (length needs)
