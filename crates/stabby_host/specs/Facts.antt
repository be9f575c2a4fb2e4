-- What is true of every host's plugins.
use Rattle.std.specs.Prelude.{◌≡◌, ℕ, Bool, true, false, List, Option, Some, None, Contains, slice_get}
use Rattle.stabby_host.specs.declared.plugin.Loaded.{Loaded}
use Rattle.stabby_host.specs.declared.plugin.Plugin.{Plugin}
use Rattle.stabby_host.specs.declared.plugin.Plugin.TheVariants.{Live, Ended}

module _ {U : Type 0} where
  abbrev pub is_live : Option (Plugin U) → Bool
  is_live None = false
  is_live (Some (Live p)) = true
  is_live (Some (Ended left)) = false

  -- each live plugin's number is that of its table
  abbrev pub AreNumbered : List (List ℕ) → List (Plugin U) → Type 0
  AreNumbered tables plugins = (n : ℕ) (p : Loaded U) → slice_get plugins n ≡ Some (Live p)
      → slice_get tables p.number ≡ Some p.table

  -- each plugin that a live one is bound to is live
  abbrev pub AreBoundToLive : List (Plugin U) → Type 0
  AreBoundToLive plugins = (n m : ℕ) (p : Loaded U) → slice_get plugins n ≡ Some (Live p) → Contains p.bound.items m
      → is_live (slice_get plugins m) ≡ true
