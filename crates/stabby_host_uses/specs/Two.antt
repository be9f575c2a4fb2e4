-- A host of two plugins, of which the second is bound to the first.
use Rattle.std.specs.Prelude.{◌≡◌, ℕ, List, [], ◌∷◌}
use Rattle.stabby_count.specs.Shared.{IsSole}
use Rattle.stabby_host.specs.Plugins.{bound_of, value_of}
use Rattle.stabby_host.specs.declared.plugin.Loaded.{Loaded}
use Rattle.stabby_host.specs.declared.plugin.Plugin.{Plugin}
use Rattle.stabby_host.specs.declared.plugin.Plugin.TheVariants.{Live}

pub record IsTwo {U : Type 0} (plugins : List (Plugin U)) (number other : U) : Type 0 where
  pub first : Loaded U
  pub second : Loaded U
  pub are : plugins ≡ Live first ∷ Live second ∷ []
  pub first_value : value_of first ≡ number
  pub second_value : value_of second ≡ other
  pub first_sole : IsSole first.handle
  pub second_sole : IsSole second.handle
  pub needs_none : bound_of first ≡ []
  pub needs_first : bound_of second ≡ 0 ∷ []
