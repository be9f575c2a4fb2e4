-- An answer other than Unknown and Ended is of a live plugin.
use Rattle.std.proofs.Common.{◌≡◌, Option, Some, None, Ok, refl}
use Rattle.stabby_host.specs.Answers.{Answers}
use Rattle.stabby_host.specs.declared.faults.AskFault.{AskFault}
use Rattle.stabby_host.specs.declared.plugin.Loaded.{Loaded}
use Rattle.stabby_host.specs.declared.plugin.Plugin.{Plugin}
use Rattle.stabby_host.specs.declared.plugin.Plugin.TheVariants.{Live, Ended}

pub answered_live : {U X : Type 0} (o : Option (Plugin U)) (x : X) (ok : Loaded U → X → Type 0) (fault : Loaded U → AskFault → Type 0)
    → Answers o (Ok x) ok fault → (p : Loaded U) × (o ≡ Some (Live p))
answered_live None x ok fault e = cc
answered_live (Some (Ended left)) x ok fault e = cc
answered_live (Some (Live p)) x ok fault e = (p, refl)
