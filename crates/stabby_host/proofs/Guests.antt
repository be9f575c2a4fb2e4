-- A weak handle of the plugin that stands at a place.
use Rattle.std.proofs.Common.{◌≡◌, ℕ, List, get_or, set, Some, refl, sym, subst, ◌∙◌}
use Rattle.std.specs.Prelude.{slice_get, Result, OnErr, MatchResult}
use Rattle.stabby_count.specs.Shared.{arc_record, IsSameArc, IsSole}
use Rattle.stabby_count.specs.declared.strong.Arc.{Arc}
use Rattle.stabby_count.specs.declared.weak.Weak.{Weak}
use Rattle.stabby_host.proofs.Places.{read_there}
use Rattle.stabby_host.proofs.PluginLemmas.{same_live}
use Rattle.stabby_host.specs.Answers.{GivesGuest, IsGuest, IsGuestFault}
use Rattle.stabby_host.specs.declared.faults.GuestFault.{GuestFault}
use Rattle.stabby_host.specs.declared.plugin.Loaded.{Loaded}
use Rattle.stabby_host.specs.declared.plugin.Plugin.{Plugin}
use Rattle.stabby_host.specs.declared.plugin.Plugin.TheVariants.{Live}

module _ {U : Type 0} where
  -- the plugin that was read is the one that stands there
  pub found_there : (plugins : List (Plugin U)) (at : ℕ) (found p : Loaded U) (seen : Plugin U) → seen ≡ get_or plugins at seen → seen ≡ Live found
      → slice_get plugins at ≡ Some (Live p) → found ≡ p
  found_there plugins at found p seen read is here = same_live found p (sym is ∙ (read ∙ read_there plugins at (Live p) seen here))

  pub gives : (plugins : List (Plugin U)) (at : ℕ) (found : Loaded U) (seen : Plugin U) (handle : Arc U) (answer : Result (Weak U) GuestFault)
      → seen ≡ get_or plugins at seen → seen ≡ Live found → IsSameArc found.handle handle
      → MatchResult answer (IsGuest found.handle handle) (IsGuestFault (arc_record found.handle) (arc_record handle))
      → (IsSole found.handle → OnErr answer (IsSole handle))
      → (p : Loaded U) → slice_get plugins at ≡ Some (Live p)
      → GivesGuest at p plugins (set plugins at (Live (record found { handle = handle }))) answer
  gives plugins at found seen handle answer read is same said sole = λ p here.
      subst (λ (x : Loaded U). GivesGuest at x plugins (set plugins at (Live (record found { handle = handle }))) answer)
      (found_there plugins at found p seen read is here)
      (record { handle = handle; plugins = refl; same = same; answer_is = said; stays_sole = sole })
