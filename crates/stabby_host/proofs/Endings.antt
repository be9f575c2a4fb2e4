-- The end of a host's handle, where others have one.
use Rattle.std.proofs.Common.{◌≡◌, ℕ, List, set, Some, None, refl, sym, ap, subst, ◌∙◌}
use Rattle.std.specs.Prelude.{slice_get, Err, IsSome}
use Rattle.std.proofs.lemmas.List.{set-set}
use Rattle.stabby_count.specs.Shared.{EndsAt, IsSole, LeavesOthers, record_after_end, spent_record, spent_word}
use Rattle.stabby_count.specs.declared.spent.Spent.{Spent}
use Rattle.stabby_host.proofs.Places.{same_some}
use Rattle.stabby_host.proofs.PluginLemmas.{same_live}
use Rattle.stabby_host.specs.Answers.{EndsPlugin}
use Rattle.stabby_host.specs.declared.plugin.Loaded.{Loaded}
use Rattle.stabby_host.specs.declared.plugin.Plugin.{Plugin}
use Rattle.stabby_host.specs.declared.plugin.Plugin.TheVariants.{Live, Ended}

module _ {U : Type 0} where
  pub leaves_spent : (before taken after : List (Plugin U)) (at : ℕ) (found : Loaded U) (spent : Spent) (word : ℕ)
      → slice_get before at ≡ Some (Live found) → taken ≡ set before at (Ended None) → after ≡ set taken at (Ended (Some spent))
      → EndsAt {X = U} (Err spent) word → LeavesOthers found.handle spent → spent_record spent ≡ record_after_end found.handle (spent_word spent)
      → (IsSole found.handle → IsSome {T = U} None)
      → (p : Loaded U) → slice_get before at ≡ Some (Live p) → EndsPlugin at p before after None
  leaves_spent before taken after at found spent word is left kept (had, exact, told) others added sole = λ p here.
      subst (λ (x : Loaded U). EndsPlugin at x before after None) (same_live found p (same_some (Live found) (Live p) (sym is ∙ here))) (record {
        word = word;
        had_strong = had;
        exactly = exact;
        sole = sole;
        value = tt;
        left = Some spent;
        plugins = kept ∙ (ap (λ l. set l at (Ended (Some spent))) left ∙ set-set before at (Ended None) (Ended (Some spent)));
        stays = (refl, told, others, added ∙ ap (record_after_end found.handle) told);
      })
