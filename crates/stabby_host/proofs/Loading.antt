-- What is true once a plugin was added.
use Rattle.std.proofs.Common.{◌≡◌, ◌≢◌, ℕ, zero, suc, ◌<◌, true, List, [], ◌∷◌, length, Some, refl, ap, sym, subst, ◌∙◌, arith}
use Rattle.std.specs.Prelude.{slice_get, Contains}
use Rattle.stabby_layout.specs.Report.{Report}
use Rattle.stabby_dyn.specs.declared.member.Any as erasable
use Rattle.stabby_dyn.specs.declared.member.Universe as Universe
use Rattle.stabby_host.proofs.Places.{read_there}
use Rattle.stabby_host.specs.Facts.{is_live}
use Rattle.stabby_host.specs.Hosts.{HasRoom, IsLoadFault, plugins_of}
use Rattle.stabby_host.specs.Plugins.{BindsFirst, IsBindFault, IsLeastMeeting, Meets}
use Rattle.stabby_host.specs.declared.faults.LoadFault.{LoadFault}
use Rattle.stabby_host.specs.declared.faults.LoadFault.TheVariants.{Full, Exhausted, Unmet, Memory}
use Rattle.stabby_host.specs.declared.host.Host.{Host}
use Rattle.stabby_host.specs.declared.need.Need.{Need}
use Rattle.stabby_host.specs.declared.plugin.Plugin.{Plugin}
use Rattle.stabby_host.specs.declared.plugin.Plugin.TheVariants.{Live, Ended}

-- a list has an item at each place within it
item_at : {A : Type 0} (xs : List A) (i : ℕ) → i < length xs → (x : A) × (slice_get xs i ≡ Some x)
item_at [] i low = absurd (omega (arith, low))
item_at (x ∷ xs) zero low = (x, refl)
item_at (x ∷ xs) (suc i) low = item_at xs i (omega (arith, low))

module _ {U : Type 0} (id : U → ℕ) (report : U → Report) where
  meets_live : (need : Need) (plugin : Plugin U) → Meets id report need plugin → is_live (Some plugin) ≡ true
  meets_live need (Live p) meets = refl
  meets_live need (Ended left) meets = absurd meets

  least_is_live : (need : Need) (plugins : List (Plugin U)) (n : ℕ) → IsLeastMeeting id report need plugins n → is_live (slice_get plugins n) ≡ true
  least_is_live need plugins n least =
      let found = item_at plugins n least.in_range in
      ap is_live found.1 ∙ meets_live need found.0 (least.meets found.0 found.1)

  -- the plugins that needs are bound to are live
  pub binds_live : (needs : List Need) (plugins : List (Plugin U)) (bound : List ℕ) → BindsFirst id report needs plugins (length needs) bound
      → (m : ℕ) → Contains bound m → is_live (slice_get plugins m) ≡ true
  binds_live needs plugins bound held = λ m has.
      let low : has.0 < length needs = omega (arith, has.1, held.count_is) in
      let need = item_at needs has.0 low in
      let met = held.each has.0 need.0 low need.1 in
      let same : met.0 ≡ m = sym (read_there bound has.0 met.0 m met.1) ∙ has.2 in
      subst (λ (k : ℕ). is_live (slice_get plugins k) ≡ true) same (least_is_live need.0 plugins met.0 met.2)

module _ {U : Type 0} {u : Universe.Ghosts U} {a : erasable.Ghosts U} (id : U → ℕ) (report : U → Report) where
  -- where there is room, needs that can't be bound are why a plugin is not loaded
  pub bind_fault : (host : Host U u a) (needs : List Need) (fault : LoadFault) → HasRoom host
      → IsBindFault id report needs (plugins_of host) fault → IsLoadFault id report host needs fault
  bind_fault host needs (Full live) room why = absurd why
  bind_fault host needs (Exhausted loaded) room why = absurd why
  bind_fault host needs (Unmet place) room why = (room, why)
  bind_fault host needs Memory room why = (room, why)

  pub room_for_one : (host : Host U u a) → host.live ≢ host.limit → length (plugins_of host) ≢ 4294967295 → HasRoom host
  room_for_one host other fewer = record {
    below_limit = let e = host.counted in let w = host.within in omega (arith, other, e, w);
    countable = let f = host.few in omega (arith, fewer, f);
  }
