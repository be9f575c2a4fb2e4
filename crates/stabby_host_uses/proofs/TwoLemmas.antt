-- Two plugins are loaded, and unloaded in order.
use Rattle.std.proofs.Common.{◌≡◌, ◌≢◌, ℕ, zero, suc, ◌+◌, ◌<◌, List, [], ◌∷◌, ◌++◌, length, Option, Some, None, Result, Ok, Err, refl, ap, sym, subst, ◌∙◌, arith}
use Rattle.std.specs.Prelude.{slice_get, set, Contains, IsSome, IfSome}
use Rattle.std.proofs.lemmas.List.{nil_from_length}
use Rattle.stabby_layout.specs.Report.{Report}
use Rattle.stabby_count.specs.Shared.{IsSole}
use Rattle.stabby_count.specs.declared.spent.Spent.{Spent}
use Rattle.stabby_dyn.specs.declared.member.Any as erasable
use Rattle.stabby_dyn.specs.declared.member.Universe as Universe
use Rattle.stabby_host.specs.Answers.{EndsPlugin, Unloads, UnloadsLive}
use Rattle.stabby_host.specs.Hosts.{HasLoaded, plugins_of}
use Rattle.stabby_host.specs.Plugins.{BindsFirst, IsBoundTo, NeedsPlugin, bound_of, value_of}
use Rattle.stabby_host.specs.declared.faults.UnloadFault.{UnloadFault}
use Rattle.stabby_host.specs.declared.faults.UnloadFault.TheVariants.{Needed}
use Rattle.stabby_host.specs.declared.host.Host.{Host}
use Rattle.stabby_host.specs.declared.need.Need.{Need}
use Rattle.stabby_host.specs.declared.plugin.Loaded.{Loaded}
use Rattle.stabby_host.specs.declared.plugin.Plugin.{Plugin}
use Rattle.stabby_host.specs.declared.plugin.Plugin.TheVariants.{Live, Ended}
use Rattle.stabby_host_uses.specs.Two.{IsTwo}

module _ {U : Type 0} (id : U → ℕ) (report : U → Report) where
  -- one need, where one plugin is loaded, is bound to it
  bound_to_first : (needs : List Need) (p : Loaded U) (bound : List ℕ) → BindsFirst id report needs (Live p ∷ []) (length needs) bound
      → length needs ≡ 1 → bound ≡ 0 ∷ []
  bound_to_first [] p bound binds one = absurd (omega (arith, one))
  bound_to_first (need ∷ needs) p [] binds one = absurd (let e = binds.count_is in omega (arith, e))
  bound_to_first (need ∷ needs) p (b ∷ c ∷ bound) binds one = absurd (let e = binds.count_is in omega (arith, e, one))
  bound_to_first (need ∷ needs) p (b ∷ []) binds one =
      let met = binds.each 0 need (omega arith) refl in
      let low = met.2.in_range in
      let none : met.0 ≡ 0 = omega (arith, low) in
      let same : b ≡ met.0 = let e = met.1 in cc in
      ap (λ (n : ℕ). n ∷ []) (same ∙ none)

module _ {U : Type 0} {u : Universe.Ghosts U} {a : erasable.Ghosts U} (id : U → ℕ) (report : U → Report) where
  pub two_loaded : (empty one two : Host U u a) (number other : U) (words more : List ℕ) (nothing needs : List Need) (n m : ℕ) → plugins_of empty ≡ [] → nothing ≡ []
      → HasLoaded id report empty one number words nothing n → HasLoaded id report one two other more needs m → length needs ≡ 1
      → IsTwo (plugins_of two) number other
  two_loaded empty one two number other words more nothing needs n m none no_needs first second single =
      let alone : plugins_of one ≡ Live first.plugin ∷ [] = first.plugins ∙ ap (λ l. l ++ Live first.plugin ∷ []) none in
      let binds = subst (λ (l : List (Plugin U)). BindsFirst id report needs l (length needs) (bound_of second.plugin)) alone second.bound in
      record {
        first = first.plugin;
        second = second.plugin;
        are = second.plugins ∙ ap (λ l. l ++ Live second.plugin ∷ []) alone;
        first_value = first.value_is;
        second_value = second.value_is;
        first_sole = first.sole;
        second_sole = second.sole;
        needs_none = nil_from_length (bound_of first.plugin) (first.bound.count_is ∙ ap length no_needs);
        needs_first = bound_to_first id report needs first.plugin (bound_of second.plugin) binds single;
      }

module _ {U : Type 0} where
  -- a value that is sure to come
  sure : (given : Option U) (x : U) → IsSome given → IfSome given (λ value. value ≡ x) → given ≡ Some x
  sure None x some value = cc
  sure (Some y) x some value = ap Some value

  only_second : (p q : Loaded U) (by : ℕ) → NeedsPlugin (Live p ∷ Live q ∷ []) 0 by → by ≡ 1
  only_second p q zero needs = absurd (needs.3 refl)
  only_second p q (suc zero) needs = refl
  only_second p q (suc (suc by)) needs = let e = needs.1 in cc

  -- the first is refused, since the second is bound to it
  pub first_refused : (p q : Loaded U) (after : List (Plugin U)) (answer : Result (Option U) UnloadFault) → bound_of q ≡ 0 ∷ []
      → UnloadsLive 0 p (Live p ∷ Live q ∷ []) after answer → (answer ≡ Err (Needed 1)) × (after ≡ Live p ∷ Live q ∷ [])
  first_refused p q after (Ok given) bound says =
      absurd (says.0 1 (Live q, refl, subst (λ (l : List ℕ). Contains l 0) (sym bound) (0, omega arith, refl), λ e. omega (arith, e)))
  first_refused p q after (Err fault) bound says =
      let by = says.0 in
      (ap Err (by.1 ∙ ap Needed (only_second p q by.0 by.2.needs)), says.1)

  none_need_second : (p q : Loaded U) (by : ℕ) → bound_of p ≡ [] → NeedsPlugin (Live p ∷ Live q ∷ []) 1 by → ⊥
  none_need_second p q zero none needs =
      let at = needs.1 in
      let is : Live p ≡ needs.0 = cc in
      let has : Contains (bound_of p) 1 = subst (IsBoundTo 1) (sym is) needs.2 in
      absurd (omega (arith, has.1, ap length none))
  none_need_second p q (suc zero) none needs = absurd (needs.3 refl)
  none_need_second p q (suc (suc by)) none needs = let e = needs.1 in cc

  -- the second comes back
  pub second_given : (p q : Loaded U) (after : List (Plugin U)) (answer : Result (Option U) UnloadFault) → bound_of p ≡ [] → IsSole q.handle
      → UnloadsLive 1 q (Live p ∷ Live q ∷ []) after answer
      → (left : Option Spent) × (answer ≡ Ok (Some (value_of q))) × (after ≡ Live p ∷ Ended left ∷ [])
  second_given p q after (Err fault) none sole says = absurd (none_need_second p q says.0.0 none says.0.2.needs)
  second_given p q after (Ok given) none sole says =
      let ends = says.1 in
      (ends.left, ap Ok (sure given (value_of q) (ends.sole sole) ends.value), ends.plugins)

  none_need_first : (p : Loaded U) (left : Option Spent) (by : ℕ) → NeedsPlugin (Live p ∷ Ended left ∷ []) 0 by → ⊥
  none_need_first p left zero needs = absurd (needs.3 refl)
  none_need_first p left (suc zero) needs =
      let at = needs.1 in
      let is : Ended left ≡ needs.0 = cc in
      absurd (subst (IsBoundTo 0) (sym is) needs.2)
  none_need_first p left (suc (suc by)) needs = let e = needs.1 in cc

  -- and then the first
  pub first_given : (p : Loaded U) (left : Option Spent) (after : List (Plugin U)) (answer : Result (Option U) UnloadFault) → IsSole p.handle
      → UnloadsLive 0 p (Live p ∷ Ended left ∷ []) after answer → answer ≡ Ok (Some (value_of p))
  first_given p left after (Err fault) sole says = absurd (none_need_first p left says.0.0 says.0.2.needs)
  first_given p left after (Ok given) sole says = let ends = says.1 in ap Ok (sure given (value_of p) (ends.sole sole) ends.value)

  pub record InOrder (number other : U) (refused last first : Result (Option U) UnloadFault) : Type 0 where
    pub refused_is : refused ≡ Err (Needed 1)
    pub last_is : last ≡ Ok (Some other)
    pub first_is : first ≡ Ok (Some number)

  pub in_order : (l0 l1 l2 l3 : List (Plugin U)) (number other : U) (refused last first : Result (Option U) UnloadFault) → IsTwo l0 number other
      → Unloads 0 l0 l1 (slice_get l0 0) refused → Unloads 1 l1 l2 (slice_get l1 1) last → Unloads 0 l2 l3 (slice_get l2 0) first
      → InOrder number other refused last first
  in_order l0 l1 l2 l3 number other refused last first two says then_says at_last =
      let p = two.first in
      let q = two.second in
      let one = first_refused p q l1 refused two.needs_first (subst (λ (l : List (Plugin U)). Unloads 0 l l1 (slice_get l 0) refused) two.are says) in
      let next = second_given p q l2 last two.needs_none two.second_sole (subst (λ (l : List (Plugin U)). Unloads 1 l l2 (slice_get l 1) last) one.1 then_says) in
      let end = first_given p next.0 l3 first two.first_sole (subst (λ (l : List (Plugin U)). Unloads 0 l l3 (slice_get l 0) first) next.2 at_last) in
      record {
        refused_is = one.0;
        last_is = next.1 ∙ ap (λ (x : U). Ok (Some x)) two.second_value;
        first_is = end ∙ ap (λ (x : U). Ok (Some x)) two.first_value;
      }
