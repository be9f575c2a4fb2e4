use Rattle.std.proofs.Common.{◌≡◌, ◌≤◌, ℕ, length, set, Option, Ok, sym, ap, subst, ◌∙◌, arith, slice_get}
use Rattle.stabby_host.proofs.Asking.{answered_live}
use Rattle.stabby_host.proofs.Places.{length_set}
use Rattle.stabby_host.proofs.PluginLemmas.{bound_ended, live_count_ended, numbered_ended}
use Rattle.stabby_host.specs.Answers.{Unloads}
use Rattle.stabby_host.specs.Facts.{AreBoundToLive, AreNumbered}
use Rattle.stabby_host.specs.Hosts.{plugins_of, tables_of}
use Rattle.stabby_host.specs.Plugins.{live_count}
use Rattle.stabby_host.specs.declared.plugin.Plugin.{Plugin}
use Rattle.stabby_host.specs.declared.plugin.Plugin.TheVariants.{Ended}
use Rattle.stabby_host.proofs.host.Host.unload.Goals as goal

pub end_at-given-requires : goal.end_at-given-requires
end_at-given-requires g c = answered_live (slice_get (plugins_of c.args.self.now) c.args.plugin) _ _ _ c.in-Ok.ensures

pub overflow_sub-self : goal.overflow_sub-self
overflow_sub-self g c =
    let host = c.args.self.now in
    let before = plugins_of host in
    let at = c.args.plugin in
    let live = answered_live (slice_get before at) _ _ _ c.in-Ok.ensures in
    let ends = c.end_at-given.ensures live.0 live.1 in
    let one_less = live_count_ended before at live.0 ends.left live.1 in
    omega (arith, one_less, host.counted)

pub invariant_of-self : goal.invariant_of-self
invariant_of-self g c =
    let host = c.args.self.now in
    let before = plugins_of host in
    let at = c.args.plugin in
    let live = answered_live (slice_get before at) _ _ _ c.in-Ok.ensures in
    let ends = c.end_at-given.ensures live.0 live.1 in
    let after = c.end_at-given.new.plugins.items in
    let one_less = live_count_ended before at live.0 ends.left live.1 in
    let counts : live_count after ≡ live_count (set before at (Ended ends.left)) = ap live_count ends.plugins in
    let same = sym (ap length ends.plugins ∙ length_set before at (Ended ends.left)) in
    let free = rw c.deref.ensures.value at c.in_default.ensures.none in
    record {
      counted = omega (arith, one_less, counts, host.counted);
      within = omega (arith, host.within);
      small = host.small;
      few_tables = subst (λ (n : ℕ). length (tables_of host) ≤ n) same host.few_tables;
      few = subst (λ (n : ℕ). n ≤ 4294967295) same host.few;
      numbered = subst (AreNumbered (tables_of host)) (sym ends.plugins) (numbered_ended (tables_of host) before at ends.left host.numbered);
      bound_to_live = subst AreBoundToLive (sym ends.plugins) (bound_ended before at ends.left host.bound_to_live free);
    }

pub returns-clause-unload : goal.returns-clause-unload
returns-clause-unload g c =
    let before = plugins_of c.args.self.now in
    let at = c.args.plugin in
    let live = answered_live (slice_get before at) _ _ _ c.in-Ok.ensures in
    let free = rw c.deref.ensures.value at c.in_default.ensures.none in
    subst (λ (o : Option (Plugin g.row.U.Denot)). Unloads at before c.end_at-given.new.plugins.items o (Ok c.end_at-given.result)) (sym live.1)
    (free, c.end_at-given.ensures live.0 live.1)
