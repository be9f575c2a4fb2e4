use Rattle.std.proofs.Common.{◌≤◌, ℕ, length, sym, subst, ap, ◌∙◌, slice_get}
use Rattle.stabby_host.proofs.Asking.{answered_live}
use Rattle.stabby_host.proofs.Places.{length_set}
use Rattle.stabby_host.proofs.PluginLemmas.{bound_changed, live_count_changed, numbered_changed}
use Rattle.stabby_host.specs.Facts.{AreBoundToLive, AreNumbered}
use Rattle.stabby_host.specs.Hosts.{plugins_of, tables_of}
use Rattle.stabby_host.specs.Plugins.{live_count}
use Rattle.stabby_host.specs.declared.plugin.Plugin.TheVariants.{Live}
use Rattle.stabby_host.proofs.host.Host.guest.Goals as goal

pub downgrade_at-requires : goal.downgrade_at-requires
downgrade_at-requires g c = answered_live (slice_get (plugins_of c.args.self.now) c.args.plugin) _ _ _ c.in_default.ensures

pub invariant_of-self : goal.invariant_of-self
invariant_of-self g c =
    let host = c.args.self.now in
    let before = plugins_of host in
    let at = c.args.plugin in
    let live = answered_live (slice_get before at) _ _ _ c.in_default.ensures in
    let gave = c.downgrade_at.ensures live.0 live.1 in
    let changed = Live (record live.0 { handle = gave.handle }) in
    let same = sym (ap length gave.plugins ∙ length_set before at changed) in
    record {
      counted = host.counted ∙ sym (ap live_count gave.plugins ∙ live_count_changed before at live.0 (record live.0 { handle = gave.handle }) live.1);
      within = host.within;
      small = host.small;
      few_tables = subst (λ (n : ℕ). length (tables_of host) ≤ n) same host.few_tables;
      few = subst (λ (n : ℕ). n ≤ 4294967295) same host.few;
      numbered = subst (AreNumbered (tables_of host)) (sym gave.plugins) (numbered_changed (tables_of host) before at live.0 gave.handle live.1 host.numbered);
      bound_to_live = subst AreBoundToLive (sym gave.plugins) (bound_changed before at live.0 gave.handle live.1 host.bound_to_live);
    }
