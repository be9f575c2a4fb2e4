use Rattle.std.proofs.Common.{◌≡◌, ◌+◌, List, [], ◌∷◌, ◌++◌, length, refl, sym, ap, subst, ◌∙◌, arith}
use mathlib.Core.List.{IsPrefix}
use Rattle.stabby_tables.specs.Lists.{with_table}
use Rattle.stabby_host.proofs.Loading.{binds_live}
use Rattle.stabby_host.proofs.Places.{length_grown}
use Rattle.stabby_host.proofs.PluginLemmas.{bound_grown, live_count_grown, numbered_grown}
use Rattle.stabby_host.proofs.ShelfLemmas.{few_more, front_of_more}
use Rattle.stabby_host.specs.Facts.{AreBoundToLive, AreNumbered}
use Rattle.stabby_host.specs.Hosts.{plugins_of, tables_of}
use Rattle.stabby_host.specs.Plugins.{BindsFirst, live_count}
use Rattle.stabby_host.specs.Shelves.{shelf_tables}
use Rattle.stabby_host.specs.declared.plugin.Loaded.{Loaded}
use Rattle.stabby_host.specs.declared.plugin.Plugin.{Plugin}
use Rattle.stabby_host.specs.declared.plugin.Plugin.TheVariants.{Live}
use Rattle.stabby_host.proofs.host.Host.load.Goals as goal

pub returns-in-Err-clause-fault : goal.returns-in-Err-clause-fault
returns-in-Err-clause-fault g c = rw c.deref.ensures.value at c.in-Err.ensures.fault

pub invariant_of-self-2 : goal.invariant_of-self-2
invariant_of-self-2 g c =
    let host = c.prepare.new.self in
    let before = plugins_of host in
    let same = c.in-Ok.ensures.unchanged in
    let room = c.in-Ok.ensures.room in
    let plugin : Loaded g.row.U.Denot = record { handle = c.in-Ok-try_new_in.handle; table = c.in-Ok.prepared.table; number = c.in-Ok-number_of.number; bound = c.in-Ok.prepared.bound } in
    let after = c.push_reserved.new.self.items in
    let grown : after ≡ before ++ Live plugin ∷ [] = c.push_reserved.ensures.items in
    let longer : length after ≡ length before + 1 = ap length grown ∙ length_grown before (Live plugin) in
    let has = c.in-Ok-number_of.ensures.ok in
    let table = c.in-Ok.prepared.table in
    let tables = tables_of host in
    let at_needs = rw c.deref.ensures.value at c.in-Ok.ensures.bound in
    let bound = subst (λ (l : List (Plugin g.row.U.Denot)). BindsFirst g.U.Any.type_id g.U.Any.type_report c.args.needs.items l (length c.args.needs.items) c.in-Ok.prepared.bound.items) (sym same.plugins) at_needs in
    let counts = ap live_count same.plugins in
    let lengths = ap length same.plugins in
    record {
      counted = ap (λ n. n + 1) host.counted ∙ sym (ap live_count grown ∙ live_count_grown before plugin);
      within = omega (arith, room.below_limit, counts, host.counted, same.limit);
      small = host.small;
      few_tables = omega (arith, few_more tables table, ap length has.tables, longer, host.few_tables);
      few = omega (arith, room.countable, lengths, longer);
      numbered = subst (AreNumbered (shelf_tables c.number_of.new.self)) (sym grown)
          (numbered_grown tables (shelf_tables c.number_of.new.self) before plugin host.numbered (subst (IsPrefix tables) (sym has.tables) (front_of_more tables table)) has.number);
      bound_to_live = subst AreBoundToLive (sym grown) (bound_grown before plugin host.bound_to_live (binds_live g.U.Any.type_id g.U.Any.type_report c.args.needs.items before c.in-Ok.prepared.bound.items bound));
    }

pub returns-clause-ok : goal.returns-clause-ok
returns-clause-ok g c =
    let host = c.prepare.new.self in
    let before = plugins_of host in
    let same = c.in-Ok.ensures.unchanged in
    let plugin : Loaded g.row.U.Denot = record { handle = c.in-Ok-try_new_in.handle; table = c.in-Ok.prepared.table; number = c.in-Ok-number_of.number; bound = c.in-Ok.prepared.bound } in
    let grown : c.push_reserved.new.self.items ≡ before ++ Live plugin ∷ [] = c.push_reserved.ensures.items in
    let has = c.in-Ok-number_of.ensures.ok in
    record {
      plugin = plugin;
      room = c.in-Ok.ensures.room;
      number = c.len-loaded.ensures ∙ (host.plugins.ok.0 ∙ ap length same.plugins);
      plugins = grown ∙ ap (λ l. l ++ Live plugin ∷ []) same.plugins;
      value_is = c.in-Ok-try_new_in.ensures.value;
      sole = c.in-Ok-try_new_in.ensures.sole;
      new_record = c.in-Ok-try_new_in.ensures.new_record;
      table_is = c.in-Ok.ensures.table;
      table_number = (refl, has.number);
      bound = rw c.deref.ensures.value at c.in-Ok.ensures.bound;
      tables = has.tables ∙ (ap (λ l. with_table l c.in-Ok.prepared.table) same.tables ∙ ap (with_table (tables_of c.args.self.now)) c.in-Ok.ensures.table);
      limit = same.limit;
    }
