use Rattle.std.proofs.Common.{◌∙◌, ap, sym, subst, refl, length, Some}
use Rattle.std.specs.Ordering.{nat_cmp}
use Rattle.stabby_tree.specs.Maps.{entries_of, entry_of, with_entry}
use Rattle.stabby_index.specs.Slots.{AreKeyed, AreGrouped}
use Rattle.stabby_index.proofs.RowLemmas.{rows_with, keyed_with}
use Rattle.stabby_index.proofs.GroupLemmas.{grouped_with}
use Rattle.stabby_index.proofs.view.View.with.Goals as goal

pub invariant_of-result : goal.invariant_of-result
invariant_of-result c =
    let r = c.args.row.now in
    let is = c.in_ok-rows.ensures.entries ∙ ap (λ s. with_entry nat_cmp (entries_of c.self.inside.rows) (entry_of r.key s)) c.requires in
    let live_is = rows_with (entries_of c.self.inside.rows) (entries_of c.in_ok-rows.rows) c.args.self r c.self.invariant.rising c.self.invariant.keyed c.self.view_is is in
    let grouped = subst (λ rows. AreGrouped rows (entries_of c.self.inside.groups)) c.self.view_is c.self.invariant.grouped in
    record {
      rising = c.in_ok-rows.ensures.rising;
      keyed = subst AreKeyed (sym is) (keyed_with (entry_of r.key (Some r)) (entries_of c.self.inside.rows) refl c.self.invariant.keyed);
      count_is = c.in_ok-count.ensures.ok ∙ ap length (sym live_is);
      grouped = subst (λ rows. AreGrouped rows (entries_of c.in_ok-groups.groups)) (sym live_is) (grouped_with c.args.self r (entries_of c.self.inside.groups) (entries_of c.in_ok-groups.groups) grouped c.in_ok-groups.ensures.lookups);
    }

pub returns-clause-ok : goal.returns-clause-ok
returns-clause-ok c =
    let r = c.args.row.now in
    let is = c.in_ok-rows.ensures.entries ∙ ap (λ s. with_entry nat_cmp (entries_of c.self.inside.rows) (entry_of r.key s)) c.requires in
    rows_with (entries_of c.self.inside.rows) (entries_of c.in_ok-rows.rows) c.args.self r c.self.invariant.rising c.self.invariant.keyed c.self.view_is is
