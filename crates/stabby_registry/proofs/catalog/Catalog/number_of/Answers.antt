use Rattle.std.proofs.Common.{◌∙◌, refl, ap, sym, subst, ◌≡◌, Some, None, if◌then◌else◌}
use Rattle.stabby_tables.specs.Lists.{has, place, IsDistinct}
use Rattle.stabby_registry.proofs.Listing.{catalog_found, number_from_found, none_from_found}
use Rattle.stabby_registry.proofs.catalog.Catalog.number_of.Goals as goal

pub returns-in-Some-clause-number : goal.returns-in-Some-clause-number
returns-in-Some-clause-number g c =
    let at = catalog_found c.self.inside.entries.items c.self.invariant c.args.table.now in
    subst (λ f. Some c.number.result ≡ (if has f c.args.table.now then Some (place f c.args.table.now) else None)) c.self.view_is
    (ap Some c.number.ensures ∙ number_from_found _ c.in-Some.entry.now c.args.table.now _ (c.in-Some.ensures.found ∙ at))

pub returns-in-None-clause-number : goal.returns-in-None-clause-number
returns-in-None-clause-number g c =
    let at = catalog_found c.self.inside.entries.items c.self.invariant c.args.table.now in
    subst (λ f. None ≡ (if has f c.args.table.now then Some (place f c.args.table.now) else None)) c.self.view_is
    (sym (none_from_found _ c.args.table.now _ None refl (c.in-None.ensures.found ∙ at)))

pub returns-in-Some-clause-distinct : goal.returns-in-Some-clause-distinct
returns-in-Some-clause-distinct g c = subst IsDistinct c.self.view_is c.self.invariant.distinct_tables

pub returns-in-None-clause-distinct : goal.returns-in-None-clause-distinct
returns-in-None-clause-distinct g c = subst IsDistinct c.self.view_is c.self.invariant.distinct_tables
