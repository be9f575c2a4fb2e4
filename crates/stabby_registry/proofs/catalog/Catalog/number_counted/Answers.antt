use Rattle.std.proofs.Common.{◌≡◌, ◌≤◌, ◌-◌, ◌*◌, length, Some, None, refl, sym, ap, ◌∙◌, subst, arith}
use Rattle.stabby_tree.specs.Sets.{IsHeightOf}
use Rattle.stabby_registry.specs.Counted.{number_in}
use Rattle.stabby_registry.proofs.Listing.{catalog_found, number_from_found, none_from_found}
use Rattle.stabby_registry.proofs.Paths.{path_bound, counts_one_path}
use Rattle.stabby_registry.proofs.catalog.Catalog.number_counted.Goals as goal

pub get_counted-requires : goal.get_counted-requires
get_counted-requires g c =
    let es = c.self.inside.entries.items in
    let high : IsHeightOf g.row.SIZE c.self.inside.entries.height (length es) = subst (λ h. IsHeightOf g.row.SIZE h (length es)) c.height.ensures.height c.height.ensures.bound in
    let path : (g.row.SIZE - 1) * c.self.inside.entries.height ≤ 64 * (g.row.SIZE - 1) = path_bound g.row.SIZE c.self.inside.entries.height (length es) high c.self.invariant.countable in
    (omega arith, omega (arith, path, c.requires.room))

pub returns-in-Some-clause-number : goal.returns-in-Some-clause-number
returns-in-Some-clause-number g c =
    let t = g.P.Probe.sought c.args.probe.now in
    let at = catalog_found c.self.inside.entries.items c.self.invariant t in
    subst (λ f. Some c.number.result ≡ number_in f t) c.self.view_is
    (ap Some c.number.ensures ∙ number_from_found _ c.in-Some.entry.now t _ (c.in-Some.ensures.found ∙ at))

pub returns-in-Some-clause-count : goal.returns-in-Some-clause-count
returns-in-Some-clause-count g c =
    let es = c.self.inside.entries.items in
    counts_one_path g.row.SIZE c.self.inside.entries.height _ es c.args.self.now _ _ c.height.ensures.height c.height.ensures.bound c.self.view_is c.get_counted.ensures.count

pub returns-in-None-clause-number : goal.returns-in-None-clause-number
returns-in-None-clause-number g c =
    let t = g.P.Probe.sought c.args.probe.now in
    let at = catalog_found c.self.inside.entries.items c.self.invariant t in
    subst (λ f. None ≡ number_in f t) c.self.view_is
    (sym (none_from_found _ t _ None refl (c.in-None.ensures.found ∙ at)))

pub returns-in-None-clause-count : goal.returns-in-None-clause-count
returns-in-None-clause-count g c =
    let es = c.self.inside.entries.items in
    counts_one_path g.row.SIZE c.self.inside.entries.height _ es c.args.self.now _ _ c.height.ensures.height c.height.ensures.bound c.self.view_is c.get_counted.ensures.count
