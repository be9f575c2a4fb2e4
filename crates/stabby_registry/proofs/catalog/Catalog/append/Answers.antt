use Rattle.std.proofs.Common.{sym, subst, length, ◌≡◌, ◌∷◌, [], ◌++◌, ◌<◌, ◌^◌, ◌-◌, false}
use Rattle.stabby_tables.specs.Lists.{has}
use Rattle.stabby_registry.specs.Catalog.{listed}
use Rattle.stabby_registry.proofs.Listing.{catalog_after}
use Rattle.stabby_registry.proofs.catalog.Catalog.append.Goals as goal

pub invariant_of-self : goal.invariant_of-self
invariant_of-self g c =
    let es = c.self.inside.entries.items in
    (catalog_after es c.insert.new.self.items c.args.table.value c.len-number.result c.new.result c.self.invariant c.new.ensures c.len-number.ensures
    (subst (λ f. length f < 2 ^ 63 - 1) (sym c.self.view_is) c.requires.room)
    (subst (λ f. has f c.args.table.value ≡ false) (sym c.self.view_is) c.requires.absent) c.in-Ok-None.ensures.set).catalog

pub returns-in-Ok-None-clause-ok : goal.returns-in-Ok-None-clause-ok
returns-in-Ok-None-clause-ok g c =
    let es = c.self.inside.entries.items in
    subst (λ f. listed c.insert.new.self.items ≡ f ++ c.args.table.value ∷ []) c.self.view_is (catalog_after es c.insert.new.self.items c.args.table.value c.len-number.result c.new.result c.self.invariant c.new.ensures c.len-number.ensures
    (subst (λ f. length f < 2 ^ 63 - 1) (sym c.self.view_is) c.requires.room)
    (subst (λ f. has f c.args.table.value ≡ false) (sym c.self.view_is) c.requires.absent) c.in-Ok-None.ensures.set).list

pub invariant_of-self-in-Ok-Some : goal.invariant_of-self-in-Ok-Some
invariant_of-self-in-Ok-Some g c =
    let es = c.self.inside.entries.items in
    (catalog_after es c.insert.new.self.items c.args.table.value c.len-number.result c.new.result c.self.invariant c.new.ensures c.len-number.ensures
    (subst (λ f. length f < 2 ^ 63 - 1) (sym c.self.view_is) c.requires.room)
    (subst (λ f. has f c.args.table.value ≡ false) (sym c.self.view_is) c.requires.absent) c.in-Ok-Some.ensures.set).catalog

pub returns-in-Ok-Some-clause-ok : goal.returns-in-Ok-Some-clause-ok
returns-in-Ok-Some-clause-ok g c =
    let es = c.self.inside.entries.items in
    subst (λ f. listed c.insert.new.self.items ≡ f ++ c.args.table.value ∷ []) c.self.view_is (catalog_after es c.insert.new.self.items c.args.table.value c.len-number.result c.new.result c.self.invariant c.new.ensures c.len-number.ensures
    (subst (λ f. length f < 2 ^ 63 - 1) (sym c.self.view_is) c.requires.room)
    (subst (λ f. has f c.args.table.value ≡ false) (sym c.self.view_is) c.requires.absent) c.in-Ok-Some.ensures.set).list
