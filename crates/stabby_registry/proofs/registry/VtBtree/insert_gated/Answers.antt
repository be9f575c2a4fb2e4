use Rattle.std.proofs.Common.{◌≡◌, ◌∙◌, false, sym, subst}
use Rattle.stabby_tables.specs.Lists.{has}
use Rattle.stabby_cell.specs.Passes.{front_of}
use Rattle.stabby_registry.specs.Inserts.{IsNumber}
use Rattle.stabby_registry.proofs.Versions.{number_found, none_found}
use Rattle.stabby_registry.proofs.Inserting.{ok_after, err_after, not_known}
use Rattle.stabby_registry.proofs.registry.VtBtree.insert_gated.Goals as goal

pub returns-in-Some-clause-number : goal.returns-in-Some-clause-number
returns-in-Some-clause-number g c =
    subst (λ f. IsNumber f c.args.table.now c.in-Some.number) c.in_ok-known.ensures.list (number_found c.in_ok-known.known c.args.table.now c.in-Some.number (sym c.in-Some.is ∙ c.number_of.ensures.number))

pub returns-clause-inserts : goal.returns-clause-inserts
returns-clause-inserts g c = ok_after c.args.pass.now c.snapshot.new.pass c.insert_absent.new.pass c.args.table.now c.insert_absent.result c.snapshot.ensures.looked c.insert_absent.ensures.inserts

pub returns-clause-known : goal.returns-clause-known
returns-clause-known g c known =
    let absent : has (front_of c.snapshot.new.pass) c.args.table.now ≡ false = subst (λ f. has f c.args.table.now ≡ false) c.in_ok-known.ensures.list (none_found c.in_ok-known.known c.args.table.now (sym c.in_default.is ∙ c.number_of.ensures.number)) in
    absurd (not_known c.args.pass.now c.snapshot.new.pass c.args.table.now c.snapshot.ensures.looked absent known)

pub returns-clause-refused : goal.returns-clause-refused
returns-clause-refused g c = err_after c.args.pass.now c.snapshot.new.pass c.insert_absent.new.pass c.args.table.now c.insert_absent.result c.snapshot.ensures.looked c.insert_absent.ensures.refused
