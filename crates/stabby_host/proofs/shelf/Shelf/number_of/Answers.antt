use Rattle.stabby_registry.proofs.Inserting.{whole_insert}
use Rattle.stabby_host.proofs.shelf.Shelf.number_of.Goals as goal

pub returns-in-Ok-clause-ok : goal.returns-in-Ok-clause-ok
returns-in-Ok-clause-ok c =
    let shelf = c.args.self.now in
    let e = c.in-Ok.ensures in
    let grown = whole_insert shelf.registry shelf.pass c.try_insert.new.pass c.args.table.now c.in-Ok.number shelf.belongs e.pass shelf.whole e.inserts e.number e.distinct in
    record { number = e.number; tables = grown.front }
