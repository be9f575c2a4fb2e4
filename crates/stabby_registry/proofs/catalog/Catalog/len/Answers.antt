use Rattle.std.proofs.Common.{arith}
use Rattle.stabby_registry.proofs.Listing.{length-listed}
use Rattle.stabby_registry.proofs.catalog.Catalog.len.Goals as goal

pub returns-clause-count : goal.returns-clause-count
returns-clause-count g c =
    let es = c.self.inside.entries.items in
    rw (← c.self.view_is) (omega (arith, c.len.ensures, c.self.invariant.countable, length-listed es))

pub returns-clause-limit : goal.returns-clause-limit
returns-clause-limit g c = omega (arith, c.len.ensures, c.self.invariant.countable)
