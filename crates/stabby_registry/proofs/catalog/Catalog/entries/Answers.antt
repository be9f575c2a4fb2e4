use Rattle.std.proofs.Common.{arith, ◌≡◌, subst}
use Rattle.std.proofs.lemmas.Grind.{common_steps}
use Rattle.stabby_tables.specs.Lists.{ordered, IsDistinct}
use Rattle.stabby_registry.proofs.Numbering.{can_rank_known}
use Rattle.stabby_registry.proofs.catalog.Catalog.entries.Goals as goal

pub returns-clause-can_rank : goal.returns-clause-can_rank
returns-clause-can_rank g c numbers known =
    let is : c.loop-entry.entries.items ≡ ordered c.args.self.now = grind (arith, common_steps) in
    can_rank_known c.args.self.now c.loop-entry.entries.items numbers (subst IsDistinct c.self.view_is c.self.invariant.distinct_tables) is known
