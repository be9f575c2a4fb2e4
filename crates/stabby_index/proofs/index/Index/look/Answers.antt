use Rattle.stabby_cell.specs.Passes.{IsPassOf}
use Rattle.stabby_index.proofs.VersionLemmas.{counts}
use Rattle.stabby_index.proofs.index.Index.look.Goals as goal

pub returns-clause-count : goal.returns-clause-count
returns-clause-count c = counts c.args.self.now c.look.new.pass _ (IsPassOf.first_is c.look.ensures.pass) c.look.ensures.stamp
