use Rattle.stabby_cell.specs.Recording.{ViewAdvances}
use Rattle.stabby_cell.specs.Passes.{Looked}
use Rattle.stabby_cell.proofs.RecordLemmas.{prefix_trans}
use Rattle.stabby_cell_uses.proofs.StoreLemmas.{stored_looked, stored_by, front_by, weight_by}
use Rattle.std.proofs.Common.{◌∙◌}
use Rattle.stabby_cell_uses.proofs.shared_value.store_one.Goals as goal

pub returns-clause-stored : goal.returns-clause-stored
returns-clause-stored g c = stored_looked c.args.number _ _ (stored_by c.args.number _ _ _ c.store_number.ensures.stored c.requires.stored) c.load_at.ensures.looked

pub returns-clause-front : goal.returns-clause-front
returns-clause-front g c = prefix_trans _ _ _ (front_by c.args.number _ _ _ c.store_number.ensures.stored) (ViewAdvances.front (Looked.advances c.load_at.ensures.looked))

pub returns-clause-weight : goal.returns-clause-weight
returns-clause-weight g c = ViewAdvances.weight (Looked.advances c.load_at.ensures.looked) ∙ weight_by c.args.number _ _ _ c.store_number.ensures.stored
