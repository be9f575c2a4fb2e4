use Rattle.std.proofs.Common.{rules}
use denote.Param.Always.{mut_by}
use Rattle.stabby_cell.specs.Replaced.{IsPassOf}
use Rattle.stabby_cell_uses.proofs.set_calls_tests.edit_outrun.Goals as goal

-- the closure keeps the second pass one of the set
pub edit-edited-requires-clause-callable : goal.edit-edited-requires-clause-callable
edit-edited-requires-clause-callable g c = mut_by _ (λ s. IsPassOf s.1.now s.4.now) (λ s a i. i) (λ s a r t i e. search rules) _ (search rules)
