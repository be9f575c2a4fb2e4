use Rattle.std.proofs.Common.{rules}
use Rattle.stabby_cell_uses.proofs.FillLemmas.{edit_adds}
use Rattle.stabby_cell_uses.proofs.shared_set.add_number.Goals as goal

pub returns-clause-ok : goal.returns-clause-ok
returns-clause-ok g c = edit_adds c.args.set.now c.args.number _ _ c.args.pass.now c.edit.new.pass c.args.tries c.edit.result c.edit.ensures.ok (λ t x a called. (search rules, search rules))
