use Rattle.std.proofs.Common.{rules}
use Rattle.stabby_cell_uses.proofs.FillLemmas.{adds_one, known_number}
use Rattle.stabby_cell_uses.proofs.shared_set.with_number.Goals as goal

pub returns-in-Ok-None-clause-ok : goal.returns-in-Ok-None-clause-ok
returns-in-Ok-None-clause-ok c = adds_one _ _ _ (search rules) (search rules)

pub returns-in-Ok-Some-clause-ok : goal.returns-in-Ok-Some-clause-ok
returns-in-Ok-Some-clause-ok c = known_number c.args.number c.in-Ok-Some._known c.args.contents.now (search rules)
