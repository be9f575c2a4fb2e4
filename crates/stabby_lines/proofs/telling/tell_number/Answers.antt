use Rattle.stabby_intern.proofs.Telling.{told}
use Rattle.stabby_lines.specs.Pieces.{numbered}
use Rattle.stabby_lines.proofs.telling.tell_number.Goals as goal

pub returns : goal.returns
returns g c = told c.write_number.result _ _ _ _ (numbered c.args.words.now c.args.number c.args.rest.now) c.write_number.ensures.ok c.write_number.ensures.part c.write_number.ensures.failed
