use Rattle.stabby_intern.proofs.Telling.{told, part_of}
use Rattle.stabby_lines.proofs.telling.tell_line.Goals as goal

pub returns : goal.returns
returns g c = told c.write_all.result _ _ _ _ _ c.write_all.ensures.ok (part_of c.write_all.result _ _ _ c.write_all.ensures.part) c.write_all.ensures.failed
