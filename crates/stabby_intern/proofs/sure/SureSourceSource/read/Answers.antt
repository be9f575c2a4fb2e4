use Rattle.std.proofs.Common.{arith}
use Rattle.std.proofs.lemmas.Grind.{common_steps}
use Rattle.stabby_intern.proofs.Moved.{read_bytes}
use Rattle.stabby_intern.proofs.sure.SureSourceSource.read.Goals as goal

pub returns-clause-bytes : goal.returns-clause-bytes
returns-clause-bytes c = read_bytes c.args.self.now.bytes.items c.args.buf.now c.copy_from_slice.new.self c.args.self.now.at c.min-n.result (grind (arith, common_steps)) (grind (arith, common_steps)) (λ zero. grind (arith, common_steps))
