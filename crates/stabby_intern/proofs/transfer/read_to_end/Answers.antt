use Rattle.std.proofs.Common.{arith}
use Rattle.std.proofs.lemmas.Grind.{common_steps}
use Rattle.stabby_intern.proofs.Moved.{too_long}
use Rattle.stabby_intern.proofs.transfer.read_to_end.Goals as goal

pub returns-then-len-gt-LIMIT-clause-too_long : goal.returns-then-len-gt-LIMIT-clause-too_long
returns-then-len-gt-LIMIT-clause-too_long g c e = too_long _ _ _ _ _ c.extend_from_slice.new.self.items c.loop-turn.invariant.gave c.in-Ok.ensures.bytes.0 (grind (arith, common_steps)) (grind (arith, common_steps))
