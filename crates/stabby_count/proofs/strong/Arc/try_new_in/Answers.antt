use Rattle.stabby_count.proofs.Rows.{opens}
use Rattle.stabby_count.proofs.strong.Arc.try_new_in.Goals as goal

pub make-requires : goal.make-requires
make-requires g c = opens
