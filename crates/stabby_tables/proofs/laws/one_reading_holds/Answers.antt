use Rattle.stabby_tables.proofs.Texts.{not_both}
use Rattle.stabby_tables.proofs.Decides.{one_holds}
use Rattle.stabby_tables.proofs.laws.one_reading_holds.Goals as goal

pub returns : goal.returns
returns c = record { one = one_holds; not_both = not_both }
