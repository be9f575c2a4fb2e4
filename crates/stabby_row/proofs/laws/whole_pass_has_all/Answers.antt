use Rattle.stabby_row.proofs.LawLemmas.{whole_has_all}
use Rattle.stabby_row.proofs.laws.whole_pass_has_all.Goals as goal

pub returns : goal.returns
returns c = whole_has_all
