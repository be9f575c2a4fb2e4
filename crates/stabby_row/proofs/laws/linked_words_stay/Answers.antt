use Rattle.stabby_row.proofs.LawLemmas.{words_stay}
use Rattle.stabby_row.proofs.laws.linked_words_stay.Goals as goal

pub returns : goal.returns
returns c = words_stay
