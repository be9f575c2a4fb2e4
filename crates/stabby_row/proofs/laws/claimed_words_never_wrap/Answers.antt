use Rattle.stabby_row.proofs.LawLemmas.{never_wrap}
use Rattle.stabby_row.proofs.laws.claimed_words_never_wrap.Goals as goal

pub returns : goal.returns
returns c = never_wrap
