use Rattle.stabby_count.proofs.Steps.{words}
use Rattle.stabby_count.proofs.laws.word_holds_both_counts.Goals as goal

pub returns : goal.returns
returns c = words
