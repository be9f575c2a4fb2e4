use Rattle.word_index.proofs.Endings.{comes}
use Rattle.word_index.proofs.program.outcome.Goals as goal

pub returns-clause-comes : goal.returns-clause-comes
returns-clause-comes g c = comes _ _ c.list_input.ensures
