use Rattle.stabby_symbol.proofs.Symbols.{texts_agree}
use Rattle.stabby_symbol.proofs.laws.texts_agree.Goals as goal

pub returns : goal.returns
returns c = texts_agree
