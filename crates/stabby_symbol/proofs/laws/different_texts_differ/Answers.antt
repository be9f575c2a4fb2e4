use Rattle.stabby_symbol.proofs.PackedTexts.{one_text}
use Rattle.stabby_symbol.proofs.laws.different_texts_differ.Goals as goal

pub returns : goal.returns
returns c = one_text
