use Rattle.stabby_symbol.proofs.PackedTexts.{none_exactly_packed}
use Rattle.stabby_symbol.proofs.laws.unpacked_is_packed.Goals as goal

pub returns : goal.returns
returns c = none_exactly_packed
