use Rattle.stabby_symbol.proofs.Indexing.{word_utf8}
use Rattle.stabby_symbol.proofs.index.word_at.Goals as goal

pub unreachable-requires : goal.unreachable-requires
unreachable-requires c = c.in-Err.ensures.cases.0 (word_utf8 c.args.source.now c.args.span c.requires)
