use Rattle.std.proofs.Common.{◌≡◌, take}
use Rattle.stabby_symbol.specs.Index.{tables_at}
use Rattle.stabby_symbol.proofs.index.tables_of.Given as goal

abbrev pub invariant-loop-span : goal.invariant-loop-span
invariant-loop-span l = l.tables.items ≡ tables_at l.source (take l.span-index l.spans)
