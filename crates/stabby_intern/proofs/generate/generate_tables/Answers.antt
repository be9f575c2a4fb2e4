use Rattle.std.proofs.Common.{◌∙◌, sym, arith}
use Rattle.std.proofs.lemmas.List.FromFn.{map-range_with_len_more}
use Rattle.stabby_intern.specs.Generated.{generated}
use Rattle.stabby_intern.proofs.generate.generate_tables.Goals as goal

pub loop-place-preserved : goal.loop-place-preserved
loop-place-preserved c =
    c.in_ok-push.ensures.items
    ∙ rw (c.loop-place.invariant, c.in_ok-generate_table.ensures.table) (sym (map-range_with_len_more (generated c.args.divisor) 0 c.loop-place.place c.loop-place.place (omega arith)))
