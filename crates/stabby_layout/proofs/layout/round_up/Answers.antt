use Rattle.std.proofs.Common.{◌<◌, ◌%◌, arith}
use Rattle.stabby_layout.proofs.LayoutLemmas.{next_multiple_up, next_multiple_of_multiple}
use Rattle.stabby_layout.proofs.layout.round_up.Goals as goal

pub returns-in-Some-clause-ok : goal.returns-in-Some-clause-ok
returns-in-Some-clause-ok c =
    let rest : 0 < c.args.position % c.args.align = omega arith in
    let up = next_multiple_up c.args.position c.args.align c.requires rest in
    grind (arith, up)

pub returns-in-None-clause-range : goal.returns-in-None-clause-range
returns-in-None-clause-range c =
    let rest : 0 < c.args.position % c.args.align = omega arith in
    let up = next_multiple_up c.args.position c.args.align c.requires rest in
    grind (arith, up)

pub returns-then-past-eq0-clause-ok : goal.returns-then-past-eq0-clause-ok
returns-then-past-eq0-clause-ok c =
    let same = next_multiple_of_multiple c.args.position c.args.align c.requires c.if-past-eq0.true in
    grind (arith, same)
