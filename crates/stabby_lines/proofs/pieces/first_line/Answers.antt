use Rattle.std.proofs.Common.{length, ◌+◌, []}
use Rattle.stabby_tables.proofs.Cuts.{cut_here, cut_last, position_some, position_none, rest_is_drop, drop_whole, before}
use Rattle.stabby_lines.proofs.pieces.first_line.Goals as goal

pub returns-in-Some-clause-split : goal.returns-in-Some-clause-split
returns-in-Some-clause-split c =
    let text = c.args.text.now in
    let at = position_some (before 10 text) (length text) c.in-Some.at c.in-Some.ensures in
    rw (rest_is_drop (c.in-Some.at + 1) text, at.0) (cut_here 10 [] text at.1)

pub returns-in-None-clause-split : goal.returns-in-None-clause-split
returns-in-None-clause-split c =
    let text = c.args.text.now in
    let none = position_none (before 10 text) (length text) c.find.result c.in-None.is c.find.ensures in
    rw (rest_is_drop (length text) text, drop_whole text) (cut_last 10 text none c.requires)
