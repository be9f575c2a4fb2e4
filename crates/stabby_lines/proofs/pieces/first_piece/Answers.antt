use Rattle.std.proofs.Common.{length, ◌+◌}
use Rattle.stabby_tables.proofs.Cuts.{position_some, position_none, rest_is_drop, before}
use Rattle.stabby_lines.proofs.Cuts.{cut_whole, cut_none, nowhere}
use Rattle.stabby_lines.proofs.pieces.first_piece.Goals as goal

pub returns-in-Some-clause-whole : goal.returns-in-Some-clause-whole
returns-in-Some-clause-whole c =
    let line = c.args.line.now in
    let at = position_some (before 32 line) (length line) c.in-Some.at c.in-Some.ensures in
    rw (rest_is_drop (c.in-Some.at + 1) line) (cut_whole line c.in-Some.at at.0 at.1)

pub returns-in-Some-clause-no_space : goal.returns-in-Some-clause-no_space
returns-in-Some-clause-no_space c =
    let line = c.args.line.now in
    let at = position_some (before 32 line) (length line) c.in-Some.at c.in-Some.ensures in
    cut_none line c.in-Some.at at.0 at.1

pub returns-in-None-clause-no_space : goal.returns-in-None-clause-no_space
returns-in-None-clause-no_space c =
    let line = c.args.line.now in
    nowhere line (position_none (before 32 line) (length line) c.find.result c.in-None.is c.find.ensures)
