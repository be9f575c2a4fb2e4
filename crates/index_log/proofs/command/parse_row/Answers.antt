use Rattle.std.proofs.Common.{refl}
use Rattle.std.specs.Option.{option_copied}
use Rattle.index_log.proofs.Reading.{no_row_short, no_row_text, no_row_key, no_row_group, no_row_utf8}
use Rattle.index_log.proofs.command.parse_row.Goals as goal

pub returns-in_default-clause-reads : goal.returns-in_default-clause-reads
returns-in_default-clause-reads c = no_row_short c.args.text.now c.first_piece.result.0.now (rw c.in_default.is at c.first_piece.ensures.whole) c.first_piece.ensures.no_space

pub returns-in_default-last-clause-reads : goal.returns-in_default-last-clause-reads
returns-in_default-last-clause-reads c =
    no_row_text c.args.text.now c.first_piece.result.0.now c.in-Some.after_key.now c.first_piece-2.result.0.now (rw c.in-Some.is at c.first_piece.ensures.whole) c.first_piece.ensures.no_space
    (rw c.in_default-last.is at c.first_piece-2.ensures.whole) c.first_piece-2.ensures.no_space

pub returns-in_default-parse_number-clause-reads : goal.returns-in_default-parse_number-clause-reads
returns-in_default-parse_number-clause-reads c =
    no_row_key c.args.text.now c.first_piece.result.0.now (option_copied c.first_piece.result.1) c.first_piece.ensures.whole c.first_piece.ensures.no_space (c.parse_number.ensures.none (rw c.in_default-parse_number.is refl))

pub returns-in_default-parse_number-2-clause-reads : goal.returns-in_default-parse_number-2-clause-reads
returns-in_default-parse_number-2-clause-reads c =
    no_row_group c.args.text.now c.first_piece.result.0.now c.in-Some.after_key.now c.first_piece-2.result.0.now (option_copied c.first_piece-2.result.1) (rw c.in-Some.is at c.first_piece.ensures.whole) c.first_piece.ensures.no_space
    c.first_piece-2.ensures.whole c.first_piece-2.ensures.no_space (c.parse_number-2.ensures.none (rw c.in_default-parse_number-2.is refl))

pub returns-in_default-from_utf8-clause-reads : goal.returns-in_default-from_utf8-clause-reads
returns-in_default-from_utf8-clause-reads c =
    no_row_utf8 c.args.text.now c.first_piece.result.0.now c.in-Some.after_key.now c.first_piece-2.result.0.now c.in-Some-last.after_group.now (rw c.in-Some.is at c.first_piece.ensures.whole) c.first_piece.ensures.no_space
    (rw c.in-Some-last.is at c.first_piece-2.ensures.whole) c.first_piece-2.ensures.no_space c.in_default-from_utf8.ensures.cases.0
