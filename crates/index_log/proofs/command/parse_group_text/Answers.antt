use Rattle.std.proofs.Common.{refl}
use Rattle.std.specs.Option.{option_copied}
use Rattle.index_log.proofs.Reading.{none_group, no_group_number, no_group_stamp}
use Rattle.index_log.proofs.command.parse_group_text.Goals as goal

pub returns-in_default : goal.returns-in_default
returns-in_default c =
    none_group c.args.text.now (no_group_number c.args.text.now c.first_piece.result.0.now (option_copied c.first_piece.result.1) c.first_piece.ensures.whole c.first_piece.ensures.no_space (c.parse_number.ensures.none (rw c.in_default.is refl)))

pub returns-in_default-parse_stamp : goal.returns-in_default-parse_stamp
returns-in_default-parse_stamp c =
    none_group c.args.text.now (no_group_stamp c.args.text.now c.first_piece.result.0.now (option_copied c.first_piece.result.1) c.first_piece.ensures.whole c.first_piece.ensures.no_space (rw c.in_default-parse_stamp.is at c.parse_stamp.ensures))
