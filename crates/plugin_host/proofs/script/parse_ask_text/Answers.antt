use Rattle.std.proofs.Common.{refl}
use Rattle.std.specs.Option.{option_copied}
use Rattle.plugin_host.proofs.Reading.{no_ask_short, no_ask_kind, no_ask_number}
use Rattle.plugin_host.proofs.script.parse_ask_text.Goals as goal

pub returns-in_default-clause-none : goal.returns-in_default-clause-none
returns-in_default-clause-none c none = no_ask_short c.args.text.now c.first_piece.result.0.now (rw c.in_default.is at c.first_piece.ensures.whole) c.first_piece.ensures.no_space

pub returns-in_default-parse_kind-clause-none : goal.returns-in_default-parse_kind-clause-none
returns-in_default-parse_kind-clause-none c none =
    no_ask_kind c.args.text.now c.first_piece.result.0.now (option_copied c.first_piece.result.1) c.first_piece.ensures.whole c.first_piece.ensures.no_space (c.parse_kind.ensures.none (rw c.in_default-parse_kind.is refl))

pub returns-in_default-parse_number-clause-none : goal.returns-in_default-parse_number-clause-none
returns-in_default-parse_number-clause-none c none =
    no_ask_number c.args.text.now c.first_piece.result.0.now c.in-Some.digits.now (rw c.in-Some.is at c.first_piece.ensures.whole) c.first_piece.ensures.no_space (c.parse_number.ensures.none (rw c.in_default-parse_number.is refl))
