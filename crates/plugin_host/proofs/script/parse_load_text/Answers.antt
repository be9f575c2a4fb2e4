use Rattle.std.proofs.Common.{refl}
use Rattle.std.specs.Option.{option_copied}
use Rattle.plugin_host.proofs.Reading.{no_load_short, no_load_kind, no_load_value}
use Rattle.plugin_host.proofs.script.parse_load_text.Goals as goal

pub returns-in_default-clause-none : goal.returns-in_default-clause-none
returns-in_default-clause-none c none = no_load_short c.args.text.now c.first_piece.result.0.now (rw c.in_default.is at c.first_piece.ensures.whole) c.first_piece.ensures.no_space

pub returns-in_default-parse_kind-clause-none : goal.returns-in_default-parse_kind-clause-none
returns-in_default-parse_kind-clause-none c none =
    no_load_kind c.args.text.now c.first_piece.result.0.now (option_copied c.first_piece.result.1) c.first_piece.ensures.whole c.first_piece.ensures.no_space (c.parse_kind.ensures.none (rw c.in_default-parse_kind.is refl))

pub returns-in_default-parse_value-clause-none : goal.returns-in_default-parse_value-clause-none
returns-in_default-parse_value-clause-none c none =
    no_load_value c.args.text.now c.first_piece.result.0.now c.in-Some.after.now c.in-Some-parse_kind.kind (rw c.in-Some.is at c.first_piece.ensures.whole) c.first_piece.ensures.no_space c.in-Some-parse_kind.ensures.some
    (c.parse_value.ensures.none (rw c.in_default-parse_value.is refl))
