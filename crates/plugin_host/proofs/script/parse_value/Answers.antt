use Rattle.std.proofs.Common.{refl, sym, ◌∙◌}
use mathlib.Core.Bool.{false≢true}
use Rattle.std.specs.Option.{option_copied}
use Rattle.plugin_host.proofs.Reading.{no_value_number, no_value_big, no_value_need}
use Rattle.plugin_host.proofs.script.parse_value.Goals as goal

pub returns-in_default-clause-none : goal.returns-in_default-clause-none
returns-in_default-clause-none c none =
    no_value_number c.args.text.now c.first_piece.result.0.now (option_copied c.first_piece.result.1) c.args.kind c.first_piece.ensures.whole c.first_piece.ensures.no_space (c.parse_number.ensures.none (rw c.in_default.is refl))

pub returns-then-not-fits-clause-none : goal.returns-then-not-fits-clause-none
returns-then-not-fits-clause-none c none =
    no_value_big c.args.text.now c.first_piece.result.0.now (option_copied c.first_piece.result.1) c.args.kind c.in-Some.value c.first_piece.ensures.whole c.first_piece.ensures.no_space c.in-Some.ensures.some
    (λ lt. false≢true (sym c.if-not-fits.true ∙ c.fits.ensures.1 lt))

pub returns-in_default-parse_need-clause-none : goal.returns-in_default-parse_need-clause-none
returns-in_default-parse_need-clause-none c none =
    no_value_need c.args.text.now c.first_piece.result.0.now (option_copied c.first_piece.result.1) c.args.kind c.first_piece.ensures.whole c.first_piece.ensures.no_space (rw c.in_default-parse_need.is at c.parse_need.ensures)
