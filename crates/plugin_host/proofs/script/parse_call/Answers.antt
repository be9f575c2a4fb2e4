use Rattle.plugin_host.proofs.Reading.{no_call_short, reads_line}
use Rattle.plugin_host.proofs.script.parse_call.Goals as goal

pub returns-in_default : goal.returns-in_default
returns-in_default c = no_call_short c.args.line.now c.first_piece.result.0.now (rw c.in_default.is at c.first_piece.ensures.whole) c.first_piece.ensures.no_space

pub returns : goal.returns
returns c = reads_line c.args.line.now c.first_piece.result.0.now c.in-Some.text.now c.parse_rest.result (rw c.in-Some.is at c.first_piece.ensures.whole) c.first_piece.ensures.no_space c.parse_rest.ensures
