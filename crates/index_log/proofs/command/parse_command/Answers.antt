use Rattle.std.specs.Option.{option_copied}
use Rattle.index_log.proofs.Reading.{reads_all}
use Rattle.index_log.proofs.command.parse_command.Goals as goal

pub returns-clause-reads : goal.returns-clause-reads
returns-clause-reads c =
    reads_all c.args.line.now c.first_piece.result.0.now (option_copied c.first_piece.result.1) c.parse_rest.result c.first_piece.ensures.whole c.first_piece.ensures.no_space c.parse_rest.ensures.reads
