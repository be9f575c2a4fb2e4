use Rattle.std.proofs.Common.{refl}
use Rattle.word_index.proofs.program.list_input.Goals as goal

pub returns-in_default : goal.returns-in_default
returns-in_default g c = record {
  no_command = c.in_default.ensures.none refl;
  unread = refl;
  untouched = refl;
  no_read_failed = refl;
  no_write_failed = refl;
}
