use Rattle.stabby_count.proofs.Rows.{end_row}
use Rattle.stabby_count.proofs.laws.end_of_a_seat_keeps_the_rule.Goals as goal

pub returns : goal.returns
returns c = end_row
