use Rattle.std.proofs.Common.{refl}
use Rattle.std.specs.Fmt.{digits}
use Rattle.stabby_tables.proofs.laws.reports_of_small_inputs.Goals as goal

pub returns-clause-repeat_gets_one_rank : goal.returns-clause-repeat_gets_one_rank
unfolding digits
returns-clause-repeat_gets_one_rank c = refl

pub returns-clause-empty_tables : goal.returns-clause-empty_tables
unfolding digits
returns-clause-empty_tables c = refl

pub returns-clause-numbers_in_order_of_insertion : goal.returns-clause-numbers_in_order_of_insertion
unfolding digits
returns-clause-numbers_in_order_of_insertion c = refl

pub returns-clause-greatest_word : goal.returns-clause-greatest_word
unfolding digits
returns-clause-greatest_word c = refl

pub returns-clause-prefix_before_longer : goal.returns-clause-prefix_before_longer
unfolding digits
returns-clause-prefix_before_longer c = refl

pub returns-clause-single_zero : goal.returns-clause-single_zero
unfolding digits
returns-clause-single_zero c = refl
