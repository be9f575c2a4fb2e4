use Rattle.stabby_tables.proofs.SmallShares.{shares_of_ten, first_places, first_numbers}
use Rattle.stabby_tables.proofs.laws.shares_of_small_lists.Goals as goal

pub returns-clause-shares : goal.returns-clause-shares
returns-clause-shares c = shares_of_ten

pub returns-clause-places : goal.returns-clause-places
returns-clause-places c = first_places

pub returns-clause-numbers : goal.returns-clause-numbers
returns-clause-numbers c = first_numbers
