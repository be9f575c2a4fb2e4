use Rattle.std.proofs.Common.{◌≡◌, true, sym, subst}
use Rattle.stabby_tables.specs.Tables.{is_same}
use Rattle.stabby_tables.proofs.Order.{before_is_less, same_is_equal}
use Rattle.stabby_tables.proofs.Growing.{same_itself, equal_from_same}
use Rattle.stabby_tables.proofs.Sorted.{before_itself, before_trans, before_total}
use Rattle.stabby_tables.proofs.laws.tables_are_ordered.Goals as goal

pub returns-clause-total : goal.returns-clause-total
returns-clause-total c = record {
  same = λ a b. (equal_from_same a b, λ e. subst (λ x. is_same a x ≡ true) e (same_itself a));
  irreflexive = before_itself;
  transitive = before_trans;
  total = before_total;
}

pub returns-clause-of_slices : goal.returns-clause-of_slices
returns-clause-of_slices c = record { before = λ a b. sym (before_is_less a b); same = λ a b. sym (same_is_equal a b) }
