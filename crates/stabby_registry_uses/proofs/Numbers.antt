-- What two numbers of one list say.
use Rattle.std.proofs.Common.{◌≡◌, ℕ, List, sym, subst}
use Rattle.stabby_cell.proofs.RecordLemmas.{prefix_same}
use Rattle.stabby_tables.specs.Tables.{Table}
use Rattle.stabby_registry.specs.Inserts.{IsNumber}
use Rattle.stabby_registry.specs.Laws.{CallersAgree}
use Rattle.stabby_registry.proofs.Agreeing.{callers_agree}

-- one number, one table
pub one_table : (f : List Table) (t u : Table) (n m : ℕ) → IsNumber f t n → IsNumber f u m → n ≡ m → t ≡ u
one_table f t u n m at there same = CallersAgree.different callers_agree f f f t u n (prefix_same f) (prefix_same f) at (subst (IsNumber f u) (sym same) there)
