use Rattle.std.proofs.Common.{refl}
use Rattle.stabby_row_uses.proofs.Numbers.{stays, member, within, one_table}
use Rattle.stabby_row_uses.proofs.one_thread.number_and_read_back.Goals as goal

pub returns-in_err-read-clause-memory : goal.returns-in_err-read-clause-memory
returns-in_err-read-clause-memory c = λ _. member _ _ c.in_ok-number.number (stays _ _ _ c.in_ok-number.number c.entry.ensures.front c.in_ok-number.ensures.number)

pub unreachable-requires : goal.unreachable-requires
unreachable-requires c =
    within _ _ c.in_ok-number.number (stays _ _ _ c.in_ok-number.number c.entry.ensures.front c.in_ok-number.ensures.number) (rw c.in-None.is at c.in_ok-read.ensures.none)

pub returns-clause-read : goal.returns-clause-read
returns-clause-read c =
    one_table _ _ _ c.in_ok-number.number c.in_ok-number.number (rw c.in-Some.is at c.in_ok-read.ensures.table) (stays _ _ _ c.in_ok-number.number c.entry.ensures.front c.in_ok-number.ensures.number) refl
