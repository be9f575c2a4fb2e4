use Rattle.std.proofs.Common.{refl, subst, sym}
use Rattle.std.proofs.lemmas.Result.{err_from_is_err_and}
use Rattle.stabby_block.specs.Ledgers.{ledger_due}
use Rattle.stabby_block.proofs.LedgerFaults.{answered}
use Rattle.stabby_block.proofs.ledger.LedgerIAlloc.alloc.Goals as goal

pub returns-in_err-room_for-clause-faults : goal.returns-in_err-room_for-clause-faults
returns-in_err-room_for-clause-faults c fault other =
    let e = err_from_is_err_and c.from_residual.result c.from_residual.ensures.1 in
    rw e.1 (answered c.args.self.now c.args.layout e.0 fault
    (subst (ledger_due c.args.self.now c.args.layout) (sym e.2) (c.in_err-room_for.ensures.due c.args.layout refl)))
