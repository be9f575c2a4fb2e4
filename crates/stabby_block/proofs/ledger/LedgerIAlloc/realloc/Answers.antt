use Rattle.std.proofs.Common.{refl}
use Rattle.stabby_block.specs.Blocks.{resized_layout}
use Rattle.stabby_block.proofs.LedgerFaults.{answered_with}
use Rattle.stabby_block.proofs.ledger.LedgerIAlloc.realloc.Goals as goal

pub returns-in-Err-clause-faults : goal.returns-in-Err-clause-faults
returns-in-Err-clause-faults c fault other =
    answered_with c.args.block c.args.self.now (resized_layout c.args.block.layout c.args.new_size) c.in-Err.fault fault (c.in-Err.ensures.due (resized_layout c.args.block.layout c.args.new_size) refl)
