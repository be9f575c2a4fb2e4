use Rattle.std.proofs.Common.{rules, arith}
use Rattle.stabby_block.proofs.Sums.{after_remove, gone_stays}
use Rattle.stabby_block.proofs.ledger.LedgerIAlloc.free.Goals as goal

pub overflow_sub-self : goal.overflow_sub-self
overflow_sub-self c =
    let e = after_remove (λ s. s.layout.size) c.args.self.now.slots c.remove.new.self c.args.block.number c.in-Some.slot c.remove.ensures.entries (search rules) in
    omega (arith, e, c.args.self.now.counted)

pub invariant_of-self-clause-counted : goal.invariant_of-self-clause-counted
invariant_of-self-clause-counted c =
    let e = after_remove (λ s. s.layout.size) c.args.self.now.slots c.remove.new.self c.args.block.number c.in-Some.slot c.remove.ensures.entries (search rules) in
    omega (arith, e, c.args.self.now.counted)

pub invariant_of-self-clause-numbered : goal.invariant_of-self-clause-numbered
invariant_of-self-clause-numbered c n le = gone_stays _ _ _ (c.remove.ensures.updates.0 n) (c.args.self.now.numbered n le)
