use Rattle.std.proofs.Common.{ap, rules, ◌∙◌, sym}
use Rattle.stabby_block.proofs.Sums.{after_write, same_keys_absent}
use Rattle.stabby_block.proofs.ledger.LedgerIAlloc.write.Goals as goal

pub invariant_of-self-clause-counted : goal.invariant_of-self-clause-counted
invariant_of-self-clause-counted c =
    let h = c.get_mut.follows.holds c.write.new.self in
    c.args.self.now.counted ∙ sym (after_write (λ s. s.layout.size) c.args.self.now.slots (c.get_mut.follows.lender c.write.new.self) c.args.block.now.number c.in-Some.slot.now c.write.new.self h.0 (search rules) (ap (λ l. l.size) c.write.ensures.layout))

pub invariant_of-self-clause-numbered : goal.invariant_of-self-clause-numbered
invariant_of-self-clause-numbered c n le =
    let h = c.get_mut.follows.holds c.write.new.self in
    same_keys_absent c.args.self.now.slots (c.get_mut.follows.lender c.write.new.self) n h.1 (c.args.self.now.numbered n le)
