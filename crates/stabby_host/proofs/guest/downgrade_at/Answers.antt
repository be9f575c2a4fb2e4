use Rattle.std.proofs.Common.{Ok, Err}
use Rattle.stabby_host.specs.declared.faults.GuestFault.TheVariants.{Full, Memory}
use Rattle.stabby_host.proofs.Guests.{gives}
use Rattle.stabby_host.proofs.guest.downgrade_at.Goals as goal

pub returns-in-Ok : goal.returns-in-Ok
returns-in-Ok g c =
    let e = c.in-Ok.ensures in
    gives c.args.plugins.now.items c.args.at c.in-Live.loaded c.index_mut.result.now c.downgrade.new.self (Ok c.in-Ok.weak) c.index_mut.ensures.value c.in-Live.is e.kept
    (record { value = e.value; block = e.block; added = e.added; copied = e.copied }) e.stays_sole

pub returns-in-Err-Full : goal.returns-in-Err-Full
returns-in-Err-Full g c =
    let e = c.in-Err-Full.ensures in
    gives c.args.plugins.now.items c.args.at c.in-Live.loaded c.index_mut.result.now c.downgrade.new.self (Err (Full c.in-Err-Full.word)) c.index_mut.ensures.value c.in-Live.is e.kept
    (rw c.in-Err-Full.field-0-is at e.fault) e.stays_sole

pub returns-in-Err-Memory : goal.returns-in-Err-Memory
returns-in-Err-Memory g c =
    let e = c.in-Err-Memory.ensures in
    gives c.args.plugins.now.items c.args.at c.in-Live.loaded c.index_mut.result.now c.downgrade.new.self (Err Memory) c.index_mut.ensures.value c.in-Live.is e.kept
    (rw c.in-Err-Memory.field-0-is at e.fault) e.stays_sole
