use Rattle.std.proofs.Common.{inl, inr}
use Rattle.std.proofs.lemmas.Result.{err_from_is_err_and}
use Rattle.stabby_registry.proofs.Inserting.{inserted_there, not_known}
use Rattle.stabby_registry.proofs.Trying.{visit_looked, offer_refused, tried_known, tried_find, tried_offer, tried_commit}
use Rattle.stabby_registry.proofs.registry.VtBtree.try_insert.Goals as goal

pub returns-in_err-try_offer-in-Absent-clause-refused : goal.returns-in_err-try_offer-in-Absent-clause-refused
returns-in_err-try_offer-in-Absent-clause-refused g c =
    let p = err_from_is_err_and c.from_residual-in_err-try_offer-in-Absent.result c.from_residual-in_err-try_offer-in-Absent.ensures.1 in
    let absent = (rw c.in-Absent.is at c.in_ok-number.ensures.found).0 in
    rw (p.1, p.2) (offer_refused c.args.self.now c.args.pass.now c.try_find.new.pass c.try_offer.new.pass c.args.table.now _ c.args.self.now.zero c.try_find.ensures.pass c.in_ok-number.ensures.visited absent c.in_err-try_offer-in-Absent.ensures.refused)

pub returns-in_ok-try_offer-in-Absent-clause-number : goal.returns-in_ok-try_offer-in-Absent-clause-number
returns-in_ok-try_offer-in-Absent-clause-number g c =
    (inserted_there c.args.self.now c.args.pass.now c.try_find.new.pass c.try_offer.new.pass c.args.table.now c.len-number.result c.in-Absent.version c.in_ok-next-in-Absent.next c.args.self.now.zero c.try_find.ensures.pass
    (visit_looked _ _ c.in_ok-number.ensures.visited) c.in_ok-number.ensures.distinct (rw c.in-Absent.is at c.in_ok-number.ensures.found) c.len-number.ensures.count c.in_ok-next-in-Absent.ensures.ok c.in_ok-try_offer-in-Absent.ensures.committed).number

pub returns-in_ok-try_offer-in-Absent-clause-inserts : goal.returns-in_ok-try_offer-in-Absent-clause-inserts
returns-in_ok-try_offer-in-Absent-clause-inserts g c =
    inr (inserted_there c.args.self.now c.args.pass.now c.try_find.new.pass c.try_offer.new.pass c.args.table.now c.len-number.result c.in-Absent.version c.in_ok-next-in-Absent.next c.args.self.now.zero c.try_find.ensures.pass
    (visit_looked _ _ c.in_ok-number.ensures.visited) c.in_ok-number.ensures.distinct (rw c.in-Absent.is at c.in_ok-number.ensures.found) c.len-number.ensures.count c.in_ok-next-in-Absent.ensures.ok c.in_ok-try_offer-in-Absent.ensures.committed).adds

pub returns-in_ok-try_offer-in-Absent-clause-distinct : goal.returns-in_ok-try_offer-in-Absent-clause-distinct
returns-in_ok-try_offer-in-Absent-clause-distinct g c =
    (inserted_there c.args.self.now c.args.pass.now c.try_find.new.pass c.try_offer.new.pass c.args.table.now c.len-number.result c.in-Absent.version c.in_ok-next-in-Absent.next c.args.self.now.zero c.try_find.ensures.pass
    (visit_looked _ _ c.in_ok-number.ensures.visited) c.in_ok-number.ensures.distinct (rw c.in-Absent.is at c.in_ok-number.ensures.found) c.len-number.ensures.count c.in_ok-next-in-Absent.ensures.ok c.in_ok-try_offer-in-Absent.ensures.committed).distinct

pub returns-in_ok-try_offer-in-Absent-clause-known : goal.returns-in_ok-try_offer-in-Absent-clause-known
returns-in_ok-try_offer-in-Absent-clause-known g c known =
    let absent = (rw c.in-Absent.is at c.in_ok-number.ensures.found).0 in
    absurd (not_known c.args.pass.now c.try_find.new.pass c.args.table.now (visit_looked _ _ c.in_ok-number.ensures.visited) absent known)

-- the steps of the try
pub returns-in_err-number-clause-tried : goal.returns-in_err-number-clause-tried
returns-in_err-number-clause-tried g c =
    let p = err_from_is_err_and c.from_residual.result c.from_residual.ensures.1 in
    rw (p.1, p.2) (tried_find c.args.pass.now c.try_find.new.pass _ c.in_err-number.ensures.refused)

pub returns-in-Known-clause-tried : goal.returns-in-Known-clause-tried
returns-in-Known-clause-tried g c = inl (tried_known _ _ c.in_ok-number.ensures.visited)

pub returns-in-Full-clause-tried : goal.returns-in-Full-clause-tried
returns-in-Full-clause-tried g c = tried_known _ _ c.in_ok-number.ensures.visited

pub returns-in_err-next-in-Absent-clause-tried : goal.returns-in_err-next-in-Absent-clause-tried
returns-in_err-next-in-Absent-clause-tried g c =
    let p = err_from_is_err_and c.from_residual-in_err-next-in-Absent.result c.from_residual-in_err-next-in-Absent.ensures.1 in
    rw (p.1, p.2) (tried_known _ _ c.in_ok-number.ensures.visited)

pub returns-in_err-try_offer-in-Absent-clause-tried : goal.returns-in_err-try_offer-in-Absent-clause-tried
returns-in_err-try_offer-in-Absent-clause-tried g c =
    let p = err_from_is_err_and c.from_residual-in_err-try_offer-in-Absent.result c.from_residual-in_err-try_offer-in-Absent.ensures.1 in
    rw (p.1, p.2) (tried_offer c.args.pass.now c.try_find.new.pass c.try_offer.new.pass _ c.in_ok-number.ensures.visited c.in_err-try_offer-in-Absent.ensures.refused)

pub returns-in_ok-try_offer-in-Absent-clause-tried : goal.returns-in_ok-try_offer-in-Absent-clause-tried
returns-in_ok-try_offer-in-Absent-clause-tried g c = inr (tried_commit c.args.pass.now c.try_find.new.pass c.try_offer.new.pass c.in_ok-number.ensures.visited c.in_ok-try_offer-in-Absent.ensures.committed_once)
