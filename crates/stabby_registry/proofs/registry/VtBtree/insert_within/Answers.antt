use Rattle.std.proofs.Common.{inl, inr, arith}
use Rattle.std.proofs.lemmas.Result.{err_from_is_err_and}
use Rattle.stabby_cell.proofs.CallLemmas.{no_commit_looked, looked_looked}
use Rattle.stabby_registry.specs.declared.fault.TryFault.TheVariants.{Moved}
use Rattle.stabby_registry.proofs.Inserting.{not_known, full_front}
use Rattle.stabby_registry.proofs.Outrunning.{Outrun, not_outrun, outrun_again, outrun_at_last, added_at_last, refused_at_last, own_if_whole_within}
use Rattle.stabby_registry.proofs.registry.VtBtree.insert_within.Goals as goal

pub returns-in_err-number-clause-refused : goal.returns-in_err-number-clause-refused
returns-in_err-number-clause-refused g c =
    let p = err_from_is_err_and c.from_residual.result c.from_residual.ensures.1 in
    rw (p.1, p.2) (no_commit_looked _ _ c.find.ensures.looked)

pub returns-in-Full-clause-refused : goal.returns-in-Full-clause-refused
returns-in-Full-clause-refused g c =
    full_front c.args.self.now c.args.pass.now c.find.new.pass c.args.table.now c.seen.result c.args.self.now.zero c.find.ensures.pass
    (rw c.in-Full.is at c.in_ok-number.ensures.found) c.seen.ensures.stamp c.seen.ensures.limit c.find.ensures.looked

pub loop-round-init : goal.loop-round-init
loop-round-init g c =
    let found = rw c.in-Absent.is at c.in_ok-number.ensures.found in
    record {
      own = c.find.ensures.pass;
      version = found.1;
      absent = found.0;
      room = found.2;
      distinct = c.find.ensures.distinct;
      outrun = not_outrun c.args.pass.now _ c.find.ensures.visited;
      left = c.requires.some;
    }

pub returns-in_err-number-2-clause-refused : goal.returns-in_err-number-2-clause-refused
returns-in_err-number-2-clause-refused g c =
    let p = err_from_is_err_and c.from_residual-in_err-number-2.result c.from_residual-in_err-number-2.ensures.1 in
    rw (p.1, p.2) (refused_at_last c.args.pass.now c.loop-round.pass c.insert_on.new.pass c.args.table.now c.args.tries _ (Outrun.looked c.loop-round.invariant.outrun) c.in_err-number-2.ensures.refused)

pub returns-in-Added-clause-number : goal.returns-in-Added-clause-number
returns-in-Added-clause-number g c =
    (added_at_last c.args.self.now c.args.pass.now c.loop-round.pass c.insert_on.new.pass c.args.table.now c.in-Added.number c.args.self.now.zero c.loop-round.invariant.own (Outrun.looked c.loop-round.invariant.outrun)
    c.loop-round.invariant.distinct c.loop-round.invariant.absent c.loop-round.invariant.room (rw c.in-Added.is at c.in_ok-number-2.ensures.tried)).number

pub returns-in-Added-clause-inserts : goal.returns-in-Added-clause-inserts
returns-in-Added-clause-inserts g c =
    inr (added_at_last c.args.self.now c.args.pass.now c.loop-round.pass c.insert_on.new.pass c.args.table.now c.in-Added.number c.args.self.now.zero c.loop-round.invariant.own (Outrun.looked c.loop-round.invariant.outrun)
    c.loop-round.invariant.distinct c.loop-round.invariant.absent c.loop-round.invariant.room (rw c.in-Added.is at c.in_ok-number-2.ensures.tried)).adds

pub returns-in-Added-clause-distinct : goal.returns-in-Added-clause-distinct
returns-in-Added-clause-distinct g c =
    (added_at_last c.args.self.now c.args.pass.now c.loop-round.pass c.insert_on.new.pass c.args.table.now c.in-Added.number c.args.self.now.zero c.loop-round.invariant.own (Outrun.looked c.loop-round.invariant.outrun)
    c.loop-round.invariant.distinct c.loop-round.invariant.absent c.loop-round.invariant.room (rw c.in-Added.is at c.in_ok-number-2.ensures.tried)).distinct

pub returns-in-Added-clause-known : goal.returns-in-Added-clause-known
returns-in-Added-clause-known g c known =
    absurd (not_known c.args.pass.now c.loop-round.pass c.args.table.now (Outrun.looked c.loop-round.invariant.outrun) c.loop-round.invariant.absent known)

pub returns-in-Known-2-clause-inserts : goal.returns-in-Known-2-clause-inserts
returns-in-Known-2-clause-inserts g c = inl (looked_looked _ _ _ (Outrun.looked c.loop-round.invariant.outrun) (rw c.in-Known-2.is at c.in_ok-number-2.ensures.tried).0)

pub returns-in-Known-2-clause-known : goal.returns-in-Known-2-clause-known
returns-in-Known-2-clause-known g c known = looked_looked _ _ _ (Outrun.looked c.loop-round.invariant.outrun) (rw c.in-Known-2.is at c.in_ok-number-2.ensures.tried).0

pub returns-then-round-tries-clause-refused : goal.returns-then-round-tries-clause-refused
returns-then-round-tries-clause-refused g c =
    let outrun = rw c.in-Outrun.is at c.in_ok-number-2.ensures.tried in
    outrun_at_last c.args.self.now c.args.pass.now c.loop-round.pass c.insert_on.new.pass c.args.table.now _ c.args.tries c.seen-from.result _ c.args.self.now.zero c.loop-round.invariant.own c.loop-round.invariant.outrun
    c.if-round-tries.true c.loop-round.invariant.absent outrun.0 outrun.1 c.seen-from.ensures.stamp c.seen-then-round-tries.ensures.stamp

pub returns-then-round-tries-clause-whole : goal.returns-then-round-tries-clause-whole
returns-then-round-tries-clause-whole g c whole =
    own_if_whole_within c.args.self.now c.args.pass.now c.insert_on.new.pass c.args.table.now c.args.tries (Moved c.seen-from.result c.seen-then-round-tries.result)
    c.requires.own c.insert_on.ensures.pass (returns-then-round-tries-clause-refused g c) whole

pub loop-round-preserved : goal.loop-round-preserved
loop-round-preserved g c =
    let outrun = rw c.in-Outrun.is at c.in_ok-number-2.ensures.tried in
    record {
      own = c.insert_on.ensures.pass;
      version = outrun.4;
      absent = outrun.3;
      room = outrun.5;
      distinct = outrun.2;
      outrun = outrun_again c.args.pass.now c.loop-round.pass c.insert_on.new.pass _ c.loop-round.invariant.outrun outrun.0 outrun.1;
      left = omega (arith, c.loop-round.invariant.left, c.if-round-tries.false);
    }
