use Rattle.std.proofs.Common.{rules, refl, ◌≡◌, ◌<◌, ◌+◌, ◌++◌, ◌∷◌, [], ◌∙◌, take, length}
use Rattle.std.proofs.lemmas.Result.{err_from_is_err_and}
use Rattle.stabby_registry.specs.Passes.{front_of, weight_of}
use Rattle.stabby_registry.proofs.Working.{known_behind, worked_none, next_known, next_more, stopped}
use Rattle.stabby_registry.proofs.worker.number_share.Goals as goal

pub loop-at-init : goal.loop-at-init
loop-at-init g c = record {
  own = c.requires.own;
  weight = refl;
  worked = rw c.in-Ok.ensures.items (worked_none c.args.pass.now c.requires.fresh);
  behind = rw c.new-known.ensures (front_of c.args.pass.now, refl);
  room = c.in-Ok.ensures.exact;
}

-- the version that was read last has the table
pub loop-at-preserved-in-Some : goal.loop-at-preserved-in-Some
loop-at-preserved-in-Some g c =
    let so = c.loop-at.invariant in
    let within : c.loop-at.at < length c.args.tables.now = search rules in
    let known = known_behind c.loop-at.known (front_of c.loop-at.pass) c.index-tables-at.result c.in-Some.number so.behind c.in-Some.ensures.number in
    record {
      own = so.own;
      weight = so.weight;
      worked = rw c.push_reserved.ensures.items (next_known c.loop-at.pass c.args.tables.now c.loop-at.at c.loop-at.numbers.items c.index-tables-at.result c.in-Some.number within c.index-tables-at.is so.worked known);
      behind = so.behind;
      room = c.push_reserved.ensures.capacity ∙ so.room;
    }

pub returns-in_err-number-clause-refused : goal.returns-in_err-number-clause-refused
returns-in_err-number-clause-refused g c =
    let p = err_from_is_err_and c.from_residual.result c.from_residual.ensures.1 in
    rw (p.1, p.2) (stopped c.args.registry.now c.loop-at.pass c.insert_absent.new.pass c.args.tables.now c.loop-at.at c.loop-at.numbers.items c.index-tables-at.result c.in_err-number.field-0.0 c.args.registry.now.zero
    c.insert_absent.ensures.pass c.loop-at.invariant.worked c.in_err-number.ensures.refused)

-- the registry gave the table's number
pub loop-at-preserved : goal.loop-at-preserved
loop-at-preserved g c =
    let so = c.loop-at.invariant in
    let within : c.loop-at.at < length c.args.tables.now = search rules in
    let same : weight_of c.insert_absent.new.pass ≡ weight_of c.args.pass.now = search rules in
    record {
      own = c.insert_absent.ensures.pass;
      weight = same;
      worked = rw c.push_reserved-in-loop-at.ensures.items (next_more c.loop-at.pass c.insert_absent.new.pass c.args.tables.now c.loop-at.at c.loop-at.numbers.items c.index-tables-at.result c.in_ok-number.number within
          c.index-tables-at.is so.worked c.in_ok-number.ensures.inserts c.in_ok-number.ensures.number c.in_ok-number.ensures.distinct);
      behind = c.in_ok-number.ensures.behind;
      room = c.push_reserved-in-loop-at.ensures.capacity ∙ so.room;
    }
