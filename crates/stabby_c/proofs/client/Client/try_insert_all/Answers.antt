use Rattle.std.proofs.Common.{arith, refl, sym, ap, ◌∙◌, ◌≡◌, ◌+◌, ◌<◌, subst, length, slice_index, length-set}
use Rattle.std.specs.Prelude.{slice_range}
use Rattle.stabby_cell.proofs.RecordLemmas.{prefix_trans}
use Rattle.stabby_registry.specs.Inserts.{IsNumber}
use Rattle.stabby_c.specs.Clients.{front_of, InsertFault, TriedEach}
use Rattle.stabby_c.specs.Batches.{table_at, AreNumbered}
use Rattle.stabby_c.proofs.Batching.{sum_more, numbered_later, numbered_more, next_table, each_more}
use Rattle.stabby_c.proofs.client.Client.try_insert_all.Goals as goal

-- the tables before the one that was refused
pub returns-in-Err-clause-numbers : goal.returns-in-Err-clause-numbers
returns-in-Err-clause-numbers c =
    let so = c.loop-at.invariant in
    subst (λ n. AreNumbered (front_of c.try_insert.new.self) c.args.words.now c.args.lengths.now c.loop-at.numbers n) (sym so.done)
    (numbered_later (front_of c.loop-at.self) (front_of c.try_insert.new.self) c.args.words.now c.args.lengths.now c.loop-at.numbers c.loop-at.at c.in-Err.ensures.front so.numbered)

-- and that one
pub returns-in-Err-clause-stopped : goal.returns-in-Err-clause-stopped
returns-in-Err-clause-stopped c _ _ =
    let so = c.loop-at.invariant in
    let table : slice_range c.args.words.now c.loop-at.from (c.loop-at.from + slice_index c.args.lengths.now c.loop-at.at) ≡ table_at c.args.words.now c.args.lengths.now c.loop-at.done =
    next_table c.args.words.now c.args.lengths.now c.loop-at.at c.loop-at.from so.from ∙ ap (table_at c.args.words.now c.args.lengths.now) (sym so.done) in (
      omega (arith, so.done, c.loop-at-test.true),
      record {
        fault = c.in-Err.fault;
        answer_is = c.from.ensures;
        before = c.loop-at.self;
        each = subst (λ n. TriedEach c.args.self.now n c.loop-at.self) (sym so.done) so.each;
        tried = c.in-Err.ensures.tried;
        from = so.same;
        grown = so.front;
        refused = subst (λ t. InsertFault c.loop-at.self c.try_insert.new.self t c.in-Err.fault) table c.in-Err.ensures.refused;
      },
    )

pub loop-at-preserved : goal.loop-at-preserved
loop-at-preserved c =
    let so = c.loop-at.invariant in
    let table = next_table c.args.words.now c.args.lengths.now c.loop-at.at c.loop-at.from so.from in
    let more = sum_more c.args.lengths.now c.loop-at.at (slice_index c.args.lengths.now c.loop-at.at) c.loop-at-test.true refl in
    let room : c.loop-at.at < length c.loop-at.numbers = omega (arith, so.room, c.loop-at-test.true) in
    record {
      same = c.in-Ok.ensures.same ∙ so.same;
      front = prefix_trans (front_of c.args.self.now) (front_of c.loop-at.self) (front_of c.try_insert.new.self) so.front c.in-Ok.ensures.front;
      from = omega (arith, so.from, more);
      done = refl;
      room = omega (arith, so.room, length-set c.loop-at.numbers c.loop-at.at c.in-Ok.number);
      each = each_more c.args.self.now c.loop-at.self c.try_insert.new.self c.loop-at.at c.in-Ok.number so.each c.in-Ok.ensures.tried;
      numbered = numbered_more (front_of c.loop-at.self) (front_of c.try_insert.new.self) c.args.words.now c.args.lengths.now c.loop-at.numbers c.loop-at.at c.in-Ok.number c.in-Ok.ensures.front so.numbered room
          (subst (λ t. IsNumber (front_of c.try_insert.new.self) t c.in-Ok.number) table c.in-Ok.ensures.number);
    }
