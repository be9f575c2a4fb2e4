use Rattle.std.proofs.Common.{arith, ◌≡◌, ◌∙◌, ◌+◌, ◌++◌, ◌∷◌, [], length, length-append, append_assoc}
use Rattle.std.specs.Vec.Iter.{into_iter_items}
use Rattle.stabby_registry.specs.Passes.{Joined, front_of, commits_of}
use Rattle.stabby_registry.specs.Work.{IsDone}
use Rattle.stabby_registry.proofs.Joining.{done_at, joined_any, outcome_more}
use Rattle.stabby_registry.proofs.GoingOn.{goes_on_then, goes_on_joined}
use Rattle.stabby_registry.proofs.worker.number_shares.Goals as goal

pub loop-job-preserved : goal.loop-job-preserved
loop-job-preserved g c =
    let so = c.loop-job.invariant.2 in
    let steps : into_iter_items c.loop-job.job-iterator ≡ c.in-Some.job ∷ into_iter_items c.next.new.self = c.in-Some.ensures.steps.0 in
    let order : c.loop-job.yielded ++ c.in-Some.job ∷ into_iter_items c.next.new.self ≡ into_iter_items c.into_iter-job-iterator.result = rw steps at so.order in
    let done = done_at c.args.registry.now c.args.tables.now c.args.size (into_iter_items c.into_iter-job-iterator.result) c.loop-job.yielded c.in-Some.job (into_iter_items c.next.new.self) order so.done in
    let more : length (c.loop-job.yielded ++ c.in-Some.job ∷ []) ≡ length c.loop-job.yielded + 1 = length-append c.loop-job.yielded (c.in-Some.job ∷ []) in (
      tt,
      tt,
      record {
        order = append_assoc c.loop-job.yielded (c.in-Some.job ∷ []) _ ∙ order;
        done = so.done;
        own = c.join.ensures.pass;
        weight = omega (arith, Joined.weight c.join.ensures.joined, so.weight, IsDone.weight done, more);
        goes_on = goes_on_then _ _ _ so.goes_on (goes_on_joined _ _ _ c.join.ensures.joined c.join.ensures.first);
        joined = rw more (joined_any (front_of c.args.pass.now) (commits_of c.args.pass.now) c.loop-job.pass c.in-Some.job.pass c.join.new.pass c.args.tables.now c.args.size (length c.loop-job.yielded) c.in-Some.job.outcome
            so.joined (IsDone.outcome done) c.join.ensures.joined c.join.ensures.first c.join.ensures.second);
        outcome = rw more (outcome_more (commits_of c.args.pass.now) c.loop-job.pass c.in-Some.job.pass c.join.new.pass c.args.tables.now c.args.size (length c.loop-job.yielded) c.loop-job.numbered c.in-Some.job.outcome c.together-numbered.result
            so.outcome (IsDone.outcome done) c.join.ensures.joined c.join.ensures.first c.join.ensures.second c.together-numbered.ensures);
      },
    )
