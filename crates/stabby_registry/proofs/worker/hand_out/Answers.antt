use Rattle.std.proofs.Common.{rules, arith, ap, ◌∙◌, ◌+◌, length, length-append}
use Rattle.std.proofs.lemmas.List.Elements.{All-push}
use Rattle.stabby_registry.specs.Passes.{SplitOff}
use Rattle.stabby_registry.specs.Work.{IsReady}
use Rattle.stabby_registry.proofs.GoingOn.{goes_on_then, goes_on_split}
use Rattle.stabby_registry.proofs.worker.hand_out.Goals as goal

pub loop-preserved : goal.loop-preserved
loop-preserved c =
    let so = c.loop.invariant in
    let split = c.split-part.ensures.split in
    record {
      own = c.split-part.ensures.pass;
      weight = omega (arith, SplitOff.weight split, so.weight);
      front = SplitOff.front split ∙ so.front;
      commits = SplitOff.commits split ∙ so.commits;
      goes_on = goes_on_then _ _ _ so.goes_on (goes_on_split _ _ _ _ split);
      ready = rw c.push_reserved.ensures.items
          (All-push (IsReady c.args.registry.now) c.loop.jobs.items _ so.ready (record { own = c.split-part.ensures.new_pass; fresh = SplitOff.new_commits split; weight = SplitOff.new_weight split }));
      count = ap length c.push_reserved.ensures.items ∙ length-append c.loop.jobs.items _ ∙ ap (λ n. n + 1) so.count;
      below = search rules;
      room = c.push_reserved.ensures.capacity ∙ so.room;
    }
