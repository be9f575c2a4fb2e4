use Rattle.std.proofs.Common.{◌≡◌, ◌++◌, ◌+◌, ◌<◌, ℕ, length, slice_index_or}
use Rattle.std.specs.Vec.Iter.{into_iter_items}
use Rattle.stabby_registry.specs.Passes.{IsPassOf, GoesOn, front_of, weight_of, commits_of}
use Rattle.stabby_registry.specs.Work.{share_of, IsDone, AreJoined, HaveOutcome}
use Rattle.stabby_registry.proofs.worker.number_shares.Given as goal

abbrev pub invariant-loop-job : goal.invariant-loop-job
invariant-loop-job g l = (goal.iterator-loop-job g).can_next l.job-iterator
    × (goal.iterator-loop-job g).is_finite l.job-iterator
    × record {
      order : l.yielded ++ into_iter_items l.job-iterator ≡ into_iter_items l.initial.job-iterator;
      done : (i : ℕ) (d : _) → i < length (into_iter_items l.initial.job-iterator) → IsDone l.registry (share_of l.tables l.size i) (slice_index_or (into_iter_items l.initial.job-iterator) i d);
      own : IsPassOf l.registry l.pass;
      weight : weight_of l.pass ≡ weight_of l.initial.pass + length l.yielded;
      goes_on : GoesOn l.initial.pass l.pass;
      joined : AreJoined (front_of l.initial.pass) (commits_of l.initial.pass) l.pass l.tables l.size (length l.yielded);
      outcome : HaveOutcome (commits_of l.initial.pass) l.pass l.tables l.size (length l.yielded) l.numbered;
    }
