use Rattle.std.proofs.Common.{true, subst}
use Rattle.stabby_count.specs.Shared.{arc_record}
use Rattle.stabby_count.specs.Records.{ReadsAlone}
use Rattle.stabby_dyn_uses.proofs.one_thread.put_where_alone.Goals as goal

pub returns-in-Some-clause-read : goal.returns-in-Some-clause-read
returns-in-Some-clause-read g c =
    let lent = c.try_as_mut.follows.holds c.put_in.new.slot _ c.in-Some.is in
    subst (λ handle. ReadsAlone (arc_record handle) (arc_record (c.try_as_mut.follows.lender c.put_in.new.slot)) true) c.ptr_mut.ensures.value lent.1.0
