use Rattle.std.proofs.Common.{refl, inl, rules}
use Rattle.record_show.proofs.Causes.{never_caused}
use Rattle.record_show.proofs.program.outcome.Goals as goal

pub returns-in-Err-Some-clause-comes : goal.returns-in-Err-Some-clause-comes
returns-in-Err-Some-clause-comes g c = record {
  ok = λ clean.
      let has = rw c.deref.ensures.value at (c.in-Err-Some.ensures.cause c.in-Err-Some.cause (cc)) in
      absurd (never_caused _ _ clean.bytes clean.text c.in-Ok.bytes.items c.in-Err-Some.cause clean.told clean.still_told c.in-Ok.ensures.bytes clean.shows has);
  usage = search rules;
  read_fault = search rules;
  write_fault = search rules;
}

pub returns-in-Ok-write_all-clause-comes : goal.returns-in-Ok-write_all-clause-comes
returns-in-Ok-write_all-clause-comes g c = record {
  ok = λ _. inl refl;
  usage = search rules;
  read_fault = search rules;
  write_fault = search rules;
}

pub returns-clause-comes : goal.returns-clause-comes
returns-clause-comes g c = record {
  ok = λ clean. absurd (clean.no_write_fault c.in-Err.ensures.failed);
  usage = search rules;
  read_fault = search rules;
  write_fault = search rules;
}
