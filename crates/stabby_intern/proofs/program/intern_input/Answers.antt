use Rattle.std.proofs.Common.{refl, inl, inr, ap, Err}
use Rattle.stabby_registry.proofs.GoingOn.{goes_on_same}
use Rattle.stabby_intern.proofs.Moved.{took_nothing}
use Rattle.stabby_intern.proofs.program.intern_input.Goals as goal

pub returns-in-Err-Memory-clause-says : goal.returns-in-Err-Memory-clause-says
returns-in-Err-Memory-clause-says g c words is = inl (record {
  command = (c.args.asked.task, c.args.asked.workers, is);
  nothing_written = took_nothing (g.K.Sink.taken c.args.out.now);
  some_added = inl c.requires.empty;
  no_read_failed = c.in-Err-Memory.ensures.kept (λ e. absurd (cc));
  no_write_failed = refl;
})

pub returns-in-Err-Failed-clause-says : goal.returns-in-Err-Failed-clause-says
returns-in-Err-Failed-clause-says g c words is = record {
  command = (c.args.asked.task, c.args.asked.workers, is);
  failed = c.in-Err-Failed.ensures.failed (ap Err c.in-Err-Failed.field-0-is);
  first = c.in-Err-Failed.ensures.failed_at (ap Err c.in-Err-Failed.field-0-is);
  untouched = refl;
  nothing_added = c.requires.empty;
  no_write_failed = refl;
}

pub returns-in-Err-TooLong-clause-says : goal.returns-in-Err-TooLong-clause-says
returns-in-Err-TooLong-clause-says g c words is = record {
  command = (c.args.asked.task, c.args.asked.workers, is);
  too_long = c.in-Err-TooLong.ensures.too_long (ap Err c.in-Err-TooLong.field-0-is);
  untouched = refl;
  nothing_added = c.requires.empty;
  no_read_failed = c.in-Err-TooLong.ensures.kept (λ e. absurd (cc));
  no_write_failed = refl;
}

pub returns-in-Err-Memory-report_of-clause-says : goal.returns-in-Err-Memory-report_of-clause-says
returns-in-Err-Memory-report_of-clause-says g c words is = inl (record {
  command = (c.args.asked.task, c.args.asked.workers, is);
  nothing_written = took_nothing (g.K.Sink.taken c.args.out.now);
  some_added = inr (c.in-Ok.text.items, c.in-Ok.ensures.bytes, rw c.deref.ensures.value at (c.in-Err-Memory-report_of.ensures.memory (ap Err c.in-Err-Memory-report_of.field-0-is)));
  no_read_failed = c.in-Ok.ensures.kept (λ e. absurd (cc));
  no_write_failed = refl;
})

pub returns-in-Err-BadWord-clause-says : goal.returns-in-Err-BadWord-clause-says
returns-in-Err-BadWord-clause-says g c words is =
    let bad = rw c.deref.ensures.value at (c.in-Err-BadWord.ensures.bad_word c.in-Err-BadWord.line (cc)) in
    record {
      command = (c.args.asked.task, c.args.asked.workers, is);
      bytes = c.in-Ok.text.items;
      read = c.in-Ok.ensures.bytes;
      bad = bad.0;
      nothing_written = took_nothing (g.K.Sink.taken c.args.out.now);
      nothing_added = bad.1;
      no_read_failed = c.in-Ok.ensures.kept (λ e. absurd (cc));
      no_write_failed = refl;
    }

pub returns-in-Err-Memory-clause-goes_on : goal.returns-in-Err-Memory-clause-goes_on
returns-in-Err-Memory-clause-goes_on g c = goes_on_same c.args.pass.now

pub returns-in-Err-Failed-clause-goes_on : goal.returns-in-Err-Failed-clause-goes_on
returns-in-Err-Failed-clause-goes_on g c = goes_on_same c.args.pass.now

pub returns-in-Err-TooLong-clause-goes_on : goal.returns-in-Err-TooLong-clause-goes_on
returns-in-Err-TooLong-clause-goes_on g c = goes_on_same c.args.pass.now
