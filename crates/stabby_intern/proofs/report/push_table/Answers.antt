use Rattle.std.proofs.Common.{arith, ◌∙◌, ap, ◌++◌, append_assoc, List, ℕ, sym}
use Rattle.std.proofs.lemmas.Bool.Decides.{nat_tests}
use Rattle.stabby_intern.proofs.Reporting.{spelled_step}
use Rattle.stabby_intern.proofs.report.push_table.Goals as goal

pub loop-word-preserved : goal.loop-word-preserved
loop-word-preserved c = record {
  told = c.in_ok-push_word.ensures.word ∙ rw (c.loop-word.invariant.told, append_assoc) (ap (λ (l : List ℕ). c.args.report.now.items ++ l) (sym (spelled_step c.words-word-items.result.now c.loop-word.word-index c.loop-word.between c.loop-word-test.true c.loop-word.invariant.begun)));
  begun = grind (arith, nat_tests);
}
