use Rattle.std.proofs.Common.{◌∙◌, ap, sym, if◌then◌else◌, Some, get_or}
use Rattle.std.specs.Str.{bytes_eq}
use Rattle.stabby_symbol.specs.Index.{with_span}
use Rattle.stabby_symbol.specs.declared.words.Span.{Span}
use Rattle.stabby_symbol.proofs.Indexing.{entry_step, number_at}
use Rattle.stabby_symbol.proofs.index.by_word.Goals as goal

pub loop-place-preserved : goal.loop-place-preserved
loop-place-preserved c = λ number e q.
    let word = c.word_at.result.now in
    let spans = c.args.spans.now in
    let i = c.loop-place.place in
    let d : Span = record { from = 0; to = 0 } in
    let h = c.loop-place.invariant number e in
    let n = number_at number c.args.source.now spans c.args.numbers.now i d c.loop-place-test.true e ∙ ap number (sym c.word_at.ensures) in
    c.in_ok-put_span.ensures.ok q
    ∙ (λ j. if bytes_eq word q then Some (with_span (h word j) word (n j) (get_or spans i d)) else h q j)
    ∙ entry_step number c.args.source.now spans i d c.loop-place-test.true word c.word_at.ensures q
