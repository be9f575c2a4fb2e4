use Rattle.std.proofs.Common.{◌∙◌, ℕ, List, ap, sym, subst}
use Rattle.std.specs.BTreeMap.{values}
use Rattle.stabby_tables.specs.Lists.{place}
use Rattle.stabby_registry.specs.Passes.{front_of}
use Rattle.stabby_symbol.specs.Packed.{packed}
use Rattle.stabby_symbol.specs.Words.{AreWordSpans}
use Rattle.stabby_symbol.specs.Index.{IsIndexOf, AppendsWords, tables_at}
use Rattle.stabby_symbol.specs.declared.words.Span.{Span}
use Rattle.stabby_symbol.proofs.Indexing.{all_are, index_is, if_values, on_ok, appends_words, words_known, words_numbered}
use Rattle.stabby_symbol.proofs.index.index_words.Goals as goal

pub tables_of-requires : goal.tables_of-requires
tables_of-requires g c =
    all_are c.as_bytes-bytes.result.now c.deref.result.now
    (subst (λ (s : List Span). AreWordSpans c.as_bytes-bytes.result.now s) (sym c.deref.ensures.value) c.in_ok-spans.ensures.spans)

pub by_word-requires-clause-words : goal.by_word-requires-clause-words
by_word-requires-clause-words g c =
    all_are c.as_bytes-bytes.result.now c.deref-3.result.now
    (subst (λ (s : List Span). AreWordSpans c.as_bytes-bytes.result.now s) (sym c.deref-3.ensures.value) c.in_ok-spans.ensures.spans)

pub returns-clause-index : goal.returns-clause-index
returns-clause-index g c =
    let bytes = c.as_bytes-bytes.result.now in
    let spans = c.deref-3.result.now in
    let front = front_of c.intern_all.new.pass in
    let are = subst (λ (s : List Span). AreWordSpans bytes s) (sym c.deref-3.ensures.value) c.in_ok-spans.ensures.spans in
    let tables = c.deref-2.ensures.value ∙ c.in_ok-tables.ensures.ok ∙ ap (λ (s : List Span). tables_at bytes s) (c.deref.ensures.value ∙ sym c.deref-3.ensures.value) in
    let same = c.as_bytes-bytes.ensures.value ∙ c.as_str.ensures in
    let numbers = c.numbers.ensures ∙ words_numbered c.args.workers (front_of c.args.pass.now) front c.args.source.now bytes same spans are c.deref-2.result.now tables c.in_ok-interned.interned.numbers c.in_ok-interned.ensures.numbers in
    let known = words_known c.args.workers (front_of c.args.pass.now) front c.args.source.now bytes same spans are c.deref-2.result.now tables c.in_ok-interned.ensures.front in
    let gives = c.in_ok-words.ensures.ok (λ (w : List ℕ). place front (packed w)) numbers in
    if_values c.in_order.result (IsIndexOf c.args.source.now front) _ c.in_order.ensures.ok
    (subst (λ (b : List ℕ). IsIndexOf b front (values c.in_ok-words.words)) same
    (index_is bytes front spans c.in_ok-words.words are c.in_order.ensures.ordered gives known))

pub returns-clause-front : goal.returns-clause-front
returns-clause-front g c =
    let bytes = c.as_bytes-bytes.result.now in
    let spans = c.deref-3.result.now in
    let front = front_of c.intern_all.new.pass in
    let are = subst (λ (s : List Span). AreWordSpans bytes s) (sym c.deref-3.ensures.value) c.in_ok-spans.ensures.spans in
    let tables = c.deref-2.ensures.value ∙ c.in_ok-tables.ensures.ok ∙ ap (λ (s : List Span). tables_at bytes s) (c.deref.ensures.value ∙ sym c.deref-3.ensures.value) in
    let same = c.as_bytes-bytes.ensures.value ∙ c.as_str.ensures in
    on_ok c.in_order.result (AppendsWords c.args.workers (front_of c.args.pass.now) c.args.source.now front)
    (appends_words c.args.workers (front_of c.args.pass.now) front c.args.source.now bytes same spans are c.deref-2.result.now tables
    c.in_ok-interned.interned.numbers c.in_ok-interned.ensures.numbers c.in_ok-interned.ensures.front c.in_ok-interned.ensures.first)
