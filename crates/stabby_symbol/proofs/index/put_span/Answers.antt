use Rattle.std.proofs.Common.{◌∙◌, ◌++◌, ◌∷◌, [], sym, ap, rules}
use Rattle.std.specs.Option.{option_copied_mut}
use Rattle.stabby_symbol.specs.Index.{IndexedWordValue}
use Rattle.stabby_symbol.proofs.Indexing.{put_behind, put_new}
use Rattle.stabby_symbol.proofs.index.put_span.Goals as goal

pub returns-in_ok-push-in-Some-clause-ok : goal.returns-in_ok-push-in-Some-clause-ok
returns-in_ok-push-in-Some-clause-ok c = λ q.
    let t = c.found.view_is in
    let w : IndexedWordValue = record { text = c.found.inside.text; symbol = c.found.inside.symbol; spans = c.push.new.self.items } in
    put_behind c.args.word c.args.symbol c.args.span c.args.words.now (c.get_mut.follows.lender w) w ((c.get_mut.follows.holds w).3 (search rules)) q c.in-Some.found.now
    (sym c.get_mut.ensures.value ∙ ap option_copied_mut c.in-Some.is)
    (λ i. record { text = (t i).text; symbol = (t i).symbol; spans = (c.in_ok-push-in-Some.ensures.items ∙ (λ j. (t j).spans ++ c.args.span ∷ [])) i })

pub returns-in_ok-insert-in-None-clause-ok : goal.returns-in_ok-insert-in-None-clause-ok
returns-in_ok-insert-in-None-clause-ok c = λ q.
    put_new c.args.word c.args.symbol c.args.span c.args.words.now c.get_mut.follows.lender-at-none c.insert.new.self c.in_ok-found-in-None.found
    c.in_ok-insert-in-None.ensures.updates q c.get_mut.follows.holds-at-none
    (sym c.get_mut.ensures.value ∙ ap option_copied_mut c.in-None.is) c.in_ok-found-in-None.ensures.ok
