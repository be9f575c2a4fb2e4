use Rattle.stabby_symbol.specs.Laws.{TextsAgree}
use Rattle.stabby_symbol.specs.Symbols.{IsText}
use Rattle.stabby_registry.specs.Passes.{front_of}
use Rattle.stabby_symbol_uses.proofs.reading.numbers_of.Goals as goal

pub returns-clause-agree : goal.returns-clause-agree
returns-clause-agree g c = λ both p q once.
    let a : IsText (front_of c.intern_text.new.pass) c.args.one.now c.in_ok-first.first = record { utf8 = c.utf8.one; number = c.in_ok-first.ensures.number } in
    let b : IsText (front_of c.intern_text-2.new.pass) c.args.other.now c.in_ok-second.second = record { utf8 = c.utf8.other; number = c.in_ok-second.ensures.number } in
    TextsAgree.numbers c.texts_agree.ensures (front_of c.intern_text.new.pass) (front_of c.intern_text-2.new.pass) both c.args.one.now c.args.other.now
    c.in_ok-first.first c.in_ok-second.second p q once a b
