use Rattle.stabby_symbol.specs.Laws.{TextsAgree}
use Rattle.stabby_symbol.specs.Symbols.{IsText}
use Rattle.stabby_registry.specs.Passes.{GoesOn, front_of}
use Rattle.stabby_registry.proofs.GoingOn.{goes_on_looked}
use Rattle.stabby_symbol_uses.proofs.reading.read_back.Goals as goal

pub unreachable-requires-in_default : goal.unreachable-requires-in_default
unreachable-requires-in_default g c =
    let before = front_of c.intern_text.new.pass in
    let after = front_of c.text_of.new.pass in
    let longer = GoesOn.front (goes_on_looked c.intern_text.new.pass c.text_of.new.pass c.text_of.ensures.looked) in
    let given : IsText before c.args.text.now c.in_ok-number.number = record { utf8 = c.utf8.text; number = c.in_ok-number.ensures.number } in
    let memory = TextsAgree.no_fault c.texts_agree.ensures before after c.args.text.now c.in_ok-number.number c.in-Err.fault longer given c.in-Err.ensures.fault in
    c.in_default.not-Memory memory
