use Rattle.std.proofs.Common.{◌≡◌, ◌∷◌, [], map, string_bytes, subst, refl, arith}
use Rattle.stabby_intern.specs.Commands.{IsCommand, IsGeneration}
use Rattle.stabby_intern.proofs.Moved.{two_items}
use Rattle.stabby_intern.proofs.Asked.{four_items, two_words, four_words}
use Rattle.stabby_intern.proofs.command.parse_command.Goals as goal

pub returns-in_err-interning-in-len2-clause-none : goal.returns-in_err-interning-in-len2-clause-none
returns-in_err-interning-in-len2-clause-none c none =
    let two = two_items c.args.words.now c.name-item.result c.workers-item.result (omega arith) (omega arith) c.name-item.is c.workers-item.is in
    let words : map string_bytes c.args.words.now ≡ c.as_str.result.now ∷ c.as_str-in-len2.result.now ∷ [] = rw (two, c.as_str.ensures.value, c.as_str-in-len2.ensures.value) refl in
    record {
      no_interning = λ task number is. c.in_err-interning-in-len2.ensures.none refl task number (subst (λ l. IsCommand l task number) words is);
      no_generation = λ count by number is. two_words _ _ count by number (subst (λ l. IsGeneration l count by number) words is);
    }

pub returns-in_err-generation-in-len4-clause-none : goal.returns-in_err-generation-in-len4-clause-none
returns-in_err-generation-in-len4-clause-none c none =
    let four = four_items c.args.words.now c.name-item-then-words-lt5.result c.tables-item.result c.divisor-item.result c.workers-item-then-words-lt5.result (omega arith) (omega arith)
    c.name-item-then-words-lt5.is c.tables-item.is c.divisor-item.is c.workers-item-then-words-lt5.is in
    let words : map string_bytes c.args.words.now ≡ c.as_str-in-len4.result.now ∷ c.as_str-in-len4-2.result.now ∷ c.as_str-in-len4-3.result.now ∷ c.as_str-in-len4-4.result.now ∷ []
    = rw (four, c.as_str-in-len4.ensures.value, c.as_str-in-len4-2.ensures.value, c.as_str-in-len4-3.ensures.value, c.as_str-in-len4-4.ensures.value) refl in
    record {
      no_interning = λ task number is. four_words _ _ _ _ task number (subst (λ l. IsCommand l task number) words is);
      no_generation = λ count by number is. c.in_err-generation-in-len4.ensures.none refl count by number (subst (λ l. IsGeneration l count by number) words is);
    }
