use Rattle.std.proofs.Common.{◌≡◌, ◌∷◌, [], map, string_bytes, subst, refl, arith}
use Rattle.stabby_intern.proofs.Moved.{two_items}
use Rattle.word_index.specs.Commands.{IsCommand}
use Rattle.word_index.proofs.command.parse_command.Goals as goal

pub returns-in-len2-clause-none : goal.returns-in-len2-clause-none
returns-in-len2-clause-none c none =
    let two = two_items c.args.words.now c.name-item.result c.workers-item.result (omega arith) (omega arith) c.name-item.is c.workers-item.is in
    let words : map string_bytes c.args.words.now ≡ c.as_str.result.now ∷ c.as_str-in-len2.result.now ∷ [] = rw (two, c.as_str.ensures.value, c.as_str-in-len2.ensures.value) refl in
    λ task workers is. c.parse_pair.ensures.none none task workers (subst (λ l. IsCommand l task workers) words is)
