use Rattle.std.proofs.Common.{◌≡◌, ◌∷◌, ◌<◌, ◌^◌, ℕ, drop, get_or, slice_index, arith, take, length, ◌-◌}
use Rattle.stabby_symbol.proofs.PackedTexts.{first_and_rest, unpacked_table, text_back}
use Rattle.stabby_symbol.proofs.unpacking.unpack_words.Goals as goal

pub returns-clause-ok : goal.returns-clause-ok
returns-clause-ok c =
    let words = c.args.words.now in
    let rest = take (length words - 1) (drop 1 words) in
    let e : words ≡ get_or words 0 0 ∷ rest = first_and_rest words c.in-len1-up.len_at_least in
    let small : (i : ℕ) → slice_index words i < 2 ^ 64 = λ i. let fits = c.type_inv.words i in omega arith in
    unpacked_table words (get_or words 0 0) rest c.text_in.result e small c.text_in.ensures.cause c.text_in.ensures.ok

pub returns-clause-complete : goal.returns-clause-complete
returns-clause-complete c =
    let words = c.args.words.now in
    let rest = take (length words - 1) (drop 1 words) in
    let e : words ≡ get_or words 0 0 ∷ rest = first_and_rest words c.in-len1-up.len_at_least in
    let small : (i : ℕ) → slice_index words i < 2 ^ 64 = λ i. let fits = c.type_inv.words i in omega arith in
    text_back words (get_or words 0 0) rest c.text_in.result e small c.text_in.ensures.cause c.text_in.ensures.ok
