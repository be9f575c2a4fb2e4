use Rattle.std.proofs.Common.{◌∙◌, ℕ, List, sym, ap, inr, length, arith, take, drop}
use Rattle.stabby_symbol.proofs.PackedTexts.{text_within, no_fault, no_text}
use Rattle.stabby_symbol.proofs.unpacking.text_in.Goals as goal

pub split_at-requires : goal.split_at-requires
split_at-requires c =
    let within = text_within c.args.stated c.args.words.now (c.if-words-div_ceil.false ∙ c.div_ceil.ensures) in
    let b = ap length (c.as_slice.ensures.value ∙ c.in_ok-bytes.ensures) in
    omega arith

pub returns-in-Ok-clause-cause : goal.returns-in-Ok-clause-cause
returns-in-Ok-clause-cause c =
    let b = c.as_slice.ensures.value ∙ c.in_ok-bytes.ensures in
    no_fault c.args.stated c.args.words.now c.split_at.result.0.now c.split_at.result.1.now (c.if-words-div_ceil.false ∙ c.div_ceil.ensures)
    (c.split_at.ensures.back ∙ ap (λ (l : List ℕ). drop c.args.stated l) b) (sym c.all_zero.ensures ∙ c.if-not-all_zero.false)
    (c.split_at.ensures.front ∙ ap (λ (l : List ℕ). take c.args.stated l) b) c.in-Ok.ensures.cases.1

pub returns-clause-cause : goal.returns-clause-cause
returns-clause-cause c =
    let b = c.as_slice.ensures.value ∙ c.in_ok-bytes.ensures in
    inr (no_text c.args.stated c.args.words.now c.split_at.result.0.now c.split_at.result.1.now (c.if-words-div_ceil.false ∙ c.div_ceil.ensures)
    (c.split_at.ensures.back ∙ ap (λ (l : List ℕ). drop c.args.stated l) b) (sym c.all_zero.ensures ∙ c.if-not-all_zero.false)
    (c.split_at.ensures.front ∙ ap (λ (l : List ℕ). take c.args.stated l) b) c.in-Err.ensures.cases.0)
