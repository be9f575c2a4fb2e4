use Rattle.std.proofs.Common.{◌≡◌, ◌∙◌, ◌++◌}
use Rattle.std.specs.Fmt.{decimal}
use Rattle.std.proofs.lemmas.Result.{err_from_is_err_and}
use Rattle.stabby_intern.proofs.Telling.{first_part, second_part, third_part, all_parts}
use Rattle.stabby_lines.proofs.telling.write_number.Goals as goal

pub returns-in_err-write_all-clause-part : goal.returns-in_err-write_all-clause-part
returns-in_err-write_all-clause-part g c =
    let p = err_from_is_err_and c.from_residual.result c.from_residual.ensures.1 in
    rw p.1 (first_part _ _ c.args.words.now (decimal c.args.number ++ c.args.rest.now) c.in_err-write_all.ensures.part)

pub returns-in_err-write_all-2-clause-part : goal.returns-in_err-write_all-2-clause-part
returns-in_err-write_all-2-clause-part g c =
    let p = err_from_is_err_and c.from_residual-in_err-write_all-2.result c.from_residual-in_err-write_all-2.ensures.1 in
    let text : c.as_bytes.result.now ≡ decimal c.args.number = c.as_bytes.ensures.value ∙ c.format.ensures.text in
    rw p.1 (second_part _ _ _ c.args.words.now (decimal c.args.number) c.args.rest.now c.in_ok-write_all.ensures.ok (rw text at c.in_err-write_all-2.ensures.part))

pub returns-clause-ok : goal.returns-clause-ok
returns-clause-ok g c =
    let text : c.as_bytes.result.now ≡ decimal c.args.number = c.as_bytes.ensures.value ∙ c.format.ensures.text in
    all_parts c.write_all-3.result _ _ _ _ c.args.words.now (decimal c.args.number) c.args.rest.now c.in_ok-write_all.ensures.ok (rw text at c.in_ok-write_all-2.ensures.ok) c.write_all-3.ensures.ok

pub returns-clause-part : goal.returns-clause-part
returns-clause-part g c =
    let text : c.as_bytes.result.now ≡ decimal c.args.number = c.as_bytes.ensures.value ∙ c.format.ensures.text in
    third_part c.write_all-3.result _ _ _ _ c.args.words.now (decimal c.args.number) c.args.rest.now c.in_ok-write_all.ensures.ok (rw text at c.in_ok-write_all-2.ensures.ok) c.write_all-3.ensures.part
