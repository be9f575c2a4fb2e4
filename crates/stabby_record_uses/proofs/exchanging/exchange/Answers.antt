use Rattle.std.proofs.Common.{◌≡◌, ◌∙◌, sym, ap, subst}
use Rattle.stabby_record.specs.Shape.{Shape}
use Rattle.stabby_record.specs.Fits.{FitsSchema}
use Rattle.stabby_record.specs.Message.{message}
use Rattle.stabby_record_uses.proofs.Exchanged.{one_schema, IsOfBody, never_of_body}
use Rattle.stabby_record_uses.proofs.exchanging.exchange.Goals as goal

pub returns-in-Ok-clause-equal : goal.returns-in-Ok-clause-equal
returns-in-Ok-clause-equal c =
    let a = c.args.ours.now in
    let b = c.args.theirs.now in
    let v = c.args.value.now in
    let fits = c.in_ok-bytes.ensures.fits in
    let bytes : c.as_slice.result.now ≡ message a v = c.as_slice.ensures.value ∙ c.in_ok-bytes.ensures.ok in
    let r = c.in-Ok.ensures.ok in
    let same : a ≡ b = one_schema a b v c.in-Ok.found c.fields-ours.ensures.within c.fields-theirs.ensures.within fits r.0 (sym bytes ∙ r.1) in
    (sym same, c.in-Ok.ensures.complete v (subst (λ (s : Shape). FitsSchema s v) same fits) (bytes ∙ ap (λ (s : Shape). message s v) same))

pub unreachable-requires : goal.unreachable-requires
unreachable-requires c =
    never_of_body c.args.ours.now c.args.theirs.now c.args.value.now c.as_slice.result.now c.in-Err-Truncated.field-0
    c.fields-ours.ensures.within c.fields-theirs.ensures.within c.in_ok-bytes.ensures.fits (c.as_slice.ensures.value ∙ c.in_ok-bytes.ensures.ok)
    c.in-Err-Truncated.ensures.cause (subst IsOfBody (sym c.in-Err-Truncated.field-0-is) tt)

pub unreachable-requires-in-Err-Padding : goal.unreachable-requires-in-Err-Padding
unreachable-requires-in-Err-Padding c =
    never_of_body c.args.ours.now c.args.theirs.now c.args.value.now c.as_slice.result.now c.in-Err-Padding.field-0
    c.fields-ours.ensures.within c.fields-theirs.ensures.within c.in_ok-bytes.ensures.fits (c.as_slice.ensures.value ∙ c.in_ok-bytes.ensures.ok)
    c.in-Err-Padding.ensures.cause (subst IsOfBody (sym c.in-Err-Padding.field-0-is) tt)

pub unreachable-requires-in-Err-Trailing : goal.unreachable-requires-in-Err-Trailing
unreachable-requires-in-Err-Trailing c =
    never_of_body c.args.ours.now c.args.theirs.now c.args.value.now c.as_slice.result.now c.in-Err-Trailing.field-0
    c.fields-ours.ensures.within c.fields-theirs.ensures.within c.in_ok-bytes.ensures.fits (c.as_slice.ensures.value ∙ c.in_ok-bytes.ensures.ok)
    c.in-Err-Trailing.ensures.cause (subst IsOfBody (sym c.in-Err-Trailing.field-0-is) tt)
