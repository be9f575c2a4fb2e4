use Rattle.std.proofs.Common.{arith}
use Rattle.stabby_record.proofs.Bounds.{few_places}
use Rattle.record_show.proofs.text.make_text.Goals as goal

pub put_fields-requires-clause-shallow : goal.put_fields-requires-clause-shallow
put_fields-requires-clause-shallow c =
    let p = few_places c.args.schema.now c.fields-fields.ensures.within in
    rw c.fields-fields.ensures.fields (omega arith)

pub put_fields-requires-clause-room : goal.put_fields-requires-clause-room
put_fields-requires-clause-room c =
    let p = few_places c.args.schema.now c.fields-fields.ensures.within in
    rw c.fields-fields.ensures.fields (omega arith)

pub put_fields-requires-clause-far : goal.put_fields-requires-clause-far
put_fields-requires-clause-far c =
    let p = few_places c.args.schema.now c.fields-fields.ensures.within in
    rw c.fields-fields.ensures.fields (omega arith)
