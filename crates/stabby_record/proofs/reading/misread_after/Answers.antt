use Rattle.std.proofs.Common.{arith}
use Rattle.stabby_record.proofs.Bounds.{few_places}
use Rattle.stabby_record.proofs.reading.misread_after.Goals as goal

pub end_of-end-requires : goal.end_of-end-requires
end_of-end-requires c =
    let p = few_places c.args.schema.now c.fields-fields.ensures.within in
    rw c.fields-fields.ensures.fields (omega arith)

pub first_misfilled-requires-clause-room : goal.first_misfilled-requires-clause-room
first_misfilled-requires-clause-room c =
    let p = few_places c.args.schema.now c.fields-fields.ensures.within in
    rw c.fields-fields.ensures.fields (omega arith)
