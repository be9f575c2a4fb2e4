use Rattle.std.proofs.Common.{arith, ap}
use Rattle.stabby_record.specs.Shape.{count}
use Rattle.stabby_record.proofs.Counts.{count_fields}
use Rattle.stabby_record_uses.proofs.wrapped_tests.last_offsets.Goals as goal

pub offset-requires : goal.offset-requires
offset-requires c = let n = count_fields c.fields.result.now in let e = ap count c.fields.ensures.fields in omega arith

pub offset-requires-then-fields-eq3 : goal.offset-requires-then-fields-eq3
offset-requires-then-fields-eq3 c = let n = count_fields c.fields.result.now in let e = ap count c.fields.ensures.fields in omega arith
