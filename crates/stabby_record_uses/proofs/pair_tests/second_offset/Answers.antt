use Rattle.std.proofs.Common.{arith, ap}
use Rattle.stabby_record.specs.Shape.{count}
use Rattle.stabby_record.proofs.Counts.{count_fields}
use Rattle.stabby_record_uses.proofs.pair_tests.second_offset.Goals as goal

pub offset-requires : goal.offset-requires
offset-requires c = let n = count_fields c.fields.result.now in let e = ap count c.fields.ensures.fields in omega arith
