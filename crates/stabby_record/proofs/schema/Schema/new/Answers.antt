use Rattle.std.proofs.Common.{◌+◌, length, ap, arith}
use Rattle.std.specs.Str.{IsUtf8}
use Rattle.stabby_record.specs.Limits.{AreFields, AreTexts}
use Rattle.stabby_record.specs.Read.{fields_of}
use Rattle.stabby_record.proofs.Bounds.{made_is_schema, few_places}
use Rattle.stabby_record.proofs.schema.Schema.new.Goals as goal

pub layout_of-layout-requires : goal.layout_of-layout-requires
layout_of-layout-requires c =
    let fs = c.args.fields.items in
    let f : AreFields (fields_of fs) = rw c.as_slice-2.ensures.value at c.depth_of-depth.ensures.within in
    let t : AreTexts (fields_of fs) = rw c.as_slice-2.ensures.value at c.depth_of-depth.ensures.texts in
    let u : IsUtf8 c.args.name = rw c.as_str.ensures at c.as_str.utf8 in
    let d = rw c.as_slice-2.ensures.value at c.depth_of-depth.ensures.value in
    let l = rw c.as_slice-3.ensures.value at c.leaves_of-leaves.ensures.value in
    let n = ap length c.as_str.ensures in
    let s = made_is_schema c.args.name c.args.id fs (omega arith) u (omega arith) (omega arith) (omega arith) f t (omega arith) (omega arith) in
    let p = few_places (record { name = c.args.name; id = c.args.id; fields = fields_of fs }) s in
    rw c.as_slice-4.ensures.value (omega arith)

pub invariant_of-result : goal.invariant_of-result
invariant_of-result c =
    let fs = c.args.fields.items in
    let f : AreFields (fields_of fs) = rw c.as_slice-2.ensures.value at c.depth_of-depth.ensures.within in
    let t : AreTexts (fields_of fs) = rw c.as_slice-2.ensures.value at c.depth_of-depth.ensures.texts in
    let u : IsUtf8 c.args.name = rw c.as_str.ensures at c.as_str.utf8 in
    let d = rw c.as_slice-2.ensures.value at c.depth_of-depth.ensures.value in
    let l = rw c.as_slice-3.ensures.value at c.leaves_of-leaves.ensures.value in
    let n = ap length c.as_str.ensures in
    record {
      leaves_is = l;
      depth_is = ap (λ k. 1 + k) d;
      layout_is = rw c.as_slice-4.ensures.value at c.layout_of-layout.ensures;
      within = made_is_schema c.args.name c.args.id fs (omega arith) u (omega arith) (omega arith) (omega arith) f t (omega arith) (omega arith);
    }
