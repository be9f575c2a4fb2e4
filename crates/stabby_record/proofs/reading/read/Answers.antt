use Rattle.std.proofs.Common.{◌≡◌, None, arith, length, take, drop, ◌∙◌, ap}
use Rattle.stabby_record.proofs.Bounds.{few_places, size_bounds}
use Rattle.stabby_record.proofs.Decoded.{read_whole, whole_length}
use Rattle.stabby_record.proofs.Again.{read_again, nothing_misread}
use Rattle.stabby_record.proofs.Steps.{ahead_nothing}
use Rattle.stabby_record.specs.Shape.{Fields}
use Rattle.stabby_record.specs.Layouts.{ends}
use Rattle.stabby_record.specs.Message.{head}
use Rattle.stabby_record.specs.Misread.{misread}
use Rattle.stabby_record.specs.Read.{fields_of}
use Rattle.stabby_record.specs.Reading.{decoded}
use Rattle.stabby_record.proofs.reading.read.Goals as goal

pub end_of-requires : goal.end_of-requires
end_of-requires c =
    let p = few_places c.args.schema.now c.fields-fields.ensures.within in
    rw c.fields-fields.ensures.fields (omega arith)

pub take_values-requires-clause-room : goal.take_values-requires-clause-room
take_values-requires-clause-room c =
    let p = few_places c.args.schema.now c.fields-fields.ensures.within in
    rw c.fields-fields.ensures.fields (omega arith)

pub split_at-requires-2 : goal.split_at-requires-2
split_at-requires-2 c =
    let s = c.args.schema.now in
    let lh : c.in_ok-begin.begin ≡ length (head s) = c.in_ok-begin.ensures.same.1 in
    let n : misread s c.args.bytes.now ≡ None = cc in
    let e : c.end_of.result ≡ ends s.fields 0 = c.end_of.ensures.value ∙ ap (λ (f : Fields). ends f 0) c.fields-fields.ensures.fields in
    let w = whole_length s c.args.bytes.now n in
    let b = size_bounds s.fields in
    let b0 = b.0 in
    let l = c.split_at.ensures.back_len in
    omega arith

pub returns-clause-ok : goal.returns-clause-ok
returns-clause-ok c =
    let s = c.args.schema.now in
    let lh : c.in_ok-begin.begin ≡ length (head s) = c.in_ok-begin.ensures.same.1 in
    let n : misread s c.args.bytes.now ≡ None = cc in
    let e : c.end_of.result ≡ ends s.fields 0 = c.end_of.ensures.value ∙ ap (λ (f : Fields). ends f 0) c.fields-fields.ensures.fields in
    let none = ahead_nothing c.in_ok-values.values.items (decoded (fields_of c.fields-fields.result.now) c.split_at-2.result.0.now 0) c.in_ok-values.ensures.items in
    let inner = c.in_ok-take_values.ensures.ok in
    let d : c.new.result ≡ decoded s.fields (take (ends s.fields 0) (drop (length (head s)) c.args.bytes.now)) 0 = cc (inner, none, lh, e) in
    read_whole s c.args.bytes.now c.new.result (λ i. omega (arith, c.type_inv.bytes i)) n d

pub returns-clause-complete : goal.returns-clause-complete
returns-clause-complete c =
    let s = c.args.schema.now in
    let lh : c.in_ok-begin.begin ≡ length (head s) = c.in_ok-begin.ensures.same.1 in
    let n : misread s c.args.bytes.now ≡ None = cc in
    let e : c.end_of.result ≡ ends s.fields 0 = c.end_of.ensures.value ∙ ap (λ (f : Fields). ends f 0) c.fields-fields.ensures.fields in
    let none = ahead_nothing c.in_ok-values.values.items (decoded (fields_of c.fields-fields.result.now) c.split_at-2.result.0.now 0) c.in_ok-values.ensures.items in
    let inner = c.in_ok-take_values.ensures.ok in
    let d : c.new.result ≡ decoded s.fields (take (ends s.fields 0) (drop (length (head s)) c.args.bytes.now)) 0 = cc (inner, none, lh, e) in
    read_again s c.args.bytes.now c.new.result d

pub returns-in-Some-clause-complete : goal.returns-in-Some-clause-complete
returns-in-Some-clause-complete c v fits is =
    let n = nothing_misread c.args.schema.now v c.args.bytes.now fits is in
    cc

pub returns-in_err-begin-clause-complete : goal.returns-in_err-begin-clause-complete
returns-in_err-begin-clause-complete c v fits is =
    let n = nothing_misread c.args.schema.now v c.args.bytes.now fits is in
    let m = c.in_err-begin.ensures.same in
    absurd cc
