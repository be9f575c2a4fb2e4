use Rattle.std.proofs.Common.{◌≡◌, ◌+◌, ◌-◌, length, take, drop, arith, rules}
use Rattle.stabby_record.proofs.Steps.{step_reach, step_nested, step_plain, behind, ahead_nothing, no_fields, if_ok_to}
use Rattle.stabby_record.specs.Values.{record_then, number_then}
use Rattle.stabby_record.specs.Read.{fields_of}
use Rattle.stabby_record.specs.Reading.{decoded, IsPlain}
use Rattle.stabby_record.specs.declared.value.Value.TheVariants.{Number, Record}
use Rattle.stabby_record.proofs.reading.+take_values.Goals as goal

pub split_at-requires : goal.split_at-requires
split_at-requires t c =
    let r = step_reach c.args.fields.now c.field-item.result c.layout-layout.result c.args.at c.in-len1-up.len_at_least c.field-item.is c.layout-layout.ensures.value in
    let a = r.0 in let b = r.1 in
    omega arith

pub split_at-requires-2 : goal.split_at-requires-2
split_at-requires-2 t c =
    let r = step_reach c.args.fields.now c.field-item.result c.layout-layout.result c.args.at c.in-len1-up.len_at_least c.field-item.is c.layout-layout.ensures.value in
    let a = r.0 in let b = r.1 in
    omega arith

pub returns-in_default-clause-ok : goal.returns-in_default-clause-ok
returns-in_default-clause-ok t c = no_fields c.args.fields.now c.args.out.now.items c.args.bytes.now c.args.at c.in_default.len_below

pub returns-in-Record-clause-ok : goal.returns-in-Record-clause-ok
returns-in-Record-clause-ok t c =
    let fs = c.args.fields.now in
    let rest = fields_of (take (length fs - 1) (drop 1 fs)) in
    let after = decoded rest c.split_at-2.result.1.now (c.next_start-start.result + c.layout-layout.result.size) in
    let dec = step_nested fs c.field-item.result c.layout-layout.result c.in-Record.schema c.args.bytes.now c.args.at c.in-len1-up.len_at_least c.field-item.is c.layout-layout.ensures.value c.in-Record.is in
    let none = ahead_nothing c.in_ok-values.values.items (decoded (fields_of c.fields-inner.result.now) c.split_at-in-Record.result.0.now 0) c.in_ok-values.ensures.items in
    let inner = c.in_ok-take_values.ensures.ok in
    let e : decoded (fields_of fs) c.args.bytes.now c.args.at ≡ record_then c.new.result after = cc (inner, none, dec) in
    let b = behind c.args.out.now.items (Record c.new.result) c.push.new.self.items after (decoded (fields_of fs) c.args.bytes.now c.args.at) c.in_ok-push.ensures.items e in
    if_ok_to c.take_values-in-Record.result _ _ _ b c.take_values-in-Record.ensures.ok

pub returns : goal.returns
returns t c =
    let fs = c.args.fields.now in
    let rest = fields_of (take (length fs - 1) (drop 1 fs)) in
    let after = decoded rest c.split_at-2.result.1.now (c.next_start-start.result + c.layout-layout.result.size) in
    let plain : IsPlain c.field-item.result.kind = search rules in
    let dec = step_plain fs c.field-item.result c.layout-layout.result c.args.bytes.now c.args.at c.in-len1-up.len_at_least c.field-item.is c.layout-layout.ensures.value plain in
    let e : decoded (fields_of fs) c.args.bytes.now c.args.at ≡ number_then c.number_in.result after = cc (dec) in
    let b = behind c.args.out.now.items (Number c.number_in.result) c.push-2.new.self.items after (decoded (fields_of fs) c.args.bytes.now c.args.at) c.in_ok-push-2.ensures.items e in
    record { ok = if_ok_to c.take_values-2.result _ _ _ b c.take_values-2.ensures.ok; memory = c.take_values-2.ensures.memory }
