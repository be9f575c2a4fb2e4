use Rattle.std.proofs.Common.{arith}
use Rattle.stabby_record.proofs.Bounds.{step_room}
use Rattle.record_show.proofs.Falls.{step_falls, rest_fits}
use Rattle.record_show.proofs.text.+put_fields.Goals as goal

pub overflow_add-next : goal.overflow_add-next
overflow_add-next t c =
    let r = step_room c.args.fields.now c.field-item.result c.layout-layout.result c.args.at c.in-len1-up.len_at_least c.field-item.is c.layout-layout.ensures.value in
    let a = r.0 in let b = r.1 in
    let n = c.next_start-start.ensures in
    omega arith

pub put_fields-requires-in-Record-2 : goal.put_fields-requires-in-Record-2
put_fields-requires-in-Record-2 t c =
    let r = step_room c.args.fields.now c.field-item.result c.layout-layout.result c.args.at c.in-len1-up.len_at_least c.field-item.is c.layout-layout.ensures.value in
    let a = r.0 in let b = r.1 in
    let n = c.next_start-start.ensures in
    let f = step_falls c.args.fields.now c.field-item.result c.in-len1-up.len_at_least c.field-item.is in
    let d = c.decreases in
    let fit = rest_fits c.args.fields.now c.args.values.now c.in-len1-up.len_at_least c.in-len1-up-values.len_at_least c.requires.fits in
    (omega arith, (fit, (omega arith, (omega arith, omega arith))))
