use Rattle.std.proofs.Common.{◌-◌, arith}
use Rattle.std.proofs.lemmas.Result.{err_from_is_err_and}
use Rattle.stabby_record.proofs.Begun.{spelled_whole}
use Rattle.stabby_record.proofs.Unread.{no_fields_by_name, no_fields_by_kind, no_fields_by_rest, one_more_field, if_ok_map, no_spelling_by_id, no_spelling_by_count, no_spelling_by_fields, no_spelling_by_fault, same_error}
use Rattle.stabby_record.proofs.describing.+describe.Goals as goal

pub take_fields-returns-in_err-name-clause-not_record : goal.take_fields-returns-in_err-name-clause-not_record
take_fields-returns-in_err-name-clause-not_record t c =
    let p = err_from_is_err_and c.from_residual.result c.from_residual.ensures.1 in
    rw (p.1, p.2) (λ q. no_fields_by_name c.args.bytes.now c.args.count c.args.depth c.requires.near (omega arith) (c.in_err-name.ensures.not_record (same_error _ _ q)))

pub take_fields-returns-in_err-kind-clause-not_record : goal.take_fields-returns-in_err-kind-clause-not_record
take_fields-returns-in_err-kind-clause-not_record t c =
    let p = err_from_is_err_and c.from_residual-in_err-kind.result c.from_residual-in_err-kind.ensures.1 in
    rw (p.1, p.2) (λ q. no_fields_by_kind c.args.bytes.now c.in_ok-name.name c.in_ok-name.rest.now c.args.count c.args.depth c.requires.near (omega arith) c.in_ok-name.ensures.ok
    (c.in_err-kind.ensures.not_record (same_error _ _ q)))

pub take_fields-returns-clause-ok : goal.take_fields-returns-clause-ok
take_fields-returns-clause-ok t c =
    if_ok_map c.take_fields.result
    (λ rest h. one_more_field c.args.bytes.now c.in_ok-name.name c.in_ok-name.rest.now c.in_ok-kind.rest.now c.in_ok-kind.kind c.args.out.now.items c.push.new.self.items c.take_fields.new.out.items
    c.args.count (c.args.count - 1) rest.now c.in_ok-name.ensures.short (omega arith) c.in_ok-name.ensures.ok c.in_ok-kind.ensures.ok c.in_ok-kind.ensures.within
    c.in_ok-push.ensures.items (omega arith) h) c.take_fields.ensures.ok

pub take_fields-returns-clause-not_record : goal.take_fields-returns-clause-not_record
take_fields-returns-clause-not_record t c q =
    no_fields_by_rest c.args.bytes.now c.in_ok-name.name c.in_ok-name.rest.now c.in_ok-kind.rest.now c.in_ok-kind.kind c.args.count c.args.depth (c.args.count - 1) c.requires.near (omega arith)
    c.in_ok-name.ensures.ok c.in_ok-kind.ensures.ok c.in_ok-kind.ensures.within (omega arith) (c.take_fields.ensures.not_record q)

pub take_schema-returns-in_err-id-clause-not_record : goal.take_schema-returns-in_err-id-clause-not_record
take_schema-returns-in_err-id-clause-not_record t c =
    let p = err_from_is_err_and c.from_residual-in_err-id.result c.from_residual-in_err-id.ensures.1 in
    rw (p.1, p.2) (λ q. no_spelling_by_id c.args.bytes.now c.in_ok-name.name c.in_ok-name.rest.now c.args.depth c.in_ok-name.ensures.ok (c.in_err-id.ensures.not_record (same_error _ _ q)))

pub take_schema-returns-in_err-count-clause-not_record : goal.take_schema-returns-in_err-count-clause-not_record
take_schema-returns-in_err-count-clause-not_record t c =
    let p = err_from_is_err_and c.from_residual-in_err-count.result c.from_residual-in_err-count.ensures.1 in
    rw (p.1, p.2) (λ q. no_spelling_by_count c.args.bytes.now c.in_ok-name.name c.in_ok-name.rest.now c.in_ok-id.rest.now c.in_ok-id.id c.args.depth c.in_ok-id.ensures.range c.in_ok-name.ensures.ok c.in_ok-id.ensures.ok
    (c.in_err-count.ensures.not_record (same_error _ _ q)))

pub take_schema-returns-in_err-rest-clause-not_record : goal.take_schema-returns-in_err-rest-clause-not_record
take_schema-returns-in_err-rest-clause-not_record t c =
    let p = err_from_is_err_and c.from_residual-in_err-rest.result c.from_residual-in_err-rest.ensures.1 in
    rw (p.1, p.2) (λ q. no_spelling_by_fields c.args.bytes.now c.in_ok-name.name c.in_ok-name.rest.now c.in_ok-id.rest.now c.in_ok-count.rest.now c.in_ok-id.id c.in_ok-count.count c.args.depth c.in_ok-id.ensures.range
    c.in_ok-name.ensures.ok c.in_ok-id.ensures.ok c.in_ok-count.ensures.ok (c.in_err-rest.ensures.not_record (same_error _ _ q)))

pub take_schema-returns-clause-not_record : goal.take_schema-returns-clause-not_record
take_schema-returns-clause-not_record t c q =
    no_spelling_by_fault c.args.bytes.now c.in_ok-name.name c.in_ok-name.rest.now c.in_ok-id.rest.now c.in_ok-count.rest.now c.in_ok-rest.rest.now c.in_ok-id.id c.in_ok-count.count c.args.depth
    c.new-fields.result.items c.take_fields.new.out.items c.in-Err.field-0.2 c.in_ok-id.ensures.range
    c.in_ok-name.ensures.ok c.in_ok-id.ensures.ok c.in_ok-count.ensures.ok c.in_ok-rest.ensures.ok c.new-fields.ensures.items c.in-Err.ensures.cause

pub take_schema-returns-in-Ok-clause-ok : goal.take_schema-returns-in-Ok-clause-ok
take_schema-returns-in-Ok-clause-ok t c =
    spelled_whole c.args.bytes.now c.in_ok-name.rest.now c.in_ok-id.rest.now c.in_ok-count.rest.now c.in_ok-rest.rest.now c.in_ok-name.name c.in_ok-id.id c.in_ok-count.count
    c.new-fields.result.items c.take_fields.new.out.items c.in-Ok.schema
    c.in_ok-name.ensures.ok c.in_ok-id.ensures.ok c.in_ok-count.ensures.ok c.in_ok-rest.ensures.ok c.new-fields.ensures.items c.in-Ok.ensures.ok
