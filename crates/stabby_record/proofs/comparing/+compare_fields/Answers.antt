use Rattle.std.proofs.Common.{[], ◌∷◌, ◌++◌, Some, None, Err, rules, ap}
use Rattle.std.proofs.lemmas.Result.{err_from_is_err_and}
use Rattle.stabby_record.specs.Shape.{count}
use Rattle.stabby_record.specs.Message.{name_bytes, start, spelled}
use Rattle.stabby_record.specs.Read.{fields_of}
use Rattle.stabby_record.specs.Kinds.{kind_code, kind_spelled}
use Rattle.stabby_record.specs.Reading.{IsPlain}
use Rattle.stabby_record.proofs.Heads.{then_compared, stopped, by_pieces, by_number, by_record, Tail, with_piece, with_length}
use Rattle.stabby_record.proofs.comparing.+compare_fields.Goals as goal

pub returns-in_err-at : goal.returns-in_err-at
returns-in_err-at t c =
    let fs = c.args.fields.now in
    let f = c.field-item.result in
    let bytes = c.args.bytes.now in
    let tail = Tail fs in
    let p = err_from_is_err_and c.from_residual.result c.from_residual.ensures.1 in
    rw (p.1, p.2) (by_pieces (Err c.in_err-at.field-0.0) fs f bytes c.args.at c.in-len1-up.len_at_least c.field-item.is
    (stopped (name_bytes f.name) ((kind_code f.kind ∷ []) ++ (kind_spelled f.kind ++ spelled tail)) bytes c.args.at c.in_err-at.field-0.0 c.in_err-at.ensures))

pub returns-in_err-at-2 : goal.returns-in_err-at-2
returns-in_err-at-2 t c =
    let fs = c.args.fields.now in
    let f = c.field-item.result in
    let bytes = c.args.bytes.now in
    let tail = Tail fs in
    let h = with_piece (c.code.result ∷ []) (kind_code f.kind ∷ []) bytes c.in_ok-at.at (Some c.in_err-at-2.field-0.0) (λ i. c.code.ensures i ∷ []) c.in_err-at-2.ensures in
    let p = err_from_is_err_and c.from_residual-in_err-at-2.result c.from_residual-in_err-at-2.ensures.1 in
    rw (p.1, p.2) (by_pieces (Err c.in_err-at-2.field-0.0) fs f bytes c.args.at c.in-len1-up.len_at_least c.field-item.is
    (then_compared (Err c.in_err-at-2.field-0.0) (name_bytes f.name) ((kind_code f.kind ∷ []) ++ (kind_spelled f.kind ++ spelled tail)) bytes c.args.at c.in_ok-at.at c.in_ok-at.ensures.0 c.in_ok-at.ensures.1
    (stopped (kind_code f.kind ∷ []) (kind_spelled f.kind ++ spelled tail) bytes c.in_ok-at.at c.in_err-at-2.field-0.0 h)))

pub returns-in_err-at-3 : goal.returns-in_err-at-3
returns-in_err-at-3 t c =
    let fs = c.args.fields.now in
    let f = c.field-item.result in
    let bytes = c.args.bytes.now in
    let tail = Tail fs in
    let s = c.in-Record.schema in
    let m = with_piece (c.code.result ∷ []) (kind_code f.kind ∷ []) bytes c.in_ok-at.at None (λ i. c.code.ensures i ∷ []) c.in_ok-at-2.ensures.0 in
    let p = err_from_is_err_and c.from_residual-in_err-at-3.result c.from_residual-in_err-at-3.ensures.1 in
    rw (p.1, p.2) (by_pieces (Err c.in_err-at-3.field-0.0) fs f bytes c.args.at c.in-len1-up.len_at_least c.field-item.is
    (then_compared (Err c.in_err-at-3.field-0.0) (name_bytes f.name) ((kind_code f.kind ∷ []) ++ (kind_spelled f.kind ++ spelled tail)) bytes c.args.at c.in_ok-at.at c.in_ok-at.ensures.0 c.in_ok-at.ensures.1
    (then_compared (Err c.in_err-at-3.field-0.0) (kind_code f.kind ∷ []) (kind_spelled f.kind ++ spelled tail) bytes c.in_ok-at.at c.in_ok-at-2.at m c.in_ok-at-2.ensures.1
    (by_record (Err c.in_err-at-3.field-0.0) f.kind s (spelled tail) bytes c.in_ok-at-2.at c.in-Record.is
    (stopped (start s.name s.id (count s.fields)) (spelled s.fields ++ spelled tail) bytes c.in_ok-at-2.at c.in_err-at-3.field-0.0 c.in_err-at-3.ensures)))))

pub returns-in_err-at-4 : goal.returns-in_err-at-4
returns-in_err-at-4 t c =
    let fs = c.args.fields.now in
    let f = c.field-item.result in
    let bytes = c.args.bytes.now in
    let tail = Tail fs in
    let s = c.in-Record.schema in
    let m = with_piece (c.code.result ∷ []) (kind_code f.kind ∷ []) bytes c.in_ok-at.at None (λ i. c.code.ensures i ∷ []) c.in_ok-at-2.ensures.0 in
    let h = with_piece (spelled (fields_of c.fields-inner.result.now)) (spelled s.fields) bytes c.in_ok-at-3.at (Some c.in_err-at-4.field-0.0) (ap spelled c.fields-inner.ensures.fields) c.in_err-at-4.ensures in
    let p = err_from_is_err_and c.from_residual-in_err-at-4.result c.from_residual-in_err-at-4.ensures.1 in
    rw (p.1, p.2) (by_pieces (Err c.in_err-at-4.field-0.0) fs f bytes c.args.at c.in-len1-up.len_at_least c.field-item.is
    (then_compared (Err c.in_err-at-4.field-0.0) (name_bytes f.name) ((kind_code f.kind ∷ []) ++ (kind_spelled f.kind ++ spelled tail)) bytes c.args.at c.in_ok-at.at c.in_ok-at.ensures.0 c.in_ok-at.ensures.1
    (then_compared (Err c.in_err-at-4.field-0.0) (kind_code f.kind ∷ []) (kind_spelled f.kind ++ spelled tail) bytes c.in_ok-at.at c.in_ok-at-2.at m c.in_ok-at-2.ensures.1
    (by_record (Err c.in_err-at-4.field-0.0) f.kind s (spelled tail) bytes c.in_ok-at-2.at c.in-Record.is
    (then_compared (Err c.in_err-at-4.field-0.0) (start s.name s.id (count s.fields)) (spelled s.fields ++ spelled tail) bytes c.in_ok-at-2.at c.in_ok-at-3.at c.in_ok-at-3.ensures.0 c.in_ok-at-3.ensures.1
    (stopped (spelled s.fields) (spelled tail) bytes c.in_ok-at-3.at c.in_err-at-4.field-0.0 h))))))

pub returns-in-Record : goal.returns-in-Record
returns-in-Record t c =
    let fs = c.args.fields.now in
    let f = c.field-item.result in
    let bytes = c.args.bytes.now in
    let tail = Tail fs in
    let s = c.in-Record.schema in
    let r = c.compare_fields-in-Record.result in
    let m = with_piece (c.code.result ∷ []) (kind_code f.kind ∷ []) bytes c.in_ok-at.at None (λ i. c.code.ensures i ∷ []) c.in_ok-at-2.ensures.0 in
    let n = with_piece (spelled (fields_of c.fields-inner.result.now)) (spelled s.fields) bytes c.in_ok-at-3.at None (ap spelled c.fields-inner.ensures.fields) c.in_ok-at-4.ensures.0 in
    let l = with_length (spelled (fields_of c.fields-inner.result.now)) (spelled s.fields) c.in_ok-at-3.at c.in_ok-at-4.at (ap spelled c.fields-inner.ensures.fields) c.in_ok-at-4.ensures.1 in
    by_pieces r fs f bytes c.args.at c.in-len1-up.len_at_least c.field-item.is
    (then_compared r (name_bytes f.name) ((kind_code f.kind ∷ []) ++ (kind_spelled f.kind ++ spelled tail)) bytes c.args.at c.in_ok-at.at c.in_ok-at.ensures.0 c.in_ok-at.ensures.1
    (then_compared r (kind_code f.kind ∷ []) (kind_spelled f.kind ++ spelled tail) bytes c.in_ok-at.at c.in_ok-at-2.at m c.in_ok-at-2.ensures.1
    (by_record r f.kind s (spelled tail) bytes c.in_ok-at-2.at c.in-Record.is
    (then_compared r (start s.name s.id (count s.fields)) (spelled s.fields ++ spelled tail) bytes c.in_ok-at-2.at c.in_ok-at-3.at c.in_ok-at-3.ensures.0 c.in_ok-at-3.ensures.1
    (then_compared r (spelled s.fields) (spelled tail) bytes c.in_ok-at-3.at c.in_ok-at-4.at n l c.compare_fields-in-Record.ensures)))))

pub returns : goal.returns
returns t c =
    let fs = c.args.fields.now in
    let f = c.field-item.result in
    let bytes = c.args.bytes.now in
    let tail = Tail fs in
    let r = c.compare_fields-2.result in
    let m = with_piece (c.code.result ∷ []) (kind_code f.kind ∷ []) bytes c.in_ok-at.at None (λ i. c.code.ensures i ∷ []) c.in_ok-at-2.ensures.0 in
    let plain : IsPlain f.kind = search rules in
    by_pieces r fs f bytes c.args.at c.in-len1-up.len_at_least c.field-item.is
    (then_compared r (name_bytes f.name) ((kind_code f.kind ∷ []) ++ (kind_spelled f.kind ++ spelled tail)) bytes c.args.at c.in_ok-at.at c.in_ok-at.ensures.0 c.in_ok-at.ensures.1
    (then_compared r (kind_code f.kind ∷ []) (kind_spelled f.kind ++ spelled tail) bytes c.in_ok-at.at c.in_ok-at-2.at m c.in_ok-at-2.ensures.1
    (by_number r f.kind (spelled tail) bytes c.in_ok-at-2.at plain c.compare_fields-2.ensures)))
