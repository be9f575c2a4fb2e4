use Rattle.std.proofs.Common.{ℕ, List, [], ◌∷◌, ◌++◌, Err, arith, length, length-append, ap, subst}
use Rattle.std.proofs.lemmas.Result.{err_from_is_err_and}
use Rattle.stabby_record.specs.Shape.{count}
use Rattle.stabby_record.specs.Message.{start, spelled}
use Rattle.stabby_record.specs.Read.{fields_of}
use Rattle.stabby_record.specs.Compared.{Compared}
use Rattle.stabby_record.proofs.Heads.{then_compared, stopped, head_pieces, short_head, with_same}
use Rattle.stabby_record.proofs.comparing.compare_head.Goals as goal

pub returns-in_err-at-clause-short : goal.returns-in_err-at-clause-short
returns-in_err-at-clause-short c = short_head c.args.schema.now c.fields-fields.ensures.within

pub returns-in_err-at-2-clause-short : goal.returns-in_err-at-2-clause-short
returns-in_err-at-2-clause-short c = short_head c.args.schema.now c.fields-fields.ensures.within

pub returns-clause-short : goal.returns-clause-short
returns-clause-short c = short_head c.args.schema.now c.fields-fields.ensures.within

pub returns-in_err-at-2-clause-compared : goal.returns-in_err-at-2-clause-compared
returns-in_err-at-2-clause-compared c =
    let s = c.args.schema.now in
    let bytes = c.args.bytes.now in
    let four : List ℕ = 83 ∷ 82 ∷ 49 ∷ 10 ∷ [] in
    let first = start s.name s.id (count s.fields) in
    let p = err_from_is_err_and c.from_residual-in_err-at-2.result c.from_residual-in_err-at-2.ensures.1 in
    rw (p.1, p.2) (subst (λ (l : List ℕ). Compared (Err c.in_err-at-2.field-0.0) l bytes 0) (head_pieces s)
    (then_compared (Err c.in_err-at-2.field-0.0) four (first ++ spelled s.fields) bytes 0 c.in_ok-at.at c.in_ok-at.ensures.0 c.in_ok-at.ensures.1
    (stopped first (spelled s.fields) bytes c.in_ok-at.at c.in_err-at-2.field-0.0 c.in_err-at-2.ensures)))

pub compare_fields-requires-clause-room : goal.compare_fields-requires-clause-room
compare_fields-requires-clause-room c =
    let s = c.args.schema.now in
    let four : List ℕ = 83 ∷ 82 ∷ 49 ∷ 10 ∷ [] in
    let first = start s.name s.id (count s.fields) in
    let h = short_head s c.fields-fields.ensures.within in
    let a = ap length (head_pieces s) in
    let b = length-append four (first ++ spelled s.fields) in
    let d = length-append first (spelled s.fields) in
    let m = c.in_ok-at.ensures.1 in
    let n = c.in_ok-at-2.ensures.1 in
    rw c.fields-fields.ensures.fields (omega arith)

pub returns-clause-compared : goal.returns-clause-compared
returns-clause-compared c =
    let s = c.args.schema.now in
    let bytes = c.args.bytes.now in
    let r = c.compare_fields.result in
    let four : List ℕ = 83 ∷ 82 ∷ 49 ∷ 10 ∷ [] in
    let first = start s.name s.id (count s.fields) in
    let h = with_same r (spelled (fields_of c.fields-fields.result.now)) (spelled s.fields) bytes c.in_ok-at-2.at (ap spelled c.fields-fields.ensures.fields) c.compare_fields.ensures in
    subst (λ (l : List ℕ). Compared r l bytes 0) (head_pieces s)
    (then_compared r four (first ++ spelled s.fields) bytes 0 c.in_ok-at.at c.in_ok-at.ensures.0 c.in_ok-at.ensures.1
    (then_compared r first (spelled s.fields) bytes c.in_ok-at.at c.in_ok-at-2.at c.in_ok-at-2.ensures.0 c.in_ok-at-2.ensures.1 h))
