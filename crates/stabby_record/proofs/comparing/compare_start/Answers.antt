use Rattle.std.proofs.Common.{◌≡◌, [], ◌∷◌, ◌++◌, Some, None, Err, rules, ap}
use Rattle.std.proofs.lemmas.Result.{err_from_is_err_and}
use Rattle.std.specs.Int.{to_le_bytes, w64}
use Rattle.stabby_record.specs.Shape.{count}
use Rattle.stabby_record.specs.Message.{name_bytes}
use Rattle.stabby_record.proofs.Heads.{then_compared, stopped, with_piece, with_length, with_same}
use Rattle.stabby_record.proofs.comparing.compare_start.Goals as goal

pub returns-in_err-at : goal.returns-in_err-at
returns-in_err-at c =
    let s = c.args.schema.now in
    let e = c.in_err-at.field-0.0 in
    let h = with_piece (name_bytes c.name.result.now) (name_bytes s.name) c.args.bytes.now c.args.at (Some e) (ap name_bytes c.name.ensures) c.in_err-at.ensures in
    let p = err_from_is_err_and c.from_residual.result c.from_residual.ensures.1 in
    rw (p.1, p.2) (stopped (name_bytes s.name) (to_le_bytes w64 s.id ++ (count s.fields ∷ [])) c.args.bytes.now c.args.at e h)

pub returns-in_err-at-2 : goal.returns-in_err-at-2
returns-in_err-at-2 c =
    let s = c.args.schema.now in
    let e = c.in_err-at-2.field-0.0 in
    let b = c.args.bytes.now in
    let at = c.in_ok-at.at in
    let id : c.to_le_bytes.result ≡ to_le_bytes w64 s.id = search rules in
    let n = with_piece (name_bytes c.name.result.now) (name_bytes s.name) b c.args.at None (ap name_bytes c.name.ensures) c.in_ok-at.ensures.0 in
    let l = with_length (name_bytes c.name.result.now) (name_bytes s.name) c.args.at at (ap name_bytes c.name.ensures) c.in_ok-at.ensures.1 in
    let h = with_piece c.to_le_bytes.result (to_le_bytes w64 s.id) b at (Some e) id c.in_err-at-2.ensures in
    let p = err_from_is_err_and c.from_residual-in_err-at-2.result c.from_residual-in_err-at-2.ensures.1 in
    rw (p.1, p.2) (then_compared (Err e) (name_bytes s.name) (to_le_bytes w64 s.id ++ (count s.fields ∷ [])) b c.args.at at n l
    (stopped (to_le_bytes w64 s.id) (count s.fields ∷ []) b at e h))

pub returns : goal.returns
returns c =
    let s = c.args.schema.now in
    let b = c.args.bytes.now in
    let at = c.in_ok-at.at in
    let at2 = c.in_ok-at-2.at in
    let r = c.compare-2.result in
    let id : c.to_le_bytes.result ≡ to_le_bytes w64 s.id = search rules in
    let n = with_piece (name_bytes c.name.result.now) (name_bytes s.name) b c.args.at None (ap name_bytes c.name.ensures) c.in_ok-at.ensures.0 in
    let l = with_length (name_bytes c.name.result.now) (name_bytes s.name) c.args.at at (ap name_bytes c.name.ensures) c.in_ok-at.ensures.1 in
    let m = with_piece c.to_le_bytes.result (to_le_bytes w64 s.id) b at None id c.in_ok-at-2.ensures.0 in
    let k = with_length c.to_le_bytes.result (to_le_bytes w64 s.id) at at2 id c.in_ok-at-2.ensures.1 in
    let h = with_same r (c.count.result ∷ []) (count s.fields ∷ []) b at2 (λ i. c.count.ensures i ∷ []) c.compare-2.ensures in
    then_compared r (name_bytes s.name) (to_le_bytes w64 s.id ++ (count s.fields ∷ [])) b c.args.at at n l
    (then_compared r (to_le_bytes w64 s.id) (count s.fields ∷ []) b at at2 m k h)
