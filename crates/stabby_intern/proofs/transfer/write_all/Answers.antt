use Rattle.std.proofs.Common.{refl, arith, ◌∙◌}
use Rattle.std.proofs.lemmas.Result.{err_from_is_err_and}
use Rattle.std.proofs.lemmas.Grind.{common_steps}
use Rattle.stabby_intern.proofs.Moved.{took_part, write_step}
use Rattle.stabby_intern.proofs.transfer.write_all.Goals as goal

pub returns-in_err-n-clause-part : goal.returns-in_err-n-clause-part
returns-in_err-n-clause-part g c =
    let p = err_from_is_err_and c.from_residual.result c.from_residual.ensures.1 in
    rw p.1 (took_part _ _ _ _ _ c.loop-rest.rest.now c.loop-rest.invariant.1 (grind (arith, common_steps)) c.loop-rest.invariant.2 c.in_err-n.ensures.bytes)

pub loop-rest-preserved : goal.loop-rest-preserved
loop-rest-preserved g c =
    let s = write_step (g.K.Sink.taken c.args.out.now) (g.K.Sink.taken c.loop-rest.out) (g.K.Sink.taken c.write.new.self) c.args.text.now c.loop-rest.invariant.0 c.loop-rest.rest.now _ c.in_ok-n.n c.loop-rest.invariant.1 refl c.loop-rest.invariant.2 c.in_ok-n.ensures.bytes in
    (s.0, s.1, s.2, c.in_ok-n.ensures.cause.kept ∙ c.loop-rest.invariant.3)
