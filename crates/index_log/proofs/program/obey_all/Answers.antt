use Rattle.std.proofs.Common.{◌≡◌, ◌++◌, ◌∷◌, [], ◌+◌, ℕ, List, length, refl, sym, ◌∙◌, ap, arith, append_assoc, length-append}
use Rattle.std.proofs.lemmas.List.{nil_from_length}
use Rattle.std.proofs.lemmas.Bool.Decides.{nat_tests}
use Rattle.stabby_tables.specs.Pieces.{lines_of}
use Rattle.index_log.specs.Sessions.{state_of}
use Rattle.index_log.proofs.Obeying.{none_yet, line_more, all_done, ends_at}
use Rattle.index_log.proofs.program.obey_all.Goals as goal

pub loop-rest-init : goal.loop-rest-init
loop-rest-init g c = ([], refl, refl, omega arith, none_yet (state_of c.args.session.now) (g.K.Sink.taken c.args.out.now) (g.K.Sink.faults c.args.out.now))

pub loop-rest-preserved : goal.loop-rest-preserved
loop-rest-preserved g c =
    let done = c.loop-rest.invariant.0 in
    let line = c.first_line.result.0.now in
    let more = length-append done (line ∷ []) in
    let shorter = c.first_line.ensures.shorter in
    let place = c.loop-rest.invariant.2 in
    let room = c.loop-rest.invariant.3 in (
      done ++ line ∷ [],
      c.loop-rest.invariant.1 ∙ (ap (λ (l : List (List ℕ)). done ++ l) c.first_line.ensures.split ∙ sym (append_assoc done (line ∷ []) (lines_of c.first_line.result.1.now))),
      omega (arith, more, place),
      omega (arith, more, shorter, room),
      line_more (state_of c.args.session.now) (state_of c.loop-rest.session) _ done line (g.K.Sink.taken c.args.out.now) (g.K.Sink.taken c.loop-rest.out) _ (g.K.Sink.faults c.args.out.now) (g.K.Sink.faults c.loop-rest.out) _ c.loop-rest.invariant.4 c.in-Ok.ensures,
    )

pub overflow_add-number : goal.overflow_add-number
overflow_add-number g c =
    let place = c.loop-rest.invariant.2 in
    let room = c.loop-rest.invariant.3 in
    let short = c.requires in omega (arith, place, room, short)

pub returns-in_default : goal.returns-in_default
returns-in_default g c =
    let done = c.loop-rest.invariant.0 in
    let line = c.first_line.result.0.now in
    ends_at (state_of c.args.session.now) (state_of c.loop-rest.session) _ (lines_of c.args.text.now) done (lines_of c.first_line.result.1.now) line
    (g.K.Sink.taken c.args.out.now) (g.K.Sink.taken c.loop-rest.out) _ (g.K.Sink.faults c.args.out.now) (g.K.Sink.faults c.loop-rest.out) _ c.loop-rest.number _
    (c.loop-rest.invariant.1 ∙ ap (λ (l : List (List ℕ)). done ++ l) c.first_line.ensures.split) c.loop-rest.invariant.2 c.loop-rest.invariant.4 c.in_default.not-Ok c.obey_line.ensures

pub returns : goal.returns
returns g c =
    let done = c.loop-rest.invariant.0 in
    let zero : length c.loop-rest.rest.now ≡ 0 = grind (arith, nat_tests, c.is_empty.ensures) in
    let none = nil_from_length c.loop-rest.rest.now zero in
    all_done (state_of c.args.session.now) (state_of c.loop-rest.session) (lines_of c.args.text.now) done _ (c.loop-rest.invariant.1 ∙ ap (λ (l : List ℕ). done ++ lines_of l) none) c.loop-rest.invariant.4
