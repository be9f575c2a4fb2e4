use Rattle.std.proofs.Common.{◌≡◌, ◌++◌, ◌∷◌, [], ℕ, List, length, refl, sym, ◌∙◌, ap, subst, arith, append_assoc, append-nil, length-append}
use Rattle.std.proofs.lemmas.List.{nil_from_length}
use Rattle.std.proofs.lemmas.Bool.Decides.{nat_tests}
use Rattle.stabby_tables.specs.Pieces.{lines_of}
use Rattle.stabby_tables.proofs.Zips.{zip_push}
use Rattle.plugin_host.specs.Lines.{IsLineOf}
use Rattle.plugin_host.specs.Runs.{AreCalls}
use Rattle.plugin_host.proofs.program.parse_calls.Goals as goal

pub loop-rest-init : goal.loop-rest-init
loop-rest-init c = ([], refl, refl, omega arith, rw c.new-calls.ensures.items tt)

pub loop-rest-preserved : goal.loop-rest-preserved
loop-rest-preserved c =
    let done = c.loop-rest.invariant.0 in
    let line = c.first_line.result.0.now in
    let more = length-append done (line ∷ []) in
    let shorter = c.first_line.ensures.shorter in
    let place = c.loop-rest.invariant.2 in
    let room = c.loop-rest.invariant.3 in (
      done ++ line ∷ [],
      c.loop-rest.invariant.1 ∙ (ap (λ (l : List (List ℕ)). done ++ l) c.first_line.ensures.split ∙ sym (append_assoc done (line ∷ []) (lines_of c.first_line.result.1.now))),
      omega (arith, more, place),
      omega (arith, more, shorter, room),
      rw c.in-Ok.ensures.items (zip_push IsLineOf done c.loop-rest.calls.items line c.in-Some.call c.loop-rest.invariant.4 c.in-Some.ensures),
    )

pub overflow_add-number : goal.overflow_add-number
overflow_add-number c =
    let place = c.loop-rest.invariant.2 in
    let room = c.loop-rest.invariant.3 in
    let short = c.requires in omega (arith, place, room, short)

pub returns-in_default-clause-fault : goal.returns-in_default-clause-fault
returns-in_default-clause-fault c =
    let done = c.loop-rest.invariant.0 in
    record {
      front = done;
      line = c.first_line.result.0.now;
      back = lines_of c.first_line.result.1.now;
      calls = c.loop-rest.calls.items;
      split = c.loop-rest.invariant.1 ∙ ap (λ (l : List (List ℕ)). done ++ l) c.first_line.ensures.split;
      place = c.loop-rest.invariant.2;
      are = c.loop-rest.invariant.4;
      bad = rw c.in_default.is at c.parse_call.ensures;
    }

pub returns-clause-ok : goal.returns-clause-ok
returns-clause-ok c =
    let done = c.loop-rest.invariant.0 in
    let zero : length c.loop-rest.rest.now ≡ 0 = grind (arith, nat_tests, c.is_empty.ensures) in
    let none = nil_from_length c.loop-rest.rest.now zero in
    let all = c.loop-rest.invariant.1 ∙ (ap (λ (l : List ℕ). done ++ lines_of l) none ∙ append-nil done) in
    subst (λ (l : List (List ℕ)). AreCalls l c.loop-rest.calls.items) (sym all) c.loop-rest.invariant.4
