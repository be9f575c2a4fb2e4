use Rattle.std.proofs.Common.{◌≡◌, ◌∷◌, [], ◌++◌, ◌∙◌, ap, sym, refl, List, ℕ, ◌+◌, arith, append_assoc}
use Rattle.stabby_tables.specs.Pieces.{lines_of}
use Rattle.stabby_tables.specs.Lines.{Spells}
use Rattle.stabby_tables.proofs.Zips.{zip_push, zip_length}
use Rattle.stabby_intern.proofs.lines.parse_tables.Goals as goal

-- the line that spells no table
pub returns-in_default-clause-bad_word : goal.returns-in_default-clause-bad_word
returns-in_default-clause-bad_word c k e =
    let done = c.loop-rest.invariant.0 in
    let number : c.len.result + 1 ≡ k = cc in
    record {
      front = done;
      line = c.first_line.result.0.now;
      after = lines_of c.first_line.result.1.now;
      split = c.loop-rest.invariant.2 ∙ ap (λ (l : List (List ℕ)). done ++ l) c.first_line.ensures.split;
      place = omega (arith, number, c.len.ensures, zip_length Spells done c.loop-rest.tables.items c.loop-rest.invariant.1);
      tables = c.loop-rest.tables.items;
      good = c.loop-rest.invariant.1;
      bad = c.in_ok-table.ensures.none (rw c.in_default.is refl);
    }

pub loop-rest-preserved : goal.loop-rest-preserved
loop-rest-preserved c =
    let done = c.loop-rest.invariant.0 in
    let line = c.first_line.result.0.now in (
      done ++ line ∷ [],
      rw c.in_ok-push.ensures.items (zip_push Spells done c.loop-rest.tables.items line c.in-Some.table c.loop-rest.invariant.1 (rw c.in-Some.is at c.in_ok-table.ensures.table)),
      c.loop-rest.invariant.2 ∙ ap (λ (l : List (List ℕ)). done ++ l) c.first_line.ensures.split ∙ sym (append_assoc done (line ∷ []) _),
    )
