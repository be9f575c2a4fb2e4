use Rattle.std.proofs.Common.{sym, ◌∙◌, ap, arith, ◌≡◌, ◌∷◌, [], ◌++◌, ◌+◌, ◌-◌, List, Some, Option}
use Rattle.stabby_cell.specs.declared.kept.Versions.{Versions}
use Rattle.stabby_cell.specs.Rule.{versions_in, keep_in}
use Rattle.stabby_cell.proofs.StepsKeepRule.{opens}
use Rattle.stabby_cell.proofs.KeptLemmas.{opens_kept}
use Rattle.stabby_cell.proofs.cell.TurnCell.new_keeping.Goals as goal

pub new-requires-2 : goal.new-requires-2
new-requires-2 g c =
    let k : Versions g.row.V.Denot = record { newest = c.args.first; older = c.in-Ok-new.older } in
    let one = c.requires.keep.0 in
    let room = c.in-Ok-new.ensures.room in
    let first = sym c.of.ensures in
    let alone = ap (λ (l : List g.row.V.Denot). c.args.first ∷ l) c.in-Ok-new.ensures.items ∙ ap (λ (x : g.row.V.Denot). x ∷ []) first in
    opens g.V.Chronicle.next c.of.result.value c.args.first_stamp c.args.keep c.requires.stamp c.push_reserved.new.self.items k
    (c.push_reserved.ensures.items ∙ ap (λ (l : List (Option (Versions g.row.V.Denot))). l ++ Some k ∷ []) c.in-Ok.ensures.items)
    (opens_kept g.V.Chronicle.next c.of.result.value c.args.keep k (omega arith) (omega arith) alone)
