use Rattle.std.proofs.Common.{◌≡◌, ◌≤◌, ◌-◌, ◌^◌, ◌++◌, ◌∷◌, [], length, false, ap, ◌∙◌, subst}
use Rattle.std.proofs.lemmas.Result.{err_from_is_err_and}
use Rattle.stabby_tables.specs.Lists.{has}
use Rattle.stabby_cell.specs.Passes.{Committed, front_of}
use Rattle.stabby_cell.proofs.VisitLemmas.{looked_visited}
use Rattle.stabby_registry.specs.Catalog.{last_table}
use Rattle.stabby_registry.specs.Inserts.{IsNumber}
use Rattle.stabby_registry.proofs.Versions.{last-push}
use Rattle.stabby_registry.proofs.Inserting.{full_front}
use Rattle.stabby_registry.proofs.PassLemmas.{nothing_done}
use Rattle.stabby_registry.proofs.registry.VtBtree.insert_on.Goals as goal

pub returns-in_err-next-clause-refused : goal.returns-in_err-next-clause-refused
returns-in_err-next-clause-refused g c =
    let p = err_from_is_err_and c.from_residual.result c.from_residual.ensures.1 in
    rw (p.1, p.2) (nothing_done _)

pub returns-in_default-clause-tried : goal.returns-in_default-clause-tried
returns-in_default-clause-tried g c =
    let longer : c.in_ok-next.next ≡ front_of c.args.pass.now ++ c.args.table.now ∷ [] = c.in_ok-next.ensures.ok ∙ ap (λ v. v ++ c.args.table.now ∷ []) c.requires.is in
    let last : last_table c.in_ok-next.next ≡ c.args.table.now = ap last_table longer ∙ last-push (front_of c.args.pass.now) c.args.table.now in
    let committed : Committed c.args.pass.now c.offer.new.pass (front_of c.args.pass.now) (last_table c.in_ok-next.next) = rw c.in_default.is at c.in_ok-newer.ensures.offered in
    (subst (Committed c.args.pass.now c.offer.new.pass (front_of c.args.pass.now)) last committed, c.len-number.ensures.count ∙ ap length c.requires.is)

pub returns-in-Known-clause-tried : goal.returns-in-Known-clause-tried
returns-in-Known-clause-tried g c =
    let offered = rw c.in-Some.is at c.in_ok-newer.ensures.offered in
    let number : IsNumber c.in-Some.newer c.args.table.now c.in-Known.number = rw c.in-Known.is at c.find.ensures in
    (looked_visited _ _ offered.0, offered.2, subst (λ f. IsNumber f c.args.table.now c.in-Known.number) offered.3 number)

pub returns-in-Full-clause-refused : goal.returns-in-Full-clause-refused
returns-in-Full-clause-refused g c =
    let offered = rw c.in-Some.is at c.in_ok-newer.ensures.offered in
    let found : (has c.in-Some.newer c.args.table.now ≡ false) × (2 ^ 63 - 1 ≤ length c.in-Some.newer) = rw c.in-Full.is at c.find.ensures in
    full_front c.args.self.now c.args.pass.now c.offer.new.pass c.args.table.now c.seen.result c.args.self.now.zero c.offer.ensures.pass
    (subst (λ f. (has f c.args.table.now ≡ false) × (2 ^ 63 - 1 ≤ length f)) offered.3 found) c.seen.ensures.stamp c.seen.ensures.limit (looked_visited _ _ offered.0)
