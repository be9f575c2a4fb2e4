use Rattle.std.proofs.Common.{◌≡◌, ◌<◌, ◌-◌, ◌^◌, ◌++◌, ◌∷◌, [], false, length, List, ℕ, arith, ap, sym, subst, ◌∙◌, inl, inr}
use Rattle.std.proofs.lemmas.Result.{err_from_is_err_and}
use Rattle.stabby_tables.specs.Lists.{has}
use Rattle.stabby_cell.specs.Passes.{front_of, Committed}
use Rattle.stabby_cell.proofs.RecordLemmas.{prefix_same}
use Rattle.stabby_cell.proofs.CallLemmas.{no_commit_looked, looked_looked}
use Rattle.stabby_cell.proofs.VisitLemmas.{looked_visited}
use Rattle.stabby_registry.specs.Catalog.{last_table}
use Rattle.stabby_registry.specs.Inserts.{IsNumber}
use Rattle.stabby_registry.proofs.Versions.{number_found, none_found}
use Rattle.stabby_registry.proofs.Inserting.{inserted_there, next_is_front}
use Rattle.stabby_registry.proofs.registry.VtBtree.insert_absent.Goals as goal

pub returns-in-Some-clause-number : goal.returns-in-Some-clause-number
returns-in-Some-clause-number g c = number_found (front_of c.catch_up.new.pass) c.args.table.now c.in-Some.number (sym c.in-Some.is ∙ c.in_ok-number.ensures.number)

pub returns-in_err-offer-clause-refused : goal.returns-in_err-offer-clause-refused
returns-in_err-offer-clause-refused g c =
    let p = err_from_is_err_and c.from_residual-in_err-offer.result c.from_residual-in_err-offer.ensures.1 in
    rw (p.1, p.2) (no_commit_looked _ _ (looked_looked _ _ _ c.loop.invariant.looked c.in_err-offer.ensures.looked))

pub returns-in-None-2-clause-number : goal.returns-in-None-2-clause-number
returns-in-None-2-clause-number g c =
    let room : length (front_of c.loop.pass) < 2 ^ 63 - 1 = omega (arith, c.len-number.ensures.count, c.len-number.ensures.limit, c.if-number-eq-LAST_STAMP.false, ap length c.loop.invariant.version) in
    let longer : c.in_ok-next.next ≡ c.loop.known ++ c.args.table.now ∷ [] = c.in_ok-next.ensures.ok ∙ ap (λ (v : List (List ℕ)). v ++ c.args.table.now ∷ []) c.in_ok-duplicate.ensures.ok in
    let committed : Committed c.loop.pass c.offer.new.pass (front_of c.loop.pass) (last_table c.in_ok-next.next) = rw c.in-None-2.is at c.in_ok-offer.ensures.offered in
    (inserted_there c.args.self.now c.args.pass.now c.loop.pass c.offer.new.pass c.args.table.now c.len-number.result c.loop.known c.in_ok-next.next c.args.self.now.zero c.loop.invariant.own
    c.loop.invariant.looked c.loop.invariant.distinct (c.loop.invariant.absent, c.loop.invariant.version, room) c.len-number.ensures.count longer committed).number

pub returns-in-None-2-clause-inserts : goal.returns-in-None-2-clause-inserts
returns-in-None-2-clause-inserts g c =
    let room : length (front_of c.loop.pass) < 2 ^ 63 - 1 = omega (arith, c.len-number.ensures.count, c.len-number.ensures.limit, c.if-number-eq-LAST_STAMP.false, ap length c.loop.invariant.version) in
    let longer : c.in_ok-next.next ≡ c.loop.known ++ c.args.table.now ∷ [] = c.in_ok-next.ensures.ok ∙ ap (λ (v : List (List ℕ)). v ++ c.args.table.now ∷ []) c.in_ok-duplicate.ensures.ok in
    let committed : Committed c.loop.pass c.offer.new.pass (front_of c.loop.pass) (last_table c.in_ok-next.next) = rw c.in-None-2.is at c.in_ok-offer.ensures.offered in
    inr (inserted_there c.args.self.now c.args.pass.now c.loop.pass c.offer.new.pass c.args.table.now c.len-number.result c.loop.known c.in_ok-next.next c.args.self.now.zero c.loop.invariant.own
    c.loop.invariant.looked c.loop.invariant.distinct (c.loop.invariant.absent, c.loop.invariant.version, room) c.len-number.ensures.count longer committed).adds

pub returns-in-None-2-clause-distinct : goal.returns-in-None-2-clause-distinct
returns-in-None-2-clause-distinct g c =
    let room : length (front_of c.loop.pass) < 2 ^ 63 - 1 = omega (arith, c.len-number.ensures.count, c.len-number.ensures.limit, c.if-number-eq-LAST_STAMP.false, ap length c.loop.invariant.version) in
    let longer : c.in_ok-next.next ≡ c.loop.known ++ c.args.table.now ∷ [] = c.in_ok-next.ensures.ok ∙ ap (λ (v : List (List ℕ)). v ++ c.args.table.now ∷ []) c.in_ok-duplicate.ensures.ok in
    let committed : Committed c.loop.pass c.offer.new.pass (front_of c.loop.pass) (last_table c.in_ok-next.next) = rw c.in-None-2.is at c.in_ok-offer.ensures.offered in
    (inserted_there c.args.self.now c.args.pass.now c.loop.pass c.offer.new.pass c.args.table.now c.len-number.result c.loop.known c.in_ok-next.next c.args.self.now.zero c.loop.invariant.own
    c.loop.invariant.looked c.loop.invariant.distinct (c.loop.invariant.absent, c.loop.invariant.version, room) c.len-number.ensures.count longer committed).distinct

pub returns-in-None-2-clause-behind : goal.returns-in-None-2-clause-behind
returns-in-None-2-clause-behind g c =
    let longer : c.in_ok-next.next ≡ c.loop.known ++ c.args.table.now ∷ [] = c.in_ok-next.ensures.ok ∙ ap (λ (v : List (List ℕ)). v ++ c.args.table.now ∷ []) c.in_ok-duplicate.ensures.ok in
    let committed : Committed c.loop.pass c.offer.new.pass (front_of c.loop.pass) (last_table c.in_ok-next.next) = rw c.in-None-2.is at c.in_ok-offer.ensures.offered in
    rw (c.in_ok-copy.ensures.ok ∙ next_is_front c.loop.pass c.offer.new.pass c.args.table.now c.loop.known c.in_ok-next.next c.loop.invariant.version longer committed) (prefix_same (front_of c.offer.new.pass))

pub returns-in-Some-number_of-clause-number : goal.returns-in-Some-number_of-clause-number
returns-in-Some-number_of-clause-number g c =
    let offered = rw c.in-Some-3.is at c.in_ok-offer.ensures.offered in
    subst (λ f. IsNumber f c.args.table.now c.in-Some-number_of.number) offered.3 (number_found c.in-Some-3.newer c.args.table.now c.in-Some-number_of.number (sym c.in-Some-number_of.is ∙ c.number_of.ensures.number))

pub returns-in-Some-number_of-clause-inserts : goal.returns-in-Some-number_of-clause-inserts
returns-in-Some-number_of-clause-inserts g c =
    let offered = rw c.in-Some-3.is at c.in_ok-offer.ensures.offered in
    inl (looked_looked _ _ _ c.loop.invariant.looked (looked_visited _ _ offered.0))

pub returns-in-Some-number_of-clause-behind : goal.returns-in-Some-number_of-clause-behind
returns-in-Some-number_of-clause-behind g c =
    let offered = rw c.in-Some-3.is at c.in_ok-offer.ensures.offered in
    rw offered.3 (prefix_same (front_of c.offer.new.pass))

pub loop-preserved-in_default-number_of : goal.loop-preserved-in_default-number_of
loop-preserved-in_default-number_of g c =
    let offered = rw c.in-Some-3.is at c.in_ok-offer.ensures.offered in
    record {
      own = c.offer.ensures.pass;
      looked = looked_looked _ _ _ c.loop.invariant.looked (looked_visited _ _ offered.0);
      version = offered.3;
      absent = subst (λ f. has f c.args.table.now ≡ false) offered.3 (none_found c.in-Some-3.newer c.args.table.now (sym c.in_default-number_of.is ∙ c.number_of.ensures.number));
      distinct = offered.2;
    }
