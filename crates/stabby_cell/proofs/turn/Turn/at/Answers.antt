use Rattle.std.proofs.Common.{subst, ap, arith, ℕ, List, ◌≡◌, ◌-◌, ◌+◌, suc, length, take}
use Rattle.std.proofs.lemmas.Option.{IfSome_then}
use Rattle.stabby_cell.specs.Rule.{Reached}
use Rattle.stabby_cell.specs.Passes.{front_of, opening_stamp_of, first_version_of}
use Rattle.stabby_cell.specs.Turns.{cell_of, pass_of}
use Rattle.stabby_cell.proofs.KeptLemmas.{older_version}
use Rattle.stabby_cell.proofs.turn.Turn.at.Goals as goal

pub returns-clause-version : goal.returns-clause-version
returns-clause-version g c =
    let t = c.args.self.now in
    let es = front_of (pass_of t) in
    let place = t.pass.now.seen - c.args.stamp - 1 in
    let seen = t.pass.now.seen_is in
    let first = c.requires.first_is in
    let below = c.if-stamp-self.false in
    let other = c.if-stamp-self-2.false in
    let same : length es - suc place ≡ c.args.stamp - opening_stamp_of (cell_of t) = omega arith in
    IfSome_then c.get.result c.get.ensures.version (λ v p. subst (λ (n : ℕ). Reached g.V.Chronicle.next (first_version_of (cell_of t)) (take n es) v.now) same
    (older_version g.V.Chronicle.next _ _ _ _ es c.in-Some.older place v.now c.requires.kept c.in-Some.is p))
