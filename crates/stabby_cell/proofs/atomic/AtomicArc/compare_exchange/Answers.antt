use Rattle.std.proofs.Common.{rules, refl, sym, ap, inl, ◌∙◌, ◌≡◌, ◌≢◌, Some}
use Rattle.stabby_cell.specs.Passes.{Looked, stamp_of, keep_of}
use Rattle.stabby_cell.specs.Turns.{version_of}
use Rattle.stabby_cell.specs.Values.{value_of}
use Rattle.stabby_cell.specs.Shared.{DiffersNow, Exchanges}
use Rattle.stabby_cell.proofs.CallLemmas.{looked_released}
use Rattle.stabby_cell.proofs.VisitLemmas.{same_stamp}
use Rattle.stabby_cell.proofs.SharedLemmas.{differs_now, exchanged}
use Rattle.stabby_cell.proofs.atomic.AtomicArc.compare_exchange.Goals as goal
use Rattle.stabby_cell.proofs.atomic.AtomicArc.compare_exchange.Goals.{in-Ok, in-Err}

pub returns-then-stamp-expected-clause-looked : goal.returns-then-stamp-expected-clause-looked
returns-then-stamp-expected-clause-looked g c =
    let h : Looked c.args.pass.now c.drop-turn.new.self.0 = looked_released _ _ _ c.take-turn.ensures.took c.drop-turn.ensures.released in
    elim c.match-copy.branch [ in-Ok w ↦ rw w.result-is (search rules) | in-Err w ↦ rw w.result-is (search rules) ]

pub returns-then-stamp-expected-clause-fault : goal.returns-then-stamp-expected-clause-fault
returns-then-stamp-expected-clause-fault g c =
    elim c.match-copy.branch [
      | in-Ok w ↦
          let h : DiffersNow c.args.self.now c.drop-turn.new.self.0 c.args.expected c.args.expected c.stamp-stamp.result w.in-Ok.current =
          differs_now c.args.self.now c.take-turn.result _ _ _ _ _ w.in-Ok.ensures.ok c.version.ensures c.take-turn.ensures.turn c.take-turn.ensures.cell c.drop-turn.ensures.released c.stamp-stamp.ensures.stamp c.if-stamp-expected.true in rw w.result-is ((search rules), refl)
      | in-Err w ↦
          let differs : stamp_of c.drop-turn.new.self.0 ≢ c.args.expected = λ e. c.if-stamp-expected.true (c.stamp-stamp.ensures.stamp ∙ (same_stamp _ _ c.drop-turn.ensures.released ∙ e)) in rw w.result-is (inl (search rules), refl)
    ]

pub returns-then-stamp-clause-looked : goal.returns-then-stamp-clause-looked
returns-then-stamp-clause-looked g c =
    let h : Looked c.args.pass.now c.drop-turn-then-stamp.new.self.0 = looked_released _ _ _ c.take-turn.ensures.took c.drop-turn-then-stamp.ensures.released in search rules

pub returns-in-Ok-commit-clause-exchanged : goal.returns-in-Ok-commit-clause-exchanged
returns-in-Ok-commit-clause-exchanged g c =
    let gone : c.in-Ok-commit.gone ≡ Some (version_of c.take-turn.result) = c.in-Ok-commit.ensures.only (ap keep_of c.take-turn.ensures.cell ∙ (sym c.keep.ensures ∙ c.if-keep-eq1.true)) in
    let taken = c.unwrap.ensures in
    let old : c.unwrap.result ≡ version_of c.take-turn.result = cc (gone, taken) in
    let h : Exchanges c.args.self.now c.args.pass.now c.commit.new.self.0 c.args.expected c.args.new c.unwrap.result =
    exchanged c.args.self.now c.take-turn.result _ _ _ _ _ _ c.take-turn.ensures.took c.in-Ok-commit.ensures.committed c.take-turn.ensures.turn c.take-turn.ensures.cell (ap value_of old) c.stamp-stamp.ensures.stamp c.if-stamp-expected.false in search rules

pub returns-in-Err-copy-clause-looked : goal.returns-in-Err-copy-clause-looked
returns-in-Err-copy-clause-looked g c =
    let h : Looked c.args.pass.now c.drop-turn-in-Err-copy-2.new.self.0 = looked_released _ _ _ c.take-turn.ensures.took c.drop-turn-in-Err-copy-2.ensures.released in search rules

pub returns-in-Ok-commit-2-clause-exchanged : goal.returns-in-Ok-commit-2-clause-exchanged
returns-in-Ok-commit-2-clause-exchanged g c =
    let h : Exchanges c.args.self.now c.args.pass.now c.commit-in-Ok-copy.new.self.0 c.args.expected c.args.new c.in-Ok-copy.old =
    exchanged c.args.self.now c.take-turn.result _ _ _ _ _ _ c.take-turn.ensures.took c.in-Ok-commit-2.ensures.committed c.take-turn.ensures.turn c.take-turn.ensures.cell (c.in-Ok-copy.ensures.ok ∙ ap value_of c.version-2.ensures) c.stamp-stamp.ensures.stamp c.if-stamp-expected.false in search rules
