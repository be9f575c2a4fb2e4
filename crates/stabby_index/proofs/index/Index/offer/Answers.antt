use Rattle.std.proofs.Common.{rules, ◌+◌, ◌∙◌, ap, sym}
use Rattle.stabby_cell.specs.Passes.{Looked}
use Rattle.stabby_cell.proofs.CallLemmas.{looked_released}
use Rattle.stabby_index.specs.declared.version.Version.{Version}
use Rattle.stabby_index.specs.Rows.{changed_by}
use Rattle.stabby_index.specs.Applying.{Applied}
use Rattle.stabby_index.proofs.VersionLemmas.{applied, built_on_turn, turn_counts, same_number}
use Rattle.stabby_index.proofs.index.Index.offer.Goals as goal

pub returns-in-Some-clause-looked : goal.returns-in-Some-clause-looked
returns-in-Some-clause-looked g c =
    let h : Looked c.args.pass.now c.drop-turn.new.self.0 = looked_released _ _ _ c.take-turn.ensures.took c.drop-turn.ensures.released in search rules

pub returns-then-stamp-eq-LAST_STAMP-clause-looked : goal.returns-then-stamp-eq-LAST_STAMP-clause-looked
returns-then-stamp-eq-LAST_STAMP-clause-looked g c =
    let h : Looked c.args.pass.now c.drop-turn-then-stamp-eq-LAST_STAMP.new.self.0 = looked_released _ _ _ c.take-turn.ensures.took c.drop-turn-then-stamp-eq-LAST_STAMP.ensures.released in search rules

pub returns-in-Err-clause-looked : goal.returns-in-Err-clause-looked
returns-in-Err-clause-looked g c =
    let h : Looked c.args.pass.now c.drop-turn-in-Err.new.self.0 = looked_released _ _ _ c.take-turn.ensures.took c.drop-turn-in-Err.ensures.released in search rules

pub returns-in-Ok-commit-clause-applied : goal.returns-in-Ok-commit-clause-applied
returns-in-Ok-commit-clause-applied g c =
    let count = turn_counts c.args.self.now c.take-turn.result c.stamp-stamp.result c.take-turn.ensures.turn c.take-turn.ensures.cell c.stamp-stamp.ensures.stamp in
    let h : Applied c.args.pass.now c.commit.new.self.0 c.args.next.changes c.args.expect (c.stamp-stamp.result + 1) =
    applied _ _ _ _ c.args.next.changes c.args.expect c.stamp-stamp.result c.take-turn.ensures.took c.in-Ok-commit.ensures.committed (search rules) c.stamp-stamp.ensures.stamp count (search rules) in search rules

pub on-requires : goal.on-requires
on-requires g c = record {
  built = λ same. built_on_turn c.args.self.now c.args.pass.now c.take-turn.result c.args.next.view c.args.next.changes c.seen-base.result c.stamp-stamp.result c.take-turn.ensures.took
      c.take-turn.ensures.turn c.take-turn.ensures.cell c.seen-base.ensures.stamp c.stamp-stamp.ensures.stamp (same_number _ _ same) c.requires.built
      ∙ ap (λ (v : Version). changed_by v.view c.args.next.changes) (sym c.version.ensures);
}
