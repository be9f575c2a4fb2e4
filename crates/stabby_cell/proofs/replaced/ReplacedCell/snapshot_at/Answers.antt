use Rattle.std.proofs.Common.{rules, IfOk, IfSome, IsSome, ◌≡◌, ◌↔◌}
use Rattle.stabby_cell.specs.Passes.{Looked, front_of}
use Rattle.stabby_cell.specs.Replaced.{contents_at, KeepsAt}
use Rattle.stabby_cell.proofs.CallLemmas.{looked_released}
use Rattle.stabby_cell.proofs.ReplacedLemmas.{found_kept, found_contents}
use Rattle.stabby_cell.proofs.replaced.ReplacedCell.snapshot_at.Goals as goal

pub returns-clause-looked : goal.returns-clause-looked
returns-clause-looked g c =
    let h : Looked c.args.pass.now c.release.new.self.0 = looked_released _ _ _ c.take-turn.ensures.took c.release.ensures.released in search rules

pub returns-clause-kept : goal.returns-clause-kept
returns-clause-kept g c =
    let h : IfOk c.copy_at-found.result (λ found. IsSome found ↔ KeepsAt c.args.self.now c.release.new.self.0 c.args.stamp) = found_kept c.args.self.now c.take-turn.result _ _ _ c.copy_at-found.ensures.kept c.take-turn.ensures.cell c.release.ensures.released in search rules

pub returns-clause-contents : goal.returns-clause-contents
returns-clause-contents g c =
    let h : IfOk c.copy_at-found.result (λ found. IfSome found (λ v. v ≡ contents_at c.args.self.now (front_of c.release.new.self.0) c.args.stamp)) = found_contents c.args.self.now c.take-turn.result _ _ _ c.copy_at-found.ensures.contents c.take-turn.ensures.cell c.release.ensures.released in search rules
