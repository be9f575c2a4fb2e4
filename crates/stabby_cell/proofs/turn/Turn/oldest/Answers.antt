use Rattle.std.proofs.Common.{arith}
use Rattle.stabby_cell.proofs.OldestLemmas.{older_count}
use Rattle.stabby_cell.proofs.turn.Turn.oldest.Goals as goal

pub overflow_sub-result : goal.overflow_sub-result
overflow_sub-result g c =
    let count = older_count g.V.Chronicle.next _ _ _ _ _ _ c.requires.kept c.in-Some.is in
    let first = c.requires.first_is in
    let seen = c.args.self.now.pass.now.seen_is in
    let len = c.len.ensures in omega arith

pub returns : goal.returns
returns g c =
    let count = older_count g.V.Chronicle.next _ _ _ _ _ _ c.requires.kept c.in-Some.is in
    let first = c.requires.first_is in
    let seen = c.args.self.now.pass.now.seen_is in
    let len = c.len.ensures in omega arith
