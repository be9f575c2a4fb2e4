use Rattle.std.proofs.Common.{ℕ, List, [], ◌∷◌, ◌++◌, ◌*◌, replicate, ap, ◌∙◌}
use Rattle.record_show.proofs.Texts.{join, two_spaces}
use Rattle.record_show.proofs.text.put_indent.Goals as goal

pub loop-done-preserved : goal.loop-done-preserved
loop-done-preserved c =
    let old = c.args.out.now.items in
    join old c.loop-done.out.items c.extend_from_slice.new.self.items (replicate (2 * c.loop-done.done) 32) (32 ∷ 32 ∷ []) c.loop-done.invariant c.in_ok-extend_from_slice.ensures.items
    ∙ ap (λ (l : List ℕ). old ++ l) (two_spaces c.loop-done.done)
