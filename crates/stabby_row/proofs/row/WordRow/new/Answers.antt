use Rattle.std.proofs.Common.{rules, arith, ◌≡◌, ℕ, ◌+◌, List, length, get_or, replicate, ap, ◌∙◌}
use Rattle.std.proofs.lemmas.List.{length-replicate, get_or-replicate}
use Rattle.stabby_row.proofs.MovesKeepRule.{opens}
use Rattle.stabby_row.proofs.row.WordRow.new.Goals as goal

pub of_words-requires : goal.of_words-requires
of_words-requires c =
    let n = c.args.words in
    let ws = c.as_slice.result.now in
    let is : ws ≡ replicate (n + 2) 0 = c.as_slice.ensures.value ∙ search rules in
    opens n ws (ap (λ (z : List ℕ). length z) is ∙ length-replicate (n + 2) 0) c.requires.1 (ap (λ (z : List ℕ). get_or z 0 0) is ∙ get_or-replicate (n + 2) 0 0 0 (omega arith)) (ap (λ (z : List ℕ). get_or z 1 0) is ∙ get_or-replicate (n + 2) 1 0 0 (omega arith))
