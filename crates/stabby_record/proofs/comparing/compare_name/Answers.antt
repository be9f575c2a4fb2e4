use Rattle.std.proofs.Common.{◌≡◌, ℕ, List, [], ◌∷◌, length, rules, subst}
use Rattle.stabby_record.specs.Message.{name_bytes}
use Rattle.stabby_record.specs.Compared.{Compared}
use Rattle.stabby_record.proofs.Heads.{then_compared}
use Rattle.stabby_record.proofs.comparing.compare_name.Goals as goal

pub returns : goal.returns
returns c =
    let t : c.as_bytes-text.result.now ≡ c.args.name.now = search rules in
    let text = c.as_bytes-text.result.now in
    subst (λ (n : List ℕ). Compared c.compare-2.result (name_bytes n) c.args.bytes.now c.args.at) t
    (then_compared c.compare-2.result (length text ∷ []) text c.args.bytes.now c.args.at c.in_ok-at.at c.in_ok-at.ensures.0 c.in_ok-at.ensures.1 c.compare-2.ensures)
