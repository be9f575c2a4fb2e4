use Rattle.std.proofs.Common.{rules, arith, ◌≡◌, ◌<◌, ◌∷◌, [], length}
use Rattle.std.proofs.lemmas.List.Elements.{All-from_recursion}
use Rattle.stabby_registry_uses.proofs.calls_tests.first_two_ranked.Goals as goal

pub ranks-requires : goal.ranks-requires
ranks-requires c =
    let long : length c.in_ok-entries.entries.items ≡ 4 = search rules in
    rw c.deref.ensures.value (c.in_ok-entries.ensures.can_rank (0 ∷ 1 ∷ []) (All-from_recursion (λ n. n < length c.in_ok-entries.entries.items) (0 ∷ 1 ∷ []) (omega (arith, long), (omega (arith, long), tt))))
