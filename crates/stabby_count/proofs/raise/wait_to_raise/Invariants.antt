use Rattle.std.proofs.Common.{◌≡◌, ◌<◌}
use Rattle.stabby_count_word.specs.Changes.{kind_before}
use Rattle.stabby_count.specs.Raising.{IsOfSame, LooksTo, MayRaise, change_by}
use Rattle.stabby_count.specs.Tells.{Reads}
use Rattle.stabby_count.specs.declared.view.View.{View}
use Rattle.stabby_count.proofs.raise.wait_to_raise.Given as goal

abbrev pub invariant-loop : goal.invariant-loop
invariant-loop g l =
    (goal.iterator-loop g).can_next l.iterator' × (goal.iterator-loop g).is_finite l.iterator' × IsOfSame l.initial.share l.share × (l.share.kind ≡ kind_before (change_by l.raise)) × MayRaise l.raise l.share.view × Reads l.share.view l.found
    × ((before : View) → LooksTo before l.initial.share.view l.initial.found → LooksTo before l.share.view l.found) × (0 < l.initial.share.view.sole → (l.share.view ≡ l.initial.share.view) × (l.found ≡ l.initial.found))
