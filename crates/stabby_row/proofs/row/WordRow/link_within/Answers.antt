use Rattle.std.proofs.Common.{rules, ap, subst, sym, ◌-◌}
use Rattle.stabby_row.proofs.StepsKeepRule.{walks}
use Rattle.stabby_row.proofs.WalkLemmas.{stood_within, in_words}
use Rattle.stabby_row.specs.declared.view.View.{View}
use Rattle.stabby_row.specs.Seats.{Stood}
use Rattle.atomic_table.specs.Table.{Me}
use Rattle.stabby_row.proofs.row.WordRow.link_within.Goals as goal

pub load-requires : goal.load-requires
load-requires c = let r = c.requires.seat.1 in (search rules, in_words _ _ _ c.requires.seat.0 r c.requires.at.0.in_row, walks _ _ _ _ _ r.heavy)

pub returns-clause-node : goal.returns-clause-node
returns-clause-node c = let e = c.load.ensures.2 in let t = stood_within _ _ _ _ c.requires.at.0 c.requires.at.1 e.1 in
    (t.0, subst (λ (z : View). Stood z c.args.n (c.load.result - 1)) (ap (λ (z : Me _ View). z.0) (sym e.0)) t.1)
