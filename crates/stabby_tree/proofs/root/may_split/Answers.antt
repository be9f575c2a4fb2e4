use Rattle.std.proofs.Common.{◌≡◌, sym, ap, ◌∙◌, subst}
use Rattle.stabby_tree.specs.Order.{IsRising}
use Rattle.stabby_tree.specs.Shape.{below}
use Rattle.stabby_tree.proofs.Gap.{entries_rise}
use Rattle.stabby_tree.proofs.root.may_split.Goals as goal

pub place-at-requires : goal.place-at-requires
place-at-requires g c =
    record { rising = entries_rise g.T.Keyed.key_of g.T.Key.Ord.cmp g.met.T.Key.Ord.total _ _ (subst (IsRising g.T.Keyed.key_of g.T.Key.Ord.cmp) (ap below c.in-Some.is ∙ sym (ap (λ d. d.0) (c.behind-node.view_is ∙ c.deref.ensures))) c.requires.rising) }
