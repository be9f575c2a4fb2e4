use Rattle.std.proofs.Common.{rules, refl, sym, subst}
use Rattle.stabby_count.specs.Shared.{PartsWays, IsOrClones, arc_value}
use Rattle.stabby_count.proofs.strong.Arc.make_mut.Goals as goal

pub returns : goal.returns
returns g c = (
  (
    refl,
    (λ w lends. (
      refl,
      (search rules),
      (search rules),
      subst (λ x. PartsWays g.T.Clone.is_clone c.args.self.now c.part_ways.new.self x) (sym c.show_mut.ensures.value) (search rules),
    )),
    tt,
  ),
  record {
    writes_back = tt;
    value = subst (IsOrClones g.T.Clone.is_clone (arc_value c.args.self.now)) (sym c.show_mut.ensures.value) (search rules);
    sole = (search rules);
    sole_succeeds = (search rules);
    memory = tt;
  },
)
