use Rattle.std.proofs.Common.{◌≡◌, arith}
use Rattle.stabby_tree.specs.Few.{few_items}
use Rattle.stabby_tree.specs.Spot.{lower}
use Rattle.stabby_tree.proofs.Spots.{placed}
use Rattle.stabby_tree.proofs.spot.place.Goals as goal

pub returns-in-Hit-clause-within : goal.returns-in-Hit-clause-within
returns-in-Hit-clause-within g c =
    let p = placed g.T.Keyed.key_of g.T.Key.Ord.cmp g.met.T.Key.Ord.total c.args.key.now (few_items c.args.entries.now) c.requires.rising in
    let at : c.in-Hit.at ≡ lower g.T.Keyed.key_of g.T.Key.Ord.cmp c.args.key.now (few_items c.args.entries.now) = omega (arith, c.in-Hit.ensures.spot.place) in
    omega (arith, p.within)

pub returns-in-Hit-clause-less : goal.returns-in-Hit-clause-less
returns-in-Hit-clause-less g c =
    let p = placed g.T.Keyed.key_of g.T.Key.Ord.cmp g.met.T.Key.Ord.total c.args.key.now (few_items c.args.entries.now) c.requires.rising in
    let at : c.in-Hit.at ≡ lower g.T.Keyed.key_of g.T.Key.Ord.cmp c.args.key.now (few_items c.args.entries.now) = omega (arith, c.in-Hit.ensures.spot.place) in
    rw at p.less

pub returns-in-Hit-clause-hit : goal.returns-in-Hit-clause-hit
returns-in-Hit-clause-hit g c =
    let p = placed g.T.Keyed.key_of g.T.Key.Ord.cmp g.met.T.Key.Ord.total c.args.key.now (few_items c.args.entries.now) c.requires.rising in
    let at : c.in-Hit.at ≡ lower g.T.Keyed.key_of g.T.Key.Ord.cmp c.args.key.now (few_items c.args.entries.now) = omega (arith, c.in-Hit.ensures.spot.place) in
    λ q. rw at (p.hit c.in-Hit.ensures.spot.meets_it)

pub returns-clause-within : goal.returns-clause-within
returns-clause-within g c =
    let p = placed g.T.Keyed.key_of g.T.Key.Ord.cmp g.met.T.Key.Ord.total c.args.key.now (few_items c.args.entries.now) c.requires.rising in
    let at : c.in-Below.at ≡ lower g.T.Keyed.key_of g.T.Key.Ord.cmp c.args.key.now (few_items c.args.entries.now) = omega (arith, c.in-Below.ensures.spot.place) in
    omega (arith, p.within)

pub returns-clause-less : goal.returns-clause-less
returns-clause-less g c =
    let p = placed g.T.Keyed.key_of g.T.Key.Ord.cmp g.met.T.Key.Ord.total c.args.key.now (few_items c.args.entries.now) c.requires.rising in
    let at : c.in-Below.at ≡ lower g.T.Keyed.key_of g.T.Key.Ord.cmp c.args.key.now (few_items c.args.entries.now) = omega (arith, c.in-Below.ensures.spot.place) in
    rw at p.less

pub returns-clause-miss : goal.returns-clause-miss
returns-clause-miss g c =
    let p = placed g.T.Keyed.key_of g.T.Key.Ord.cmp g.met.T.Key.Ord.total c.args.key.now (few_items c.args.entries.now) c.requires.rising in
    let at : c.in-Below.at ≡ lower g.T.Keyed.key_of g.T.Key.Ord.cmp c.args.key.now (few_items c.args.entries.now) = omega (arith, c.in-Below.ensures.spot.place) in
    λ q. rw at (p.miss c.in-Below.ensures.spot.misses)
