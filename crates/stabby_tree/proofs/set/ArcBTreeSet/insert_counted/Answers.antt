use Rattle.std.proofs.Common.{◌+◌, ap}
use Rattle.stabby_tree.proofs.AtSet.{after_old, after_new, after_refusal}
use Rattle.stabby_tree.proofs.set.ArcBTreeSet.insert_counted.Goals as goal

pub invariant_of-self-in-Ok-Same-Some : goal.invariant_of-self-in-Ok-Same-Some
invariant_of-self-in-Ok-Same-Some g c = after_old g.T.Keyed.key_of g.T.Key.Ord.cmp g.row.SPLIT_LIMIT g.met.T.Key.Ord.total c.args.value _ _ _ _ _ (rw (c.in-Ok-Same-Some.field-0-is, c.in-Ok-Same-Some.field-0-0-is) at c.in-Ok-Same-Some.ensures.value) c.self.invariant

pub invariant_of-self-in-Ok-Same-None : goal.invariant_of-self-in-Ok-Same-None
invariant_of-self-in-Ok-Same-None g c = after_new g.T.Keyed.key_of g.T.Key.Ord.cmp g.row.SPLIT_LIMIT g.met.T.Key.Ord.total c.args.value _ _ _ _ _ _ _ (rw (c.in-Ok-Same-None.field-0-is, c.in-Ok-Same-None.field-0-0-is) at c.in-Ok-Same-None.ensures.value) c.self.invariant c.saturating_add-self-inside.ensures c.self.invariant.4

pub invariant_of-self-in-Ok-Higher : goal.invariant_of-self-in-Ok-Higher
invariant_of-self-in-Ok-Higher g c = after_new g.T.Keyed.key_of g.T.Key.Ord.cmp g.row.SPLIT_LIMIT g.met.T.Key.Ord.total c.args.value _ _ _ _ _ _ _ (rw c.in-Ok-Higher.field-0-is at c.in-Ok-Higher.ensures.value) c.self.invariant c.saturating_add-self-inside-in-Ok-Higher.ensures (ap (λ n. n + 1) c.self.invariant.4)

pub returns-in-Ok-Same-Some-clause-rising : goal.returns-in-Ok-Same-Some-clause-rising
returns-in-Ok-Same-Some-clause-rising g c = (after_old g.T.Keyed.key_of g.T.Key.Ord.cmp g.row.SPLIT_LIMIT g.met.T.Key.Ord.total c.args.value _ _ _ _ _ (rw (c.in-Ok-Same-Some.field-0-is, c.in-Ok-Same-Some.field-0-0-is) at c.in-Ok-Same-Some.ensures.value) c.self.invariant).0

pub returns-in-Ok-Same-None-clause-rising : goal.returns-in-Ok-Same-None-clause-rising
returns-in-Ok-Same-None-clause-rising g c = (after_new g.T.Keyed.key_of g.T.Key.Ord.cmp g.row.SPLIT_LIMIT g.met.T.Key.Ord.total c.args.value _ _ _ _ _ _ _ (rw (c.in-Ok-Same-None.field-0-is, c.in-Ok-Same-None.field-0-0-is) at c.in-Ok-Same-None.ensures.value) c.self.invariant c.saturating_add-self-inside.ensures c.self.invariant.4).0

pub returns-in-Ok-Higher-clause-rising : goal.returns-in-Ok-Higher-clause-rising
returns-in-Ok-Higher-clause-rising g c = (after_new g.T.Keyed.key_of g.T.Key.Ord.cmp g.row.SPLIT_LIMIT g.met.T.Key.Ord.total c.args.value _ _ _ _ _ _ _ (rw c.in-Ok-Higher.field-0-is at c.in-Ok-Higher.ensures.value) c.self.invariant c.saturating_add-self-inside-in-Ok-Higher.ensures (ap (λ n. n + 1) c.self.invariant.4)).0

pub invariant_of-self : goal.invariant_of-self
invariant_of-self g c = after_refusal g.T.Keyed.key_of g.T.Key.Ord.cmp g.row.SPLIT_LIMIT c.args.value _ _ _ _ _ c.in-Err.ensures.value c.self.invariant
