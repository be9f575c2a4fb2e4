-- What a strong handle ends as, where a `&mut` to its value is returned.
use Rattle.std.specs.Prelude.{◌≡◌, Option, Result, is_some, IfOk}
use Rattle.std.specs.Borrow.{LendsSo, LendsSoOk, Fml, RattleType, MutBor}
use Rattle.stabby_layout.specs.declared.error.AllocationError.{AllocationError}
use Rattle.stabby_count.specs.Shared.{arc_value, arc_block, IsSole, IsLent, PartsWays, FindsOthers}
use Rattle.stabby_count.specs.declared.strong.Arc.{Arc}
use Rattle.stabby_count.specs.contracts.strong.Arc.{the_row}

module _ (T : RattleType) (a : MutBor (Arc T.Denot)) where
  -- what `get_mut` leaves: one read told whether it lends, and what is written is the value from then on
  abbrev pub arc_lends : Option (MutBor T.Denot) → Fml
  arc_lends r = LendsSo (the_row T) T a r (λ n w. IsLent a.now n w (is_some r)) (λ n. IsLent a.now n (arc_value a.now) (is_some r))

  -- what `make_mut` leaves: a handle that is the only one, with what is written as its value, or the handle as it was
  abbrev pub arc_lends_alone : (T.Denot → T.Denot → Type 0) → Result (MutBor T.Denot) AllocationError → Fml
  arc_lends_alone is_clone r = LendsSoOk (the_row T) T a r
      (λ n w. (arc_value n ≡ w) × IsSole n × (IsSole a.now → arc_block n ≡ arc_block a.now)
      × IfOk r (λ lent. PartsWays is_clone a.now n lent.now))
      (λ n. (arc_value n ≡ arc_value a.now) × (arc_block n ≡ arc_block a.now) × FindsOthers a.now n)
