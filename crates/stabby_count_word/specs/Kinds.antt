-- The kinds of right that a share of a counted block has.
use Rattle.std.specs.Prelude.{◌≡◌, ℕ, zero, suc}
use Rattle.std.proofs.Common.{refl, sym, ap, ◌∙◌}
use base.Stored.{Coded, coded_ℕ, coded_via}

pub data Kind : Type 0 where
  -- none
  nothing : Kind
  -- one strong share: the value can be read
  one_strong : Kind
  -- two strong shares, just after a clone
  two_strong : Kind
  -- the value outright, just after the last strong share ended
  last : Kind
  -- the value's room, once the value is out
  emptied : Kind
  -- the whole block, which nobody shares any more
  block : Kind
  -- one weak share
  one_weak : Kind
  -- one share of each, just after a downgrade or an upgrade
  strong_and_weak : Kind
  -- two weak shares, just after a weak clone
  two_weak : Kind
  -- the value itself, which a sole strong share may change and bring back
  held : Kind
  -- inside a proof alone: all rights to the value of a sole strong share, before it holds the value, and before it brings it back
  seized : Kind
  returning : Kind

unfoldable pub number_of : Kind → ℕ
number_of nothing = 0
number_of one_strong = 1
number_of two_strong = 2
number_of last = 3
number_of emptied = 4
number_of block = 5
number_of one_weak = 6
number_of strong_and_weak = 7
number_of two_weak = 8
number_of held = 9
number_of seized = 10
number_of returning = 11

pub kind_of : ℕ → Kind
kind_of zero = nothing
kind_of (suc zero) = one_strong
kind_of (suc (suc zero)) = two_strong
kind_of (suc (suc (suc zero))) = last
kind_of (suc (suc (suc (suc zero)))) = emptied
kind_of (suc (suc (suc (suc (suc zero))))) = block
kind_of (suc (suc (suc (suc (suc (suc zero)))))) = one_weak
kind_of (suc (suc (suc (suc (suc (suc (suc zero))))))) = strong_and_weak
kind_of (suc (suc (suc (suc (suc (suc (suc (suc zero)))))))) = two_weak
kind_of (suc (suc (suc (suc (suc (suc (suc (suc (suc zero))))))))) = held
kind_of (suc (suc (suc (suc (suc (suc (suc (suc (suc (suc zero)))))))))) = seized
kind_of (suc (suc (suc (suc (suc (suc (suc (suc (suc (suc (suc n))))))))))) = returning

pub back : (k : Kind) → kind_of (number_of k) ≡ k
unfolding kind_of number_of
back nothing = refl
back one_strong = refl
back two_strong = refl
back last = refl
back emptied = refl
back block = refl
back one_weak = refl
back strong_and_weak = refl
back two_weak = refl
back held = refl
back seized = refl
back returning = refl

abbrev pub kind_coded : Coded Kind
kind_coded = coded_via coded_ℕ number_of (λ x y e. sym (back x) ∙ (ap kind_of e ∙ back y))
