-- Kinds differ, and that a share is a strong one is a proposition.
use Rattle.std.proofs.Common.{◌≡◌, zero, suc, ◌∙◌, sym, ap, arith}
use mathlib.Core.Logic.{inl, inr}
use mathlib.Core.Sum.{⊎_set}
use Rattle.stabby_count_word.specs.Kinds.{Kind, number_of, one_strong, one_weak, held}
use Rattle.stabby_count_word.specs.Steps.{IsStrong}

pub strong_isnt_weak : ¬ (one_strong ≡ one_weak)
unfolding number_of
strong_isnt_weak e = let n : suc zero ≡ 6 = ap number_of e in omega arith

pub held_isnt_weak : ¬ (held ≡ one_weak)
unfolding number_of
held_isnt_weak e = let n : suc 8 ≡ 6 = ap number_of e in omega arith

pub strong_isnt_held : ¬ (one_strong ≡ held)
unfolding number_of
strong_isnt_held e = let n : suc zero ≡ 9 = ap number_of e in omega arith

pub Kind-set : IsSet Kind
Kind-set = hlevel ⊎_set

pub IsStrong-prop : (k : Kind) → IsProp (IsStrong k)
IsStrong-prop k (inl a) (inl b) = ap inl (Kind-set k one_strong a b)
IsStrong-prop k (inl a) (inr b) = absurd (strong_isnt_held (sym a ∙ b))
IsStrong-prop k (inr a) (inl b) = absurd (strong_isnt_held (sym b ∙ a))
IsStrong-prop k (inr a) (inr b) = ap inr (Kind-set k held a b)
