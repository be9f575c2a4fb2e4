-- How a lender ends, as a relation: of one that follows what it lent, and of one that lent nothing. Assumes `Logic`.
use Rattle.std.proofs.Common.{Bool, true, false, not, T, ◌≡◌, [], ◌∷◌, refl}
use mathlib.Core.Option.{some, none}
use seplogic.Ra.Ura.{Ura}
use base.Logic.{ent}
use base.Fml.{GName, fres}
use types.Logic.{Logic, sem}
use types.Kit.{‵, ◌$◌, ◌∵◌, !, qed, fpack, done}
use denote.RattleType.{RattleType}
use denote.Follow.{follows, follows_by, such_by, follows_so}

pub is_true : (b : Bool) → T b → b ≡ true
is_true true t = refl
is_true false t = absurd t

pub is_false : (b : Bool) → T (not b) → b ≡ false
is_false true t = absurd t
is_false false t = refl

module _ {M : Type 1} {𝓤 : Ura M} (𝓛 : Logic 𝓤) (R S : RattleType) (γ : GName) (P : S.Denot → R.Denot → Type 0) (P₀ : R.Denot → Type 0) (F : S.Denot → R.Denot) (v : R.Denot) (lent : (w : S.Denot) → P w (F w)) (kept : P₀ v) where
  pub lends_such : (γ' : GName) → ent 𝓤 (sem 𝓛 (follows R S γ γ' F)) (sem 𝓛 (follows_so R S γ (some γ') P P₀))
  unfolding such_by follows_by
  lends_such γ' = qed 𝓛 (‵ (follows R S γ γ' F) ∷ []) ∵
      fpack ! ((s : (S.Denot → R.Denot) × R.Denot) × ((w : S.Denot) → P w (s.0 w)) × P₀ s.1) (λ s. follows_by R.Denot S.Denot R.coded.code S.coded.code γ (some γ') s.0.0 s.0.1) ((F, v), lent, kept) $ done !

  pub lends_none : ent 𝓤 (sem 𝓛 (fres γ (R.coded.code v))) (sem 𝓛 (follows_so R S γ none P P₀))
  unfolding such_by follows_by
  lends_none = qed 𝓛 (‵ (fres γ (R.coded.code v)) ∷ []) ∵
      fpack ! ((s : (S.Denot → R.Denot) × R.Denot) × ((w : S.Denot) → P w (s.0 w)) × P₀ s.1) (λ s. follows_by R.Denot S.Denot R.coded.code S.coded.code γ none s.0.0 s.0.1) ((F, v), lent, kept) $ done !
