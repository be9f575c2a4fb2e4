-- A share whose value comes back with a step: its right just before the step, and after it. Assumes `Logic`.
use Rattle.std.proofs.Common.{◌≡◌, ℕ, [], ◌∷◌, sym, subst, ◌∙◌, refl}
use mathlib.Core.Logic.{inl, inr}
use seplogic.Ra.Ura.{Ura}
use base.Fraction.{full_share}
use base.Logic.{ent, sep}
use base.Fml.{Lft, Incl, Share, Fml, fex, flft}
use types.Logic.{Logic, sem}
use types.Kit.{‵, ◌$◌, ◌∵◌, !, qed, by, fsplit, fpack, updating, now, done}
use mir.Syntax.{Ty}
use denote.RattleType.{RattleType}
use denote.RawPtr.{Ptr, lies_at}
use denote.Struct.Lending.{Lends, lent_at}
use Rattle.stabby_count_word.specs.Kinds.{Kind, one_strong, one_weak, held, returning}
use Rattle.stabby_count_word.specs.Rights.{BlockNames, place, right_to}
use Rattle.stabby_count_word.specs.Steps.{IsStrong, MayLook, Settles}
use Rattle.stabby_count_word.proofs.Founding.{refills}
use Rattle.stabby_count_word.proofs.KindFacts.{strong_isnt_weak, held_isnt_weak}

abbrev pub ready : {k : Kind} → MayLook k → Kind
ready (inl (inl is)) = one_strong
ready (inl (inr is)) = returning
ready (inr is) = one_weak

abbrev pub at_rest : {k : Kind} → MayLook k → Kind
at_rest (inl is) = one_strong
at_rest (inr is) = one_weak

weak_apart : (k : Kind) → k ≡ one_weak → ¬ (IsStrong k)
weak_apart k is (inl so) = strong_isnt_weak (sym so ∙ is)
weak_apart k is (inr so) = held_isnt_weak (sym so ∙ is)

pub settles : {k : Kind} (m : MayLook k) → Settles k (at_rest m)
settles {k} (inl (inl is)) = ((λ _. refl), (λ e. absurd (strong_isnt_weak (sym is ∙ e))))
settles {k} (inl (inr is)) = ((λ _. refl), (λ e. absurd (held_isnt_weak (sym is ∙ e))))
settles {k} (inr is) = ((λ (s : IsStrong k). absurd (weak_apart k is s)), (λ _. refl))

module _ {M : Type 1} {𝓤 : Ura M} (𝓛 : Logic 𝓤) (Z R : RattleType) (t : Z.Denot → Ty → Ptr → Fml) (d : BlockNames) (p : Ptr) (x : R.Denot) where
  open 𝓛 use {H, A}

  -- the right for the lifetime a, which a step takes
  abbrev pub readied : Kind → ℕ → Fml
  readied k a = right_to Z R d t (a, (x, p)) k

  abbrev Readies : (κ : Lft) (q : Share) → Kind → Kind → ℕ → Type 1
  Readies κ q j k a = ent 𝓤 (sep 𝓤 (sem 𝓛 (readied k a)) (A.lft κ q)) (H.⇛ (sep 𝓤 (sem 𝓛 (fex ℕ (readied j))) (A.lft κ q)))

  as_it_is : (κ : Lft) (q : Share) (k : Kind) (a : ℕ) → Readies κ q k k a
  as_it_is κ q k a = qed 𝓛 (‵ (readied k a) ∷ ‵ (flft κ q) ∷ []) ∵ updating ! $ fpack ! ℕ (readied k) a $ now ! $ done !

  pub readies : (l κ : Lft) (q : Share) → Lends 𝓛 (lies_at R full_share (place Z R p) x) (lent_at R (place Z R p) x) l → Incl κ l
      → {k : Kind} (m : MayLook k) (a : ℕ) → ent 𝓤 (sep 𝓤 (sem 𝓛 (readied k a)) (A.lft κ q)) (H.⇛ (sep 𝓤 (sem 𝓛 (fex ℕ (readied (ready m)))) (A.lft κ q)))
  readies l κ q lends inc (inl (inl is)) a = subst (λ (j : Kind). Readies κ q one_strong j a) (sym is) (as_it_is κ q one_strong a)
  readies l κ q lends inc (inr is) a = subst (λ (j : Kind). Readies κ q one_weak j a) (sym is) (as_it_is κ q one_weak a)
  readies l κ q lends inc (inl (inr is)) a = subst (λ (j : Kind). Readies κ q returning j a) (sym is) (
      qed 𝓛 (‵ (readied held a) ∷ ‵ (flft κ q) ∷ []) ∵ fsplit ! $ by ! (refills 𝓛 Z R t d p x l κ q lends inc))
