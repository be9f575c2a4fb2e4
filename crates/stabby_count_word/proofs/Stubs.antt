-- The stubs of a value's second name: cut, glued, compared and bounded. Assumes `Logic`.
use Rattle.std.proofs.Common.{◌≡◌, ℕ, ◌+◌, ◌-◌, ◌^◌, ◌<◌, ◌≤◌, [], ◌∷◌, refl, arith}
use mathlib.Mathlib.Data.Part.{◌∈◌}
use seplogic.Ra.Ura.{Ura}
use seplogic.Ra.Constructions.Prod
use seplogic.Ra.Instances.Ag
use base.Share
use base.Fraction.{full_share}
use base.FractionLaws.{Counts, counts_some, Counts-op, Counts-all, not-OpDef-full_share}
use base.Stored.{Gv, coded×, coded_ℕ}
use base.SetCodes.{coded, SetCoded-set}
use base.Logic.{SProp, ent, sep, guard, guard_i}
use base.Fml.{GName, Share, Fml, fex}
use types.Logic.{Logic, sem}
use types.Kit.{‵, ◌⊛◌, given, ◌$◌, ◌∵◌, !, qed, by, move, split, fpick, fpack, learn, check, use1, use2, rewrite, done}
use types.Owned.{own_glued, own_sum, own_join}
use denote.RattleType.{RattleType}
use denote.RawPtr.{Ptr, RawPtr}
use Rattle.atomic_table.specs.Seated.{halved, itself}
use Rattle.stabby_count_word.specs.Rights.{about, tag, stubs}

module _ {M : Type 1} {𝓤 : Ura M} (𝓛 : Logic 𝓤) (R : RattleType) (γ : GName) where
  abbrev Pr : Type 2
  Pr = SProp 𝓤

  abbrev ◌⊢◌ : Pr → Pr → Type 1
  P ⊢ Q = ent 𝓤 P Q

  abbrev ◌∗◌ : Pr → Pr → Pr
  P ∗ Q = sep 𝓤 P Q

  abbrev ⟦◌⟧ : Fml → Pr
  ⟦ P ⟧ = sem 𝓛 P

  infix 26 ◌⊢◌
  infixr 35 ◌∗◌
  abbrev U : Type 0
  U = ℕ × (R.Denot × Ptr)

  abbrev g : U → Gv
  g u = about R γ u

  sum : (v : Gv) (r e f : Share) → r ∈ Share.op e f → ◌∈◌ {α = Share × Gv} (r, v) (halved.op (e, v) (f, v))
  sum v r e f m = Prod.mk-mem-op Share.op (Ag.op (SetCoded-set (coded itself))) {a = e} {a' = f} {x = r} {b = v} {b' = v} {y = v} m (Ag.idem (SetCoded-set (coded itself)) v)

  pub stubs_in : (u : U) (k : ℕ) (e : Share) → Counts 63 e k → ⟦ tag R γ e u ⟧ ⊢ ⟦ stubs R γ u k ⟧
  stubs_in u k e c = qed 𝓛 (‵ (tag R γ e u) ∷ []) ∵ fpack ! (Counts 63 e k) (λ _. tag R γ e u) c $ fpack ! Share (λ s. fex (Counts 63 s k) (λ _. tag R γ s u)) e $ done !

  pub stubs_cut : (u : U) (k i j : ℕ) → 0 < i → 0 < j → i + j ≡ k → k ≤ 2 ^ 63 → ⟦ stubs R γ u k ⟧ ⊢ ⟦ stubs R γ u i ⟧ ∗ ⟦ stubs R γ u j ⟧
  stubs_cut u k i j pi pj total fits = let e = counts_some 63 i pi (omega arith) in let f = counts_some 63 j pj (omega arith) in
      qed 𝓛 (‵ (stubs R γ u k) ∷ []) ∵ fpick ! (λ r. fpick ! (λ c. let m = Counts-op 63 e.0 f.0 r i j k e.1 f.1 c total in
      use1 𝓛 (‵ (tag R γ e.0 u) ⊛ ‵ (tag R γ f.0 u)) (𝓛.algebras.own_cut halved γ (e.0, g u) (f.0, g u) (r, g u) (sum (g u) r e.0 f.0 m)) $ split ! $
      move ! (1 ∷ []) $ use1 𝓛 (‵ (stubs R γ u j)) (stubs_in u j f.0 f.1) $ move ! (1 ∷ []) $ use1 𝓛 (‵ (stubs R γ u i)) (stubs_in u i e.0 e.1) $ done !))

  glued : (u : U) (i j : ℕ) (r : Share) → Counts 63 r (i + j) → ⟦ stubs R γ u i ⟧ ∗ ⟦ stubs R γ u j ⟧ ⊢ ⟦ tag R γ r u ⟧
  glued u i j r c = qed 𝓛 (‵ (stubs R γ u i) ∷ ‵ (stubs R γ u j) ∷ []) ∵ fpick ! (λ e. fpick ! (λ ce. move ! (1 ∷ []) $ fpick ! (λ f. fpick ! (λ cf. let m = Counts-op 63 e f r i j (i + j) ce cf c refl in
      move ! (1 ∷ 0 ∷ []) $ use2 𝓛 (‵ (tag R γ r u)) (own_join 𝓛 halved γ (e, g u) (f, g u) (r, g u) (sum (g u) r e f m)) $ done !))))

  pub stubs_glue : (u : U) (i j : ℕ) → 0 < i + j → i + j ≤ 2 ^ 63 → ⟦ stubs R γ u i ⟧ ∗ ⟦ stubs R γ u j ⟧ ⊢ ⟦ stubs R γ u (i + j) ⟧
  stubs_glue u i j some fits = let r = counts_some 63 (i + j) some fits in
      qed 𝓛 (‵ (stubs R γ u i) ∷ ‵ (stubs R γ u j) ∷ []) ∵ use2 𝓛 (‵ (tag R γ r.0 u)) (glued u i j r.0 r.1) $ by ! (stubs_in u (i + j) r.0 r.1)

  pub stubs_whole : (u : U) → ⟦ stubs R γ u (2 ^ 63) ⟧ ⊢ ⟦ tag R γ full_share u ⟧
  stubs_whole u = qed 𝓛 (‵ (stubs R γ u (2 ^ 63)) ∷ []) ∵
      use1 𝓛 (‵ (stubs R γ u 1) ⊛ ‵ (stubs R γ u (2 ^ 63 - 1))) (stubs_cut u (2 ^ 63) 1 (2 ^ 63 - 1) (omega arith) (omega arith) (omega arith) (omega arith)) $ split ! $
      by ! (glued u 1 (2 ^ 63 - 1) full_share (Counts-all 63))

  -- no stub stands beside the whole name
  pub no_stub_beside : (u v : U) (k : ℕ) (Z : Pr) → ⟦ tag R γ full_share v ⟧ ∗ ⟦ stubs R γ u k ⟧ ⊢ Z
  no_stub_beside u v k Z = qed 𝓛 (‵ (tag R γ full_share v) ∷ ‵ (stubs R γ u k) ∷ []) ∵ move ! (1 ∷ []) $ fpick ! (λ e. fpick ! (λ _. move ! (1 ∷ 0 ∷ []) $
      by ! (own_glued 𝓛 halved γ (full_share, g v) (e, g u) Z (λ x m. absurd (not-OpDef-full_share e m.0.0)))))

  pub stubs_agree : (u v : U) (i j : ℕ) → ⟦ stubs R γ u i ⟧ ∗ ⟦ stubs R γ v j ⟧ ⊢ guard 𝓤 (u ≡ v) (⟦ stubs R γ u i ⟧ ∗ ⟦ stubs R γ v j ⟧)
  stubs_agree u v i j = qed 𝓛 (‵ (stubs R γ u i) ∷ ‵ (stubs R γ v j) ∷ []) ∵ fpick ! (λ e. fpick ! (λ ce. move ! (1 ∷ []) $ fpick ! (λ f. fpick ! (λ cf. move ! (1 ∷ 0 ∷ []) $
      let Z : Pr = ⟦ tag R γ e u ⟧ ∗ ⟦ tag R γ f v ⟧ in use2 𝓛 (given (u ≡ v) (‵ (tag R γ e u) ⊛ ‵ (tag R γ f v))) (own_sum 𝓛 halved γ (e, g u) (f, g v) (guard 𝓤 (u ≡ v) Z) (λ x m. guard_i 𝓤 (u ≡ v) Z ((coded× coded_ℕ (coded× R.coded RawPtr.coded)).inj u v m.0.1))) $
      learn ! (λ same. check ! same $ split ! $ move ! (1 ∷ []) $ use1 𝓛 (‵ (stubs R γ v j)) (stubs_in v j f cf) $ move ! (1 ∷ []) $ use1 𝓛 (‵ (stubs R γ u i)) (stubs_in u i e ce) $ done !)))))

  -- where one stub stands beside k, k is less than all
  pub one_beside : (u : U) (k : ℕ) (Z : Pr) → k ≡ 2 ^ 63 → ⟦ stubs R γ u k ⟧ ∗ ⟦ stubs R γ u 1 ⟧ ⊢ Z
  one_beside u k Z all = qed 𝓛 (‵ (stubs R γ u k) ∷ ‵ (stubs R γ u 1) ∷ []) ∵ rewrite ! 0 (λ (x : ℕ). ‵ (stubs R γ u x)) all refl $ use1 𝓛 (‵ (tag R γ full_share u)) (stubs_whole u) $ by ! (no_stub_beside u u 1 Z)
