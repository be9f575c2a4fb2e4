-- How a right is lent with its share, and cut in two. Assumes `Logic`.
use Rattle.std.proofs.Common.{ℕ, [], ◌∷◌, arith, ◌≡◌, sym, subst}
use mathlib.Core.Logic.{◌⊎◌, inl, inr}
use seplogic.Ra.Ura.{Ura}
use base.FractionLaws.{Counts}
use base.Logic.{ent, sep, upd_i, id⊢, apply∗, wand}
use base.Fml.{Lft, Incl, Incl-trans, Share, Fml, ftrue, fsep, fseps, fex, fwand, fupd, fdead, fbor, flft, flent}
use contract.BorrowLft.{meet_⊑_left}
use ghost.Rules.{span, thinned}
use types.Logic.{Logic, sem, lfts}
use types.Kit.{‵, raw, ◌⊛◌, some as exists, later, ◌$◌, ◌∵◌, !, qed, by, move, keep, use1, use2, split, fsplit, fsplit3, fjoin, fpick, pick, assume, suffices, await, updating, now, done}
use types.Tokens.{bor_open, obor_alter, bor_fracture, one_token}
use denote.Sharing.{ShrLaws, beside, one, held}
use denote.SharingLaws.{contraction, beside_shr_laws, one_shr_laws, held_shr_laws}
use denote.Moves.{moves_from}
use denote.Steps.{nothing}
use denote.Struct.Lending.{Lends}
use denote.RattleType.{RattleType}
use denote.RawPtr.{Ptr}
use denote.RattleType.{RowLaws}
use denote.SharingLaws.{nothing_shr_laws}
use denote.Struct.Lending.{Lends-nothing, lent_at, lent_at_shr_laws}
use mir.Syntax.{Ty}
use denote.Sharing.{said}
use denote.SharingLaws.{said_shr_laws}
use denote.Struct.Lending.{Lends-said, Lends-both, Lends-first, Lends-lies}
use denote.Shares.{SharesAt}
use denote.RawPtr.{lies_at}
use base.Fraction.{full_share}
use base.Stored.{Gv}
use Rattle.std.proofs.Common.{List}
use base.Fml.{finv}
use Rattle.std_alloc.specs.Arc.Ownership.{ptr_in_block}
use Rattle.stabby_count_word.specs.Kinds.{Kind, nothing as no_right, one_strong, two_strong, last, emptied, block, one_weak, strong_and_weak, two_weak, held as holding, seized, returning}
use Rattle.stabby_count_word.specs.Rights.{BlockNames, tag, parts, stubs, idle, shown, place, counted, right_to, right_shares, seat_owns, share_owns, share_shares}
use Rattle.stabby_count_word.proofs.Parts.{parts_in, parts_cut}
use Rattle.stabby_count_word.proofs.Stubs.{stubs_cut}

module _ (R : RattleType) (γ : base.Fml.GName) (u : ℕ × (R.Denot × Ptr)) (t : Lft → Fml) (L : ShrLaws t) where
  abbrev pub Owns : ℕ → Fml
  Owns k = fsep (parts R γ u k) (t (u.0 ∷ []))

  abbrev a : ℕ
  a = u.0

  abbrev pub Lent : Lft → Fml
  Lent = beside (one (λ q. flft (a ∷ []) q)) (held (a ∷ []) t)

  pub lent_laws : ShrLaws Lent
  lent_laws = beside_shr_laws (one (λ q. flft (a ∷ []) q)) (held (a ∷ []) t) (one_shr_laws (λ q. flft (a ∷ []) q)) (held_shr_laws (a ∷ []) t L)

  module _ {M : Type 1} {𝓤 : Ura M} (𝓛 : Logic 𝓤) where
    open 𝓛 use {H, A}

    module _ (k : ℕ) (κ : Lft) where
      again : (e : Share) → Counts 63 e k → ent 𝓤 (sep 𝓤 (sem 𝓛 (tag R γ e u)) (sem 𝓛 (t (a ∷ [])))) (sem 𝓛 (fwand (fsep (fdead κ) (fseps (flft (a ∷ []) e ∷ []))) (fupd (Owns k))))
      unfolding fseps
      again e c = qed 𝓛 (‵ (tag R γ e u) ∷ ‵ (t (a ∷ [])) ∷ []) ∵ assume ! (‵ (fsep (fdead κ) (fsep (flft (a ∷ []) e) ftrue))) $ suffices ! (sem 𝓛 (Owns k)) (upd_i 𝓤 (sem 𝓛 (Owns k))) $
          fsplit3 ! $ keep ! (1 ∷ 3 ∷ 4 ∷ []) $ fjoin ! $ use1 𝓛 (‵ (parts R γ u k)) (parts_in 𝓛 R γ u k e c) $ fjoin ! $ done !

      by_token : (q : Share) → ent 𝓤 (sep 𝓤 (A.bor κ (Owns k)) (A.lft κ q)) (H.⇛ (sep 𝓤 (sem 𝓛 (Lent κ)) (A.lft κ q)))
      unfolding fseps
      by_token q = qed 𝓛 (‵ (fbor κ (Owns k)) ∷ ‵ (flft κ q) ∷ []) ∵ updating ! $ bor_open ! tt $ move ! (1 ∷ []) $ fsplit ! $ fpick ! (λ e. fpick ! (λ c. fsplit ! $ move ! (1 ∷ 2 ∷ []) $
          move ! (1 ∷ []) $ use1 𝓛 (‵ (t (a ∷ [])) ⊛ ‵ (t (a ∷ []))) (contraction 𝓛 t L (a ∷ [])) $ split ! $ move ! (2 ∷ 0 ∷ []) $
          use2 𝓛 (‵ (fwand (fsep (fdead κ) (fseps (flft (a ∷ []) e ∷ []))) (fupd (Owns k)))) (again e c) $ nothing ! $ move ! (3 ∷ 0 ∷ []) $ fjoin ! $ move ! (3 ∷ 0 ∷ 1 ∷ []) $ obor_alter ! tt (flft (a ∷ []) e ∷ []) $
          use1 𝓛 (‵ (fbor κ (flft (a ∷ []) e)) ⊛ ‵ ftrue) (id⊢ 𝓤 _) $ split ! $ bor_fracture ! tt (λ r. flft (a ∷ []) r) e $ move ! (0 ∷ 3 ∷ []) $ fjoin ! $ now ! $ keep ! (0 ∷ 2 ∷ []) $ done !))

    pub Lends-part : (k : ℕ) (l : Lft) → Lends 𝓛 (Owns k) Lent l
    Lends-part k l κ ts inc sp = qed 𝓛 (‵ (fbor κ (Owns k)) ∷ raw (lfts 𝓛 ts) ∷ []) ∵ updating ! $ move ! (1 ∷ []) $
        use1 𝓛 (exists (λ (q : Share). ‵ (flft (span ts) q) ⊛ raw (wand 𝓤 (A.lft (span ts) q) (lfts 𝓛 ts)))) (one_token 𝓛 ts) $ pick ! (λ q. split ! $
        use1 𝓛 (‵ (flft κ (thinned κ q)) ⊛ raw (wand 𝓤 (A.lft κ (thinned κ q)) (A.lft (span ts) q))) (𝓛.lfts.lft-incl (span ts) κ q sp) $ split ! $ move ! (3 ∷ 0 ∷ []) $
        use2 𝓛 (later (‵ (Lent κ) ⊛ ‵ (flft κ (thinned κ q)))) (by_token k κ (thinned κ q)) $ await ! tt $ split ! $ move ! (1 ∷ 2 ∷ []) $
        use2 𝓛 (‵ (flft (span ts) q)) (apply∗ 𝓤 (A.lft κ (thinned κ q)) (A.lft (span ts) q)) $ move ! (0 ∷ 2 ∷ []) $ use2 𝓛 (raw (lfts 𝓛 ts)) (apply∗ 𝓤 (A.lft (span ts) q) (lfts 𝓛 ts)) $
        now ! $ move ! (1 ∷ 0 ∷ []) $ done !)

    pub part_sees : (κ : Lft) → ent 𝓤 (sem 𝓛 (Lent κ)) (sem 𝓛 (t κ))
    part_sees κ = qed 𝓛 (‵ (Lent κ) ∷ []) ∵ fsplit ! $ by ! (moves_from 𝓛 t L κ (a ∷ []) (a ∷ []) (meet_⊑_left (a ∷ []) κ))

-- how a right is cut in two: what stays, and what goes
abbrev pub near : Kind → Kind
near no_right = no_right
near one_strong = one_strong
near two_strong = one_strong
near last = last
near emptied = emptied
near block = block
near one_weak = one_weak
near strong_and_weak = one_strong
near two_weak = one_weak
near holding = holding
near seized = seized
near returning = returning

abbrev pub far : Kind → Kind
far no_right = no_right
far one_strong = no_right
far two_strong = one_strong
far last = no_right
far emptied = no_right
far block = no_right
far one_weak = no_right
far strong_and_weak = one_weak
far two_weak = one_weak
far holding = no_right
far seized = no_right
far returning = no_right

module _ (Z R : RattleType) (L : RowLaws R) (u : ℕ × (R.Denot × Ptr)) where
  abbrev seen : Lft → Fml
  seen = lent_at R (place Z R u.1.1) u.1.0

  abbrev seen_laws : ShrLaws seen
  seen_laws = lent_at_shr_laws R L (place Z R u.1.1) u.1.0

  right_laws : (k : Kind) → ShrLaws (right_shares Z R u k)
  right_laws no_right = nothing_shr_laws
  right_laws one_strong = lent_laws R 0 u seen seen_laws
  right_laws two_strong = nothing_shr_laws
  right_laws last = nothing_shr_laws
  right_laws emptied = nothing_shr_laws
  right_laws block = nothing_shr_laws
  right_laws one_weak = nothing_shr_laws
  right_laws strong_and_weak = nothing_shr_laws
  right_laws two_weak = nothing_shr_laws
  right_laws holding = seen_laws
  right_laws seized = nothing_shr_laws
  right_laws returning = nothing_shr_laws

  pub share_laws : (k : Kind) → ShrLaws (share_shares Z R u k)
  share_laws k = beside_shr_laws (said (ptr_in_block u.1.1)) (right_shares Z R u k) (said_shr_laws (ptr_in_block u.1.1) (λ _. tt)) (right_laws k)

  module _ {M : Type 1} {𝓤 : Ura M} (𝓛 : Logic 𝓤) (t : Z.Denot → Ty → Ptr → Fml) {W : Type 0} (e : W → Gv) (holds : ℕ → List W → Type 0) (d : BlockNames) where
    abbrev Right : Kind → Fml
    Right = right_to Z R d t u

    module _ (l : Lft) (shares : SharesAt 𝓛 R u.1.0 (denote.Memory.shared_of R u.1.0) l) where
      Lends-right : (k : Kind) → Lends 𝓛 (Right k) (right_shares Z R u k) l
      Lends-right no_right = Lends-nothing 𝓛 (Right no_right) l
      Lends-right one_strong = Lends-part R d.parts u seen seen_laws 𝓛 1 l
      Lends-right two_strong = Lends-nothing 𝓛 (Right two_strong) l
      Lends-right last = Lends-nothing 𝓛 (Right last) l
      Lends-right emptied = Lends-nothing 𝓛 (Right emptied) l
      Lends-right block = Lends-nothing 𝓛 (Right block) l
      Lends-right one_weak = Lends-nothing 𝓛 (Right one_weak) l
      Lends-right strong_and_weak = Lends-nothing 𝓛 (Right strong_and_weak) l
      Lends-right two_weak = Lends-nothing 𝓛 (Right two_weak) l
      Lends-right holding = Lends-first 𝓛 (lies_at R full_share (place Z R u.1.1) u.1.0) (idle R d.lend) seen l (Lends-lies 𝓛 R l (place Z R u.1.1) u.1.0 shares)
      Lends-right seized = Lends-nothing 𝓛 (Right seized) l
      Lends-right returning = Lends-nothing 𝓛 (Right returning) l

      pub Lends-share : (k : Kind) (id : ℕ) (w : W) → Lends 𝓛 (share_owns Z R t e holds d u k id w) (share_shares Z R u k) l
      Lends-share k id w = let F : Fml = ptr_in_block u.1.1 in let G : Fml = Right k in let S : Fml = seat_owns e d.views id w in let J : Fml = finv (counted Z R t e holds d u.1.1) in
          Lends-both 𝓛 F (fsep (fsep G S) J) (said F) (right_shares Z R u k) l (Lends-said 𝓛 F (λ _. tt) l) (Lends-first 𝓛 (fsep G S) J (right_shares Z R u k) l (Lends-first 𝓛 G S (right_shares Z R u k) l (Lends-right k)))

    -- a strong share shows the value, and so does one that holds it
    pub shows_value : (k : Kind) (κ : Lft) → (k ≡ one_strong) ⊎ (k ≡ holding) → ent 𝓤 (sem 𝓛 (right_shares Z R u k κ)) (sem 𝓛 (seen κ))
    shows_value k κ (inl is) = subst (λ (j : Kind). ent 𝓤 (sem 𝓛 (right_shares Z R u j κ)) (sem 𝓛 (seen κ))) (sym is) (part_sees R d.parts u seen seen_laws 𝓛 κ)
    shows_value k κ (inr is) = subst (λ (j : Kind). ent 𝓤 (sem 𝓛 (right_shares Z R u j κ)) (sem 𝓛 (seen κ))) (sym is) (id⊢ 𝓤 (sem 𝓛 (seen κ)))

    abbrev Cut : Kind → Kind → Kind → Type 1
    Cut k i j = ent 𝓤 (sem 𝓛 (Right k)) (sep 𝓤 (sem 𝓛 (Right i)) (sem 𝓛 (Right j)))

    whole : (k : Kind) → Cut k k no_right
    whole k = qed 𝓛 (‵ (Right k) ∷ []) ∵ nothing ! $ move ! (1 ∷ 0 ∷ []) $ done !

    two_parts : Cut two_strong one_strong one_strong
    two_parts = qed 𝓛 (‵ (Right two_strong) ∷ []) ∵ fsplit ! $ use1 𝓛 (‵ (parts R d.parts u 1) ⊛ ‵ (parts R d.parts u 1)) (parts_cut 𝓛 R d.parts u 2 1 1 (omega arith) (omega arith) (omega arith) (omega arith)) $ split ! $ move ! (2 ∷ []) $
        use1 𝓛 (‵ (shown Z R u) ⊛ ‵ (shown Z R u)) (contraction 𝓛 seen seen_laws (u.0 ∷ [])) $ split ! $ move ! (2 ∷ 0 ∷ []) $ fjoin ! $ move ! (2 ∷ 1 ∷ []) $ fjoin ! $ done !

    part_and_stub : Cut strong_and_weak one_strong one_weak
    part_and_stub = qed 𝓛 (‵ (Right strong_and_weak) ∷ []) ∵ fsplit ! $ done !

    two_stubs : Cut two_weak one_weak one_weak
    two_stubs = qed 𝓛 (‵ (Right two_weak) ∷ []) ∵ use1 𝓛 (‵ (stubs R d.stubs u 1) ⊛ ‵ (stubs R d.stubs u 1)) (stubs_cut 𝓛 R d.stubs u 2 1 1 (omega arith) (omega arith) (omega arith) (omega arith)) $ split ! $ done !

    pub cleaves : (k : Kind) → Cut k (near k) (far k)
    cleaves no_right = whole no_right
    cleaves one_strong = whole one_strong
    cleaves two_strong = two_parts
    cleaves last = whole last
    cleaves emptied = whole emptied
    cleaves block = whole block
    cleaves one_weak = whole one_weak
    cleaves strong_and_weak = part_and_stub
    cleaves two_weak = two_stubs
    cleaves holding = whole holding
    cleaves seized = whole seized
    cleaves returning = whole returning
