-- A value is shared: in a new block, and again in a block whose value was out. Assumes `Logic`.
use Rattle.std.proofs.Common.{ℕ, ◌+◌, ◌-◌, ◌^◌, ◌<◌, Bool, List, [], ◌∷◌, arith}
use seplogic.Ra.Ura.{Ura}
use base.Fraction.{full_share}
use base.Stored.{Coded}
use base.Logic.{SProp, ent, sep, ex}
use base.Fml.{Lft, Share, Fml, ftrue, fsep, fex, flft}
use types.Logic.{Logic, sem}
use types.Kit.{‵, raw, ◌⊛◌, some, pick, ◌$◌, ◌∵◌, !, qed, move, split, fsplit, fjoin, fjoin3, fpack, use1, use2, done}
use denote.RattleType.{RattleType, RowLaws}
use denote.RawPtr.{lies_at}
use denote.Struct.Lending.{Lends}
use base.FractionLaws.{Counts-all}
use base.Fml.{Incl, Incl-trans, fown}
use base.Logic.{via}
use contract.BorrowLft.{meet_⊑_left, meet_⊑_right}
use types.Tokens.{lft_new, bor_new}
use types.Owned.{own_new, basic}
use types.Kit.{split3, join, later, await, updating, now, use0}
use Rattle.atomic_table.specs.Seated.{halved}
use denote.RawPtr.{Ptr}
use denote.SharingLaws.{contraction}
use denote.Steps.{nothing}
use denote.Struct.Lending.{lent_at, lent_at_shr_laws}
use Rattle.atomic_table.specs.Seated.{word, fact, roster}
use Rattle.stabby_count_word.specs.Kinds.{one_strong, returning}
use Rattle.stabby_count_word.specs.Rights.{BlockNames, strong_half, weak_half, Phase, shared, about, tag, parts, stubs, idle, shown, place, state, right_to, counted, stands, standing_viewed}
use mir.Syntax.{Ty}
use mathlib.Core.Bool.{true}
use base.Logic.{ex_i}
use base.Fml.{finv}
use denote.RawPtr.{block_of, count_of}
use Rattle.std_alloc.specs.Arc.Ownership.{value_and_blocks}
use Rattle.stabby_count_word.proofs.Parts.{parts_in, parts_cut}
use Rattle.stabby_count_word.proofs.Stubs.{stubs_in}

-- a value is shared, in a block whose word begins with one strong share and the value's own unit
module _ {M : Type 1} {𝓤 : Ura M} (𝓛 : Logic 𝓤) (Z R : RattleType) (L : RowLaws R) (t : Z.Denot → Ty → Ptr → Fml) {X : Type 0} (cw : Coded X) (holds : ℕ → List X → Type 0) (ν : ℕ) (p : Ptr) (x : R.Denot) where
  open 𝓛 use {H, A}

  abbrev pub names_of : ℕ × (ℕ × (ℕ × (ℕ × ℕ))) → BlockNames
  names_of s = record { parts = s.0; views = ν; keep = s.1.0; stubs = s.1.1.0; lend = s.1.1.1.1 }

  abbrev pub Founded : ℕ × (ℕ × (ℕ × (ℕ × ℕ))) → SProp 𝓤
  Founded s = sep 𝓤 (A.inv (counted Z R t cw.code holds (names_of s) p)) (sem 𝓛 (right_to Z R (names_of s) t (s.1.1.1.0, (x, p)) one_strong))

  abbrev pub first_views : ℕ → List X → Fml
  first_views n views = fsep (roster cw.code ν 0 views) (fact (holds n views))

  abbrev at_value : Fml
  at_value = lies_at R full_share (place Z R p) x

  pub founds : (l μ : Lft) (q : Share) → Lends 𝓛 at_value (lent_at R (place Z R p) x) l → Incl μ l
      → ent 𝓤 (sep 𝓤 (sem 𝓛 (word (block_of p) (count_of p + 0) 4294967297)) (sep 𝓤 (sem 𝓛 (value_and_blocks Z t R p x)) (sep 𝓤 (A.lft μ q) (sem 𝓛 (fex (List X) (first_views 4294967297)))))) (H.⇛ (sep 𝓤 (ex 𝓤 Founded) (A.lft μ q)))
  founds l μ q lends inc = let n : ℕ = 4294967297 in qed 𝓛 (‵ (word (block_of p) (count_of p + 0) n) ∷ ‵ (value_and_blocks Z t R p x) ∷ ‵ (flft μ q) ∷ ‵ (fex (List X) (first_views 4294967297)) ∷ []) ∵ updating ! $ move ! (1 ∷ []) $ fsplit ! $ lft_new ! tt (λ a. let ux : ℕ × (R.Denot × Ptr) = (a, (x, p)) in
      move ! (1 ∷ []) $ bor_new ! tt (a ∷ []) $ move ! (2 ∷ 5 ∷ []) $ join ! $ move ! (1 ∷ 0 ∷ []) $
      use2 𝓛 (later (‵ (lent_at R (place Z R p) x (a ∷ [])) ⊛ ‵ (flft (a ∷ []) full_share) ⊛ ‵ (flft μ q)))
      (lends (a ∷ []) ((a ∷ [], full_share) ∷ (μ, q) ∷ []) (Incl-trans (meet_⊑_right (a ∷ []) μ) inc) (meet_⊑_left (a ∷ []) μ)) $ await ! tt $ split3 ! $
      -- [the value; the token; the other token; the deed; what frees; the word]
      use0 𝓛 (later (some (λ (ω : ℕ). ‵ (fown halved ω (full_share, about R 0 ux))))) (via 𝓤 _ (own_new 𝓛 halved (full_share, about R 0 ux)) (basic 𝓛 (ex 𝓤 (λ (ω : ℕ). sem 𝓛 (fown halved ω (full_share, about R 0 ux)))))) $ await ! tt $ pick ! (λ ω.
      use1 𝓛 (‵ (stubs R ω ux (2 ^ 63))) (stubs_in 𝓛 R ω ux (2 ^ 63) full_share (Counts-all 63)) $ move ! (1 ∷ 2 ∷ 3 ∷ 4 ∷ 5 ∷ 6 ∷ []) $
      use0 𝓛 (later (some (λ (δ : ℕ). ‵ (fown halved δ (full_share, about R 0 ux))))) (via 𝓤 _ (own_new 𝓛 halved (full_share, about R 0 ux)) (basic 𝓛 (ex 𝓤 (λ (δ : ℕ). sem 𝓛 (fown halved δ (full_share, about R 0 ux)))))) $ await ! tt $ pick ! (λ δ.
      fpack ! (ℕ × (R.Denot × Ptr)) (tag R δ full_share) ux $
      use0 𝓛 (later (some (λ (ε : ℕ). ‵ (fown halved ε (full_share, about R 0 ux))))) (via 𝓤 _ (own_new 𝓛 halved (full_share, about R 0 ux)) (basic 𝓛 (ex 𝓤 (λ (ε : ℕ). sem 𝓛 (fown halved ε (full_share, about R 0 ux)))))) $ await ! tt $ pick ! (λ ε.
      fpack ! (ℕ × (R.Denot × Ptr)) (tag R ε full_share) ux $ move ! (1 ∷ 0 ∷ []) $ fjoin ! $ move ! (1 ∷ 2 ∷ 3 ∷ 4 ∷ 5 ∷ 6 ∷ 7 ∷ []) $
      use0 𝓛 (later (some (λ (γ : ℕ). ‵ (fown halved γ (full_share, about R 0 ux))))) (via 𝓤 _ (own_new 𝓛 halved (full_share, about R 0 ux)) (basic 𝓛 (ex 𝓤 (λ (γ : ℕ). sem 𝓛 (fown halved γ (full_share, about R 0 ux)))))) $ await ! tt $ pick ! (λ γ.
      move ! (2 ∷ 0 ∷ []) $ fjoin ! $ use1 𝓛 (‵ (parts R γ ux (2 ^ 63))) (parts_in 𝓛 R γ ux (2 ^ 63) full_share (Counts-all 63)) $
      use1 𝓛 (‵ (parts R γ ux 1) ⊛ ‵ (parts R γ ux (2 ^ 63 - 1))) (parts_cut 𝓛 R γ ux (2 ^ 63) 1 (2 ^ 63 - 1) (omega arith) (omega arith) (omega arith) (omega arith)) $ split ! $
      move ! (2 ∷ []) $ use1 𝓛 (‵ (shown Z R ux) ⊛ ‵ (shown Z R ux)) (contraction 𝓛 (lent_at R (place Z R p) x) (lent_at_shr_laws R L (place Z R p) x) (a ∷ [])) $ split ! $ move ! (2 ∷ 0 ∷ []) $ fjoin ! $
      -- [one part; the value; the other parts; the token; the deed; what frees; the word; stubs; keep]
      let s : ℕ × (ℕ × (ℕ × (ℕ × ℕ))) = (γ, (δ, (ω, (a, ε)))) in let d : BlockNames = names_of s in move ! (2 ∷ 1 ∷ 4 ∷ []) $ fjoin3 ! $ move ! (6 ∷ 0 ∷ 5 ∷ []) $ fjoin3 ! $
      nothing ! $ fpack ! ((0 < strong_half n) × (0 < weak_half n)) (λ _. ftrue) (omega arith, omega arith) $ fjoin ! $ fpack ! (Phase (R.Denot × Ptr)) (state Z R d p n) (shared ux) $
      -- [the pool; one part; the token; what frees; the word]
      move ! (0 ∷ 3 ∷ []) $ fjoin ! $ move ! (3 ∷ 0 ∷ []) $ fjoin ! $ move ! (0 ∷ 3 ∷ []) $ fjoin ! $ fpack ! ℕ (standing_viewed Z R t cw.code holds d p) n $ fpack ! Bool (stands Z R t cw.code holds d p) true $
      use1 𝓛 (later (‵ (finv (counted Z R t cw.code holds d p)))) (𝓛.invs.inv_new (counted Z R t cw.code holds d p)) $ await ! tt $ join ! $ use1 𝓛 (raw (ex 𝓤 Founded)) (ex_i 𝓤 Founded s) $ now ! $ done !)))))

-- a value that a sole handle holds is shared anew, for another lifetime
module _ {M : Type 1} {𝓤 : Ura M} (𝓛 : Logic 𝓤) (Z R : RattleType) (t : Z.Denot → Ty → Ptr → Fml) (d : BlockNames) (p : Ptr) (x : R.Denot) where
  open 𝓛 use {H, A}

  abbrev pub refilled : ℕ → Fml
  refilled a = right_to Z R d t (a, (x, p)) returning

  abbrev held_value : Fml
  held_value = lies_at R full_share (place Z R p) x

  pub refills : (l μ : Lft) (q : Share) → Lends 𝓛 held_value (lent_at R (place Z R p) x) l → Incl μ l
      → ent 𝓤 (sep 𝓤 (sem 𝓛 held_value) (sep 𝓤 (sem 𝓛 (idle R d.lend)) (A.lft μ q))) (H.⇛ (sep 𝓤 (sem 𝓛 (fex ℕ refilled)) (A.lft μ q)))
  refills l μ q lends inc = qed 𝓛 (‵ held_value ∷ ‵ (idle R d.lend) ∷ ‵ (flft μ q) ∷ []) ∵ updating ! $ lft_new ! tt (λ a.
      move ! (1 ∷ []) $ bor_new ! tt (a ∷ []) $ move ! (2 ∷ 4 ∷ []) $ join ! $ move ! (1 ∷ 0 ∷ []) $
      use2 𝓛 (later (‵ (lent_at R (place Z R p) x (a ∷ [])) ⊛ ‵ (flft (a ∷ []) full_share) ⊛ ‵ (flft μ q)))
      (lends (a ∷ []) ((a ∷ [], full_share) ∷ (μ, q) ∷ []) (Incl-trans (meet_⊑_right (a ∷ []) μ) inc) (meet_⊑_left (a ∷ []) μ)) $ await ! tt $ split3 ! $
      -- [the value; the token; the other token; the deed; lend]
      move ! (3 ∷ 4 ∷ []) $ fjoin ! $ move ! (1 ∷ 0 ∷ []) $ fjoin ! $ move ! (1 ∷ 0 ∷ []) $ fjoin ! $ fpack ! ℕ refilled a $ now ! $ done !)
