-- One step on the word of a counted block, under its invariant: what the block keeps, and what the share has. Assumes `Logic`.
use Rattle.std.proofs.Common.{◌≡◌, ◌≢◌, ℕ, ◌+◌, ◌-◌, ◌%◌, ◌^◌, ◌<◌, T, eqb, Bool, List, [], ◌∷◌, ◌++◌, set, sym, refl, subst, arith, eq-eqb, ne_eqb, w64, lit<}
use mathlib.Core.Logic.{dite, ◌⊎◌, inl, inr}
use native.Mathlib.Decide.{ℕ_discrete}
use seplogic.Ra.Ura.{Ura}
use mir.Syntax.{ty_int}
use mir.Val.{vint, has_ty, WT}
use mathlib.Core.Option as maybe
use lib.ListN.{get_elem?}
use base.Fraction.{full_share}
use base.Stored.{Coded}
use base.Logic.{SProp, ent, sep, wand, ex, guard, all, all_e, upd, upd_i, id⊢}
use base.Fml.{GName, Fml, ftrue, fsep, fex}
use prog.Atomic.{either}
use types.Logic.{Logic, sem}
use types.Kit.{‵, raw, ◌⊛◌, given, some, pick, ◌$◌, ◌∵◌, !, qed, by, move, keep, drop, split, fsplit, fsplit3, fjoin, fjoin3, fpick, fpack, learn, show, frame, each, check, assume, suffices, settle, use1, use2, use3, rewrite, done}
use denote.RattleType.{RattleType, RowLaws}
use base.FractionLaws.{Counts-all, not-OpDef-full_share}
use base.Logic.{via}
use types.Tokens.{lft_new, bor_new, name_new}
use types.Owned.{own_step}
use types.Kit.{updating, now}
use Rattle.atomic_table.specs.Seated.{halved}
use denote.RawPtr.{Ptr, block_ptr}
use denote.SharingLaws.{contraction}
use denote.Steps.{nothing}
use denote.Struct.Lending.{lent_at, lent_at_shr_laws}
use Rattle.core.specs.Sync.RawAtomic.{asks, always}
use Rattle.atomic_table.specs.Seated.{word, fact, roster}
use Rattle.atomic_table.specs.Marked.{Keeps}
use Rattle.atomic_table.proofs.Roster.{Moved, moves, Joined, joins}
use Rattle.atomic_table.proofs.Marking.{moved, follows}
use Rattle.stabby_count_word.specs.Kinds.{Kind, nothing as no_right, one_strong, two_strong, last, emptied, block, one_weak, strong_and_weak, two_weak, held, seized, returning}
use Rattle.stabby_count_word.specs.Rights.{BlockNames, Cuts, strong_half, weak_half, Phase, gone, shared, due, away, both, about, tag, share, parts, stubs, idle, one_part, shown, deed, room, place, all_but, state, pool, freed, right_to, counted, stands, standing, standing_viewed, beside, all_views, viewed, seat_owns}
use mir.Syntax.{Ty}
use mathlib.Core.Bool.{true, false}
use mathlib.Core.List.{Mem, not-mem-nil}
use base.Logic.{ex_i}
use base.Fml.{finv, fnamed}
use denote.RawPtr.{block_of, count_of}
use Rattle.core.specs.Sync.RawAtomic.{Shift, rests, enters, leaves, along, found, back, if_none}
use Rattle.std_alloc.specs.Arc.Ownership.{arc_inner_dealloc}
use Rattle.stabby_count_word.specs.Changes.{Change, clone, downgrade, clone_weak, upgrade, end_sole, MayChange, kind_after, kind_before}
use Rattle.stabby_count_word.specs.Steps.{IsStrong, MayLook}
use Rattle.stabby_count_word.proofs.Resting.{ready, at_rest}
use Rattle.stabby_count_word.proofs.Parts.{parts_in, parts_cut, parts_glue, parts_whole, none_beside, parts_agree}
use Rattle.stabby_count_word.proofs.Stubs.{stubs_in, stubs_cut, stubs_glue, stubs_whole, no_stub_beside, stubs_agree, one_beside}

module _ {M : Type 1} {𝓤 : Ura M} (𝓛 : Logic 𝓤) where
  open 𝓛 use {H, A}

  abbrev Pr : Type 2
  Pr = SProp 𝓤

  abbrev ◌⊢◌ : Pr → Pr → Type 1
  P ⊢ Q = ent 𝓤 P Q

  abbrev ◌∗◌ : Pr → Pr → Pr
  P ∗ Q = sep 𝓤 P Q

  abbrev ◌-∗◌ : Pr → Pr → Pr
  P -∗ Q = wand 𝓤 P Q

  abbrev ⟦◌⟧ : Fml → Pr
  ⟦ P ⟧ = sem 𝓛 P

  infix 26 ◌⊢◌
  infixr 35 ◌∗◌
  infixr 30 ◌-∗◌
  module _ (Z R : RattleType) (t : Z.Denot → Ty → Ptr → Fml) {X : Type 0} (cw : Coded X) (holds : ℕ → List X → Type 0) (d : BlockNames) (u : ℕ × (R.Denot × Ptr)) where
    abbrev γ : GName
    γ = d.parts

    abbrev ω : GName
    ω = d.stubs

    abbrev U : Type 0
    U = ℕ × (R.Denot × Ptr)

    abbrev p : Ptr
    p = u.1.1

    abbrev b : ℕ
    b = block_of p

    abbrev e : ℕ
    e = count_of p + 0

    abbrev Pool : ℕ → Fml
    Pool = pool Z R d p

    abbrev St : ℕ → Phase (R.Denot × Ptr) → Fml
    St = state Z R d p

    abbrev I : Fml
    I = counted Z R t cw.code holds d p

    abbrev Right : Kind → Fml
    Right = right_to Z R d t u

    abbrev Frees : Fml
    Frees = arc_inner_dealloc Z t R p

    abbrev Freed : Fml
    Freed = freed Z R d

    abbrev V : ℕ → Fml
    V = all_views Z R t cw.code holds d

    -- the block after a step that writes m, unless it was freed
    abbrev closes_at : ℕ → Bool → Fml
    closes_at m true = standing Z R d t p m
    closes_at m false = Freed

    abbrev pub Close : ℕ → Fml
    Close m = fex Bool (closes_at m)

    -- the views of a block that was freed are let go
    closed_as : (m : ℕ) (y : Bool) → ⟦ closes_at m y ⟧ ∗ ⟦ V m ⟧ ⊢ ⟦ I ⟧
    closed_as m true = qed 𝓛 (‵ (standing Z R d t p m) ∷ ‵ (V m) ∷ []) ∵ fjoin ! $ fpack ! ℕ (standing_viewed Z R t cw.code holds d p) m $ fpack ! Bool (stands Z R t cw.code holds d p) true $ done !
    closed_as m false = qed 𝓛 (‵ Freed ∷ ‵ (V m) ∷ []) ∵ fpack ! Bool (stands Z R t cw.code holds d p) false $ keep ! (0 ∷ []) $ done !

    -- ---- a step changes the block's side and the views' side at once. K is a right that does not stand beside a freed block
    module _ (f : ℕ → ℕ) (K J : Fml) (left right : ℕ → Fml) (refutes : (W : Pr) → ⟦ Freed ⟧ ∗ ⟦ K ⟧ ⊢ W)
        (keeps : (n : ℕ) → n < 2 ^ 64 → ⟦ word b e (f n) ⟧ ∗ (⟦ beside Z R d t p n ⟧ ∗ ⟦ K ⟧) ⊢ upd 𝓤 (⟦ Close (f n) ⟧ ∗ ⟦ left n ⟧))
        (views : (n : ℕ) → n < 2 ^ 64 → ⟦ V n ⟧ ∗ ⟦ J ⟧ ⊢ upd 𝓤 (⟦ V (f n) ⟧ ∗ ⟦ right n ⟧)) where
      abbrev after : ℕ → Fml
      after n = fsep (left n) (right n)

      abbrev Fv : List (ℕ × Fml) → Pr
      Fv l = ex 𝓤 (found 𝓛 l b e f always after)

      finds : (j : ℕ) → ⟦ fex ℕ (standing_viewed Z R t cw.code holds d p) ⟧ ∗ ⟦ fsep K J ⟧ ⊢ Fv ((j, I) ∷ [])
      finds j = let O : List (ℕ × Fml) = (j, I) ∷ [] in qed 𝓛 (‵ (fex ℕ (standing_viewed Z R t cw.code holds d p)) ∷ ‵ (fsep K J) ∷ []) ∵ fpick ! (λ n. fsplit ! $ fsplit ! $
          use1 𝓛 (given (T (has_ty (ty_int w64) (vint w64 n)) × WT (vint w64 n)) (‵ (word b e n))) (𝓛.laws.at_wt full_share (ty_int w64) b e (vint w64 n)) $ learn ! (λ typed.
          show ! (found 𝓛 O b e f always after) n $ frame ! $ each ! (λ (_ : always n). back 𝓛 O b e f after n) (λ _. assume ! (‵ (word b e (f n))) $ let W : Pr = ⟦ I ⟧ ∗ upd 𝓤 ⟦ after n ⟧ in
          suffices ! _ (ex_i 𝓤 (λ (s : Shift). along 𝓛 s (if_none 𝓛 ⟦ after n ⟧) O) (leaves rests)) $
          -- [the word; beside; the views; both rights]
          move ! (3 ∷ []) $ fsplit ! $ move ! (2 ∷ 3 ∷ 0 ∷ []) $ use3 𝓛 (raw (upd 𝓤 (⟦ Close (f n) ⟧ ∗ ⟦ left n ⟧))) (keeps n typed.1.fits) $ settle 𝓛 W (‵ (Close (f n)) ⊛ ‵ (left n)) $ split ! $
          move ! (3 ∷ 2 ∷ []) $ use2 𝓛 (raw (upd 𝓤 (⟦ V (f n) ⟧ ∗ ⟦ right n ⟧))) (views n typed.1.fits) $ settle 𝓛 W (‵ (V (f n)) ⊛ ‵ (right n)) $ suffices ! _ (upd_i 𝓤 W) $ split ! $
          -- [the views; the right side; the block; the left side]
          move ! (3 ∷ 1 ∷ []) $ fjoin ! $ move ! (2 ∷ 1 ∷ 0 ∷ []) $ fpick ! (λ y. use2 𝓛 (‵ I) (closed_as (f n) y) $ frame ! $ suffices ! _ (upd_i 𝓤 ⟦ after n ⟧) $ done !))))

      cases : (j : ℕ) (y : Bool) → ⟦ stands Z R t cw.code holds d p y ⟧ ∗ ⟦ fsep K J ⟧ ⊢ Fv ((j, I) ∷ [])
      cases j true = finds j
      cases j false = qed 𝓛 (‵ Freed ∷ ‵ (fsep K J) ∷ []) ∵ move ! (1 ∷ []) $ fsplit ! $ keep ! (2 ∷ 0 ∷ []) $ by ! (refutes (Fv ((j, I) ∷ [])))

      pub steps_both : A.inv I ∗ ⟦ fsep K J ⟧ ⊢ asks 𝓛 (block_ptr b e) f always after
      steps_both = qed 𝓛 (‵ (finv I) ∷ ‵ (fsep K J) ∷ []) ∵ use1 𝓛 (some (λ (j : ℕ). ‵ (fnamed j I))) (𝓛.invs.inv_named I) $ pick ! (λ j. let F : Pr = Fv ((j, I) ∷ []) in
          suffices ! _ (ex_i 𝓤 (λ (s : Shift). along 𝓛 s Fv []) (enters j I rests)) $ suffices ! _ (upd_i 𝓤 (guard 𝓤 (¬ Mem j []) (A.named j I ∗ (⟦ I ⟧ -∗ upd 𝓤 F)))) $
          check ! (λ m. not-mem-nil m) $ frame ! $ assume ! (‵ I) $ suffices ! _ (upd_i 𝓤 F) $ fpick ! (λ y. by ! (cases j y)))

    abbrev Seat : ℕ → X → Fml
    Seat id v = seat_owns cw.code d.views id v

    -- the same where the seat's view changes under the rule
    steps_upd : (f : ℕ → ℕ) (K : Fml) (left : ℕ → Fml) → ((W : Pr) → ⟦ Freed ⟧ ∗ ⟦ K ⟧ ⊢ W) → ((n : ℕ) → n < 2 ^ 64 → ⟦ word b e (f n) ⟧ ∗ (⟦ beside Z R d t p n ⟧ ∗ ⟦ K ⟧) ⊢ upd 𝓤 (⟦ Close (f n) ⟧ ∗ ⟦ left n ⟧))
        → (id : ℕ) (v : X) (then : ℕ → X → Type 0) → Keeps holds id v f then → A.inv I ∗ ⟦ fsep K (Seat id v) ⟧ ⊢ asks 𝓛 (block_ptr b e) f always (λ n. fsep (left n) (moved 𝓛 cw holds d.views then id n))
    steps_upd f K left refutes keeps id v then law = steps_both f K (Seat id v) left (moved 𝓛 cw holds d.views then id) refutes keeps (follows 𝓛 cw holds d.views id v f then law)

    steps : (f : ℕ → ℕ) (K : Fml) (left : ℕ → Fml) → ((W : Pr) → ⟦ Freed ⟧ ∗ ⟦ K ⟧ ⊢ W) → ((n : ℕ) → n < 2 ^ 64 → ⟦ word b e (f n) ⟧ ∗ (⟦ beside Z R d t p n ⟧ ∗ ⟦ K ⟧) ⊢ ⟦ Close (f n) ⟧ ∗ ⟦ left n ⟧)
        → (id : ℕ) (v : X) (then : ℕ → X → Type 0) → Keeps holds id v f then → A.inv I ∗ ⟦ fsep K (Seat id v) ⟧ ⊢ asks 𝓛 (block_ptr b e) f always (λ n. fsep (left n) (moved 𝓛 cw holds d.views then id n))
    steps f K left refutes keeps = steps_upd f K left refutes (λ n fits. via 𝓤 _ (keeps n fits) (upd_i 𝓤 (⟦ Close (f n) ⟧ ∗ ⟦ left n ⟧)))

    -- ---- the phases
    shared_in : (n : ℕ) (v : U) → (0 < strong_half n) × (0 < weak_half n) → ⟦ both Z R d ⟧ ∗ (⟦ all_but Z R d (strong_half n) v ⟧ ∗ ⟦ stubs R ω v (2 ^ 63 + 1 - weak_half n) ⟧) ⊢ ⟦ Pool n ⟧
    shared_in n v pos = qed 𝓛 (‵ (both Z R d) ∷ ‵ (all_but Z R d (strong_half n) v) ∷ ‵ (stubs R ω v (2 ^ 63 + 1 - weak_half n)) ∷ []) ∵ fjoin3 ! $ nothing ! $ fpack ! ((0 < strong_half n) × (0 < weak_half n)) (λ _. ftrue) pos $ fjoin ! $ fpack ! (Phase (R.Denot × Ptr)) (St n) (shared v) $ done !

    due_in : (n : ℕ) (v : U) → (strong_half n ≡ 0) × (0 < weak_half n) → ⟦ idle R d.lend ⟧ ∗ (⟦ idle R γ ⟧ ∗ ⟦ stubs R ω v (2 ^ 63 + 1 - weak_half n) ⟧) ⊢ ⟦ Pool n ⟧
    due_in n v none = qed 𝓛 (‵ (idle R d.lend) ∷ ‵ (idle R γ) ∷ ‵ (stubs R ω v (2 ^ 63 + 1 - weak_half n)) ∷ []) ∵ fjoin3 ! $ nothing ! $ fpack ! ((strong_half n ≡ 0) × (0 < weak_half n)) (λ _. ftrue) none $ fjoin ! $ fpack ! (Phase (R.Denot × Ptr)) (St n) (due v) $ done !

    gone_in : (n : ℕ) (v : U) → strong_half n ≡ 0 → ⟦ fsep (both Z R d) (room Z R p) ⟧ ∗ (⟦ idle R γ ⟧ ∗ ⟦ stubs R ω v (2 ^ 63 - weak_half n) ⟧) ⊢ ⟦ Pool n ⟧
    gone_in n v none = qed 𝓛 (‵ (fsep (both Z R d) (room Z R p)) ∷ ‵ (idle R γ) ∷ ‵ (stubs R ω v (2 ^ 63 - weak_half n)) ∷ []) ∵ fjoin3 ! $ nothing ! $ fpack ! (strong_half n ≡ 0) (λ _. ftrue) none $ fjoin ! $ fpack ! (Phase (R.Denot × Ptr)) (St n) (gone v) $ done !

    -- the invariant again, after a step that leaves the word at m
    alive_in : (m : ℕ) → ⟦ word b e m ⟧ ∗ (⟦ Pool m ⟧ ∗ ⟦ Frees ⟧) ⊢ ⟦ Close m ⟧
    alive_in m = qed 𝓛 (‵ (word b e m) ∷ ‵ (Pool m) ∷ ‵ Frees ∷ []) ∵ fjoin3 ! $ fpack ! Bool (closes_at m) true $ done !

    freed_in : (m : ℕ) (v : U) → ⟦ both Z R d ⟧ ∗ (⟦ idle R γ ⟧ ∗ ⟦ tag R ω full_share v ⟧) ⊢ ⟦ Close m ⟧
    freed_in m v = qed 𝓛 (‵ (both Z R d) ∷ ‵ (idle R γ) ∷ ‵ (tag R ω full_share v) ∷ []) ∵ move ! (2 ∷ []) $ fpack ! U (tag R ω full_share) v $ move ! (1 ∷ 2 ∷ 0 ∷ []) $ fjoin3 ! $ fpack ! Bool (closes_at m) false $ done !

    -- a step that keeps the block
    stays : (f : ℕ → ℕ) (K : Fml) (left : ℕ → Fml) → ((n : ℕ) → n < 2 ^ 64 → ⟦ Pool n ⟧ ∗ ⟦ K ⟧ ⊢ ⟦ Pool (f n) ⟧ ∗ ⟦ left n ⟧)
        → (n : ℕ) → n < 2 ^ 64 → ⟦ word b e (f n) ⟧ ∗ (⟦ beside Z R d t p n ⟧ ∗ ⟦ K ⟧) ⊢ ⟦ Close (f n) ⟧ ∗ ⟦ left n ⟧
    stays f K left value n fits = qed 𝓛 (‵ (word b e (f n)) ∷ ‵ (beside Z R d t p n) ∷ ‵ K ∷ []) ∵ move ! (1 ∷ []) $ fsplit ! $ move ! (0 ∷ 3 ∷ []) $
        use2 𝓛 (‵ (Pool (f n)) ⊛ ‵ (left n)) (value n fits) $ split ! $ move ! (3 ∷ 0 ∷ 2 ∷ []) $ use3 𝓛 (‵ (Close (f n))) (alive_in (f n)) $ done !

    abbrev One : Fml
    One = Right one_strong

    abbrev Stub : Fml
    Stub = Right one_weak

    abbrev Taken : Fml
    Taken = Right emptied

    -- what does not stand beside a freed block
    freed_part : (W : Pr) → ⟦ Freed ⟧ ∗ ⟦ One ⟧ ⊢ W
    freed_part W = qed 𝓛 (‵ Freed ∷ ‵ One ∷ []) ∵ fsplit3 ! $ move ! (1 ∷ []) $ fpick ! (λ w. move ! (3 ∷ []) $ fsplit ! $ keep ! (2 ∷ 0 ∷ []) $ by ! (none_beside 𝓛 R γ u w 1 W))

    freed_stub : (W : Pr) → ⟦ Freed ⟧ ∗ ⟦ Stub ⟧ ⊢ W
    freed_stub W = qed 𝓛 (‵ Freed ∷ ‵ Stub ∷ []) ∵ fsplit3 ! $ move ! (2 ∷ []) $ fpick ! (λ w. keep ! (0 ∷ 3 ∷ []) $ by ! (no_stub_beside 𝓛 R ω u w 1 W))

    abbrev pub has : (Kind → Type 0) → Kind → Fml
    has good r = fsep (fact (good r)) (Right r)

    -- the right after: its kind is as `good` says
    abbrev pub Has : (Kind → Type 0) → Fml
    Has good = fex Kind (has good)

    Has-in : (good : Kind → Type 0) (r : Kind) → good r → ⟦ Right r ⟧ ⊢ ⟦ Has good ⟧
    Has-in good r h = qed 𝓛 (‵ (Right r) ∷ []) ∵ nothing ! $ fpack ! (good r) (λ _. ftrue) h $ fjoin ! $ fpack ! Kind (has good) r $ done !

    -- a part is out only while the value is shared
    due_part : (n : ℕ) (v : U) (W : Pr) → ⟦ St n (due v) ⟧ ∗ ⟦ One ⟧ ⊢ W
    due_part n v W = qed 𝓛 (‵ (St n (due v)) ∷ ‵ One ∷ []) ∵ fsplit3 ! $ move ! (2 ∷ []) $ fsplit ! $ fpick ! (λ w. move ! (4 ∷ []) $ fsplit ! $ keep ! (2 ∷ 0 ∷ []) $ by ! (none_beside 𝓛 R γ u w 1 W))

    gone_part : (n : ℕ) (v : U) (W : Pr) → ⟦ St n (gone v) ⟧ ∗ ⟦ One ⟧ ⊢ W
    gone_part n v W = qed 𝓛 (‵ (St n (gone v)) ∷ ‵ One ∷ []) ∵ fsplit3 ! $ move ! (2 ∷ []) $ fsplit ! $ fpick ! (λ w. move ! (4 ∷ []) $ fsplit ! $ keep ! (2 ∷ 0 ∷ []) $ by ! (none_beside 𝓛 R γ u w 1 W))

    away_part : (n : ℕ) (W : Pr) → ⟦ St n away ⟧ ∗ ⟦ One ⟧ ⊢ W
    away_part n W = qed 𝓛 (‵ (St n away) ∷ ‵ One ∷ []) ∵ fsplit3 ! $ move ! (2 ∷ []) $ fsplit ! $ fpick ! (λ w. move ! (4 ∷ []) $ fsplit ! $ keep ! (2 ∷ 0 ∷ []) $ by ! (none_beside 𝓛 R γ u w 1 W))

    away_stub : (n : ℕ) (W : Pr) → ⟦ St n away ⟧ ∗ ⟦ Stub ⟧ ⊢ W
    away_stub n W = qed 𝓛 (‵ (St n away) ∷ ‵ Stub ∷ []) ∵ fsplit3 ! $ move ! (2 ∷ []) $ fsplit ! $ move ! (1 ∷ []) $ fpick ! (λ w. keep ! (0 ∷ 4 ∷ []) $ by ! (no_stub_beside 𝓛 R ω u w 1 W))

    -- ---- exchanges
    abbrev pub met : ℕ → Kind → Kind → ℕ → Kind → Type 0
    met old hits else_ n r = (n ≡ old → r ≡ hits) × (n ≢ old → r ≡ else_)

    exchanged : (old new : ℕ) (hits else_ : Kind) (K : Fml) → ⟦ K ⟧ ⊢ ⟦ Right else_ ⟧ → ⟦ Pool old ⟧ ∗ ⟦ K ⟧ ⊢ ⟦ Pool new ⟧ ∗ ⟦ Has (met old hits else_ old) ⟧
        → (n : ℕ) → ⟦ Pool n ⟧ ∗ ⟦ K ⟧ ⊢ ⟦ Pool (either (eqb n old) new n) ⟧ ∗ ⟦ Has (met old hits else_ n) ⟧
    exchanged old new hits else_ K same hit n = let F : Bool → Type 1 = λ y. ⟦ Pool n ⟧ ∗ ⟦ K ⟧ ⊢ ⟦ Pool (either y new n) ⟧ ∗ ⟦ Has (met old hits else_ n) ⟧ in dite (ℕ_discrete n old)
        (λ e. subst F (sym (eq-eqb n old e)) (subst (λ (k : ℕ). ⟦ Pool k ⟧ ∗ ⟦ K ⟧ ⊢ ⟦ Pool new ⟧ ∗ ⟦ Has (met old hits else_ k) ⟧) (sym e) hit))
        (λ miss. subst F (sym (ne_eqb n old miss)) (qed 𝓛 (‵ (Pool n) ∷ ‵ K ∷ []) ∵ move ! (1 ∷ []) $ use1 𝓛 (‵ (Right else_)) same $ use1 𝓛 (‵ (Has (met old hits else_ n))) (Has-in (met old hits else_ n) else_ ((λ e. absurd (miss e)), (λ _. refl))) $ move ! (1 ∷ 0 ∷ []) $ done !))

    module _ (old new : ℕ) (some_ : 0 < strong_half old) (few : strong_half old < 4294967295) (is : new ≡ old + 4294967296) where
      abbrev pub rose : ℕ → Kind → Type 0
      rose = met old two_strong one_strong

      abbrev s : ℕ
      s = strong_half old

      s' : strong_half new ≡ s + 1
      s' = omega arith

      l' : weak_half new ≡ weak_half old
      l' = omega arith

      hit : (f : Phase (R.Denot × Ptr)) → ⟦ St old f ⟧ ∗ ⟦ One ⟧ ⊢ ⟦ Pool new ⟧ ∗ ⟦ Has (rose old) ⟧
      hit (gone v) = gone_part old v _
      hit (due v) = due_part old v _
      hit away = away_part old _
      hit (shared v) = qed 𝓛 (‵ (St old (shared v)) ∷ ‵ One ∷ []) ∵ fsplit3 ! $ fpick ! (λ pos. drop ! $ move ! (1 ∷ []) $ fsplit ! $ fsplit3 ! $ move ! (5 ∷ []) $ fsplit ! $ move ! (2 ∷ 0 ∷ []) $
          use2 𝓛 (given (v ≡ u) (‵ (parts R γ v (2 ^ 63 - s)) ⊛ ‵ (parts R γ u 1))) (parts_agree 𝓛 R γ v u (2 ^ 63 - s) 1) $ learn ! (λ same. split ! $
          use1 𝓛 (‵ (parts R γ v 1) ⊛ ‵ (parts R γ v (2 ^ 63 - (s + 1)))) (parts_cut 𝓛 R γ v (2 ^ 63 - s) 1 (2 ^ 63 - (s + 1)) (omega arith) (omega arith) (omega arith) (omega arith)) $ split ! $
          rewrite ! 0 (λ (w : U). ‵ (parts R γ w 1)) same refl $ move ! (0 ∷ 2 ∷ []) $ use2 𝓛 (‵ (parts R γ u (1 + 1))) (parts_glue 𝓛 R γ u 1 1 (omega arith) (omega arith)) $
          -- [two parts; the rest; shown u; shown v; deed; stubs; out]
          move ! (0 ∷ 2 ∷ []) $ fjoin ! $ use1 𝓛 (‵ (Has (rose old))) (Has-in (rose old) two_strong ((λ _. refl), (λ ne. absurd (ne refl)))) $ move ! (1 ∷ 2 ∷ 3 ∷ []) $ fjoin3 ! $ rewrite ! 0 (λ (k : ℕ). ‵ (all_but Z R d k v)) (sym s') refl $
          -- [the rest; the part after; stubs; out]
          move ! (3 ∷ 0 ∷ 2 ∷ []) $ rewrite ! 2 (λ (k : ℕ). ‵ (stubs R ω v (2 ^ 63 + 1 - k))) (sym l') refl $ use3 𝓛 (‵ (Pool new)) (shared_in new v (omega arith, subst (λ (k : ℕ). 0 < k) (sym l') pos.1)) $ done !))

      rises : (n : ℕ) → n < 2 ^ 64 → ⟦ Pool n ⟧ ∗ ⟦ One ⟧ ⊢ ⟦ Pool (either (eqb n old) new n) ⟧ ∗ ⟦ Has (rose n) ⟧
      rises n _ = exchanged old new two_strong one_strong One (id⊢ 𝓤 ⟦ One ⟧) (qed 𝓛 (‵ (Pool old) ∷ ‵ One ∷ []) ∵ fpick ! (λ f. by ! (hit f))) n

    module _ (old new : ℕ) (some_ : 0 < strong_half old) (few : strong_half old < 4294967295) (is : new ≡ old + 4294967296) where
      abbrev pub arrived : ℕ → Kind → Type 0
      arrived = met old strong_and_weak one_weak

      abbrev sa : ℕ
      sa = strong_half old

      sa' : strong_half new ≡ sa + 1
      sa' = omega arith

      la' : weak_half new ≡ weak_half old
      la' = omega arith

      -- an upgrade: the weak share's stub says which value it is
      arriving : RowLaws R → (f : Phase (R.Denot × Ptr)) → ⟦ St old f ⟧ ∗ ⟦ Stub ⟧ ⊢ ⟦ Pool new ⟧ ∗ ⟦ Has (arrived old) ⟧
      arriving L (gone v) = qed 𝓛 (‵ (St old (gone v)) ∷ ‵ Stub ∷ []) ∵ fsplit ! $ fpick ! (λ z. absurd (omega arith))
      arriving L (due v) = qed 𝓛 (‵ (St old (due v)) ∷ ‵ Stub ∷ []) ∵ fsplit ! $ fpick ! (λ z. let none : strong_half old ≡ 0 = z.0 in absurd (omega arith))
      arriving L away = away_stub old _
      arriving L (shared v) = qed 𝓛 (‵ (St old (shared v)) ∷ ‵ Stub ∷ []) ∵ fsplit3 ! $ fpick ! (λ pos. drop ! $ move ! (1 ∷ []) $ fsplit ! $ fsplit3 ! $ move ! (3 ∷ 5 ∷ []) $
          use2 𝓛 (given (v ≡ u) (‵ (stubs R ω v (2 ^ 63 + 1 - weak_half old)) ⊛ ‵ (stubs R ω u 1))) (stubs_agree 𝓛 R ω v u (2 ^ 63 + 1 - weak_half old) 1) $ learn ! (λ same. split ! $ move ! (2 ∷ []) $
          use1 𝓛 (‵ (parts R γ v 1) ⊛ ‵ (parts R γ v (2 ^ 63 - (sa + 1)))) (parts_cut 𝓛 R γ v (2 ^ 63 - sa) 1 (2 ^ 63 - (sa + 1)) (omega arith) (omega arith) (omega arith) (omega arith)) $ split ! $
          move ! (4 ∷ []) $ use1 𝓛 (‵ (shown Z R v) ⊛ ‵ (shown Z R v)) (contraction 𝓛 (lent_at R (place Z R v.1.1) v.1.0) (lent_at_shr_laws R L (place Z R v.1.1) v.1.0) (v.0 ∷ [])) $ split ! $ move ! (2 ∷ 0 ∷ []) $ fjoin ! $ rewrite ! 0 (λ (w : U). ‵ (one_part Z R d w)) same refl $
          -- [the part; shown v; the rest; stubs; the stub; deed; out]
          move ! (0 ∷ 4 ∷ []) $ fjoin ! $ use1 𝓛 (‵ (Has (arrived old))) (Has-in (arrived old) strong_and_weak ((λ _. refl), (λ ne. absurd (ne refl)))) $ move ! (2 ∷ 1 ∷ 4 ∷ []) $ fjoin3 ! $ rewrite ! 0 (λ (k : ℕ). ‵ (all_but Z R d k v)) (sym sa') refl $
          move ! (3 ∷ 0 ∷ 2 ∷ []) $ rewrite ! 2 (λ (k : ℕ). ‵ (stubs R ω v (2 ^ 63 + 1 - k))) (sym la') refl $ use3 𝓛 (‵ (Pool new)) (shared_in new v (omega arith, subst (λ (k : ℕ). 0 < k) (sym la') pos.1)) $ done !))

      arrives : RowLaws R → (n : ℕ) → n < 2 ^ 64 → ⟦ Pool n ⟧ ∗ ⟦ Stub ⟧ ⊢ ⟦ Pool (either (eqb n old) new n) ⟧ ∗ ⟦ Has (arrived n) ⟧
      arrives L n _ = exchanged old new strong_and_weak one_weak Stub (id⊢ 𝓤 ⟦ Stub ⟧) (qed 𝓛 (‵ (Pool old) ∷ ‵ Stub ∷ []) ∵ fpick ! (λ f. by ! (arriving L f))) n

    -- one more in the low half
    module _ (old new : ℕ) (few : weak_half old < 4294967295) (is : new ≡ old + 1) where
      abbrev pub turned : ℕ → Kind → Type 0
      turned = met old strong_and_weak one_strong

      abbrev pub spread : ℕ → Kind → Type 0
      spread = met old two_weak one_weak

      abbrev r : ℕ
      r = weak_half old

      same_strong : strong_half new ≡ strong_half old
      same_strong = omega arith

      more_low : weak_half new ≡ r + 1
      more_low = omega arith

      -- a downgrade: the strong share's part says which value it is
      turning : (f : Phase (R.Denot × Ptr)) → ⟦ St old f ⟧ ∗ ⟦ One ⟧ ⊢ ⟦ Pool new ⟧ ∗ ⟦ Has (turned old) ⟧
      turning (gone v) = gone_part old v _
      turning (due v) = due_part old v _
      turning away = away_part old _
      turning (shared v) = let K : ℕ = 2 ^ 63 - strong_half old in qed 𝓛 (‵ (St old (shared v)) ∷ ‵ One ∷ []) ∵ fsplit3 ! $ fpick ! (λ pos. drop ! $ let l : 0 < r = pos.1 in move ! (1 ∷ []) $ fsplit ! $ fsplit3 ! $ move ! (5 ∷ []) $ fsplit ! $ move ! (2 ∷ 0 ∷ []) $
          use2 𝓛 (given (v ≡ u) (‵ (parts R γ v K) ⊛ ‵ (parts R γ u 1))) (parts_agree 𝓛 R γ v u K 1) $ learn ! (λ same. split ! $ move ! (1 ∷ 2 ∷ []) $ fjoin ! $
          -- [the part; the rest; shown v; deed; stubs; out]
          move ! (4 ∷ []) $ use1 𝓛 (‵ (stubs R ω v 1) ⊛ ‵ (stubs R ω v (2 ^ 63 + 1 - (r + 1)))) (stubs_cut 𝓛 R ω v (2 ^ 63 + 1 - r) 1 (2 ^ 63 + 1 - (r + 1)) (omega arith) (omega arith) (omega arith) (omega arith)) $ split ! $
          rewrite ! 0 (λ (w : U). ‵ (stubs R ω w 1)) same refl $ move ! (2 ∷ 0 ∷ []) $ fjoin ! $ use1 𝓛 (‵ (Has (turned old))) (Has-in (turned old) strong_and_weak ((λ _. refl), (λ ne. absurd (ne refl)))) $
          move ! (2 ∷ 3 ∷ 4 ∷ []) $ fjoin3 ! $ rewrite ! 0 (λ (k : ℕ). ‵ (all_but Z R d k v)) (sym same_strong) refl $
          move ! (3 ∷ 0 ∷ 2 ∷ []) $ rewrite ! 2 (λ (k : ℕ). ‵ (stubs R ω v (2 ^ 63 + 1 - k))) (sym more_low) refl $ use3 𝓛 (‵ (Pool new)) (shared_in new v (subst (λ (k : ℕ). 0 < k) (sym same_strong) pos.0, omega arith)) $ done !))

      turns : (n : ℕ) → n < 2 ^ 64 → ⟦ Pool n ⟧ ∗ ⟦ One ⟧ ⊢ ⟦ Pool (either (eqb n old) new n) ⟧ ∗ ⟦ Has (turned n) ⟧
      turns n _ = exchanged old new strong_and_weak one_strong One (id⊢ 𝓤 ⟦ One ⟧) (qed 𝓛 (‵ (Pool old) ∷ ‵ One ∷ []) ∵ fpick ! (λ f. by ! (turning f))) n

      -- a clone of a weak share
      spreading : (f : Phase (R.Denot × Ptr)) → ⟦ St old f ⟧ ∗ ⟦ Stub ⟧ ⊢ ⟦ Pool new ⟧ ∗ ⟦ Has (spread old) ⟧
      spreading away = away_stub old _
      spreading (gone v) = qed 𝓛 (‵ (St old (gone v)) ∷ ‵ Stub ∷ []) ∵ fsplit3 ! $ fpick ! (λ none. drop ! $ let z : strong_half old ≡ 0 = none in move ! (1 ∷ []) $ fsplit ! $ move ! (1 ∷ 3 ∷ []) $
          use2 𝓛 (given (v ≡ u) (‵ (stubs R ω v (2 ^ 63 - r)) ⊛ ‵ (stubs R ω u 1))) (stubs_agree 𝓛 R ω v u (2 ^ 63 - r) 1) $ learn ! (λ same. split ! $
          use1 𝓛 (‵ (stubs R ω v 1) ⊛ ‵ (stubs R ω v (2 ^ 63 - (r + 1)))) (stubs_cut 𝓛 R ω v (2 ^ 63 - r) 1 (2 ^ 63 - (r + 1)) (omega arith) (omega arith) (omega arith) (omega arith)) $ split ! $
          rewrite ! 0 (λ (w : U). ‵ (stubs R ω w 1)) same refl $ move ! (0 ∷ 2 ∷ []) $ use2 𝓛 (‵ (stubs R ω u (1 + 1))) (stubs_glue 𝓛 R ω u 1 1 (omega arith) (omega arith)) $
          use1 𝓛 (‵ (Has (spread old))) (Has-in (spread old) two_weak ((λ _. refl), (λ ne. absurd (ne refl)))) $
          -- [the stubs after; the rest; idle; out and room]
          move ! (3 ∷ 2 ∷ 1 ∷ []) $ rewrite ! 2 (λ (k : ℕ). ‵ (stubs R ω v (2 ^ 63 - k))) (sym more_low) refl $ use3 𝓛 (‵ (Pool new)) (gone_in new v (let e = same_strong in omega arith)) $ done !))
      spreading (due v) = let S : ℕ = 2 ^ 63 + 1 - r in qed 𝓛 (‵ (St old (due v)) ∷ ‵ Stub ∷ []) ∵ fsplit3 ! $ fpick ! (λ pos. drop ! $ let z : strong_half old ≡ 0 = pos.0 in let l : 0 < r = pos.1 in move ! (1 ∷ []) $ fsplit ! $ move ! (1 ∷ 3 ∷ []) $
          use2 𝓛 (given (v ≡ u) (‵ (stubs R ω v S) ⊛ ‵ (stubs R ω u 1))) (stubs_agree 𝓛 R ω v u S 1) $ learn ! (λ same. split ! $
          use1 𝓛 (‵ (stubs R ω v 1) ⊛ ‵ (stubs R ω v (2 ^ 63 + 1 - (r + 1)))) (stubs_cut 𝓛 R ω v S 1 (2 ^ 63 + 1 - (r + 1)) (omega arith) (omega arith) (omega arith) (omega arith)) $ split ! $
          rewrite ! 0 (λ (w : U). ‵ (stubs R ω w 1)) same refl $ move ! (0 ∷ 2 ∷ []) $ use2 𝓛 (‵ (stubs R ω u (1 + 1))) (stubs_glue 𝓛 R ω u 1 1 (omega arith) (omega arith)) $
          use1 𝓛 (‵ (Has (spread old))) (Has-in (spread old) two_weak ((λ _. refl), (λ ne. absurd (ne refl)))) $
          -- [the stubs after; the rest; idle; lend]
          move ! (3 ∷ 2 ∷ 1 ∷ []) $ rewrite ! 2 (λ (k : ℕ). ‵ (stubs R ω v (2 ^ 63 + 1 - k))) (sym more_low) refl $ use3 𝓛 (‵ (Pool new)) (due_in new v (let e = same_strong in omega arith, omega arith)) $ done !))
      spreading (shared v) = let S : ℕ = 2 ^ 63 + 1 - r in qed 𝓛 (‵ (St old (shared v)) ∷ ‵ Stub ∷ []) ∵ fsplit3 ! $ fpick ! (λ pos. drop ! $ let l : 0 < r = pos.1 in move ! (1 ∷ []) $ fsplit ! $ move ! (1 ∷ 3 ∷ []) $
          use2 𝓛 (given (v ≡ u) (‵ (stubs R ω v S) ⊛ ‵ (stubs R ω u 1))) (stubs_agree 𝓛 R ω v u S 1) $ learn ! (λ same. split ! $
          use1 𝓛 (‵ (stubs R ω v 1) ⊛ ‵ (stubs R ω v (2 ^ 63 + 1 - (r + 1)))) (stubs_cut 𝓛 R ω v S 1 (2 ^ 63 + 1 - (r + 1)) (omega arith) (omega arith) (omega arith) (omega arith)) $ split ! $
          rewrite ! 0 (λ (w : U). ‵ (stubs R ω w 1)) same refl $ move ! (0 ∷ 2 ∷ []) $ use2 𝓛 (‵ (stubs R ω u (1 + 1))) (stubs_glue 𝓛 R ω u 1 1 (omega arith) (omega arith)) $
          use1 𝓛 (‵ (Has (spread old))) (Has-in (spread old) two_weak ((λ _. refl), (λ ne. absurd (ne refl)))) $
          -- [the stubs after; the rest; all but; out]
          rewrite ! 2 (λ (k : ℕ). ‵ (all_but Z R d k v)) (sym same_strong) refl $ move ! (3 ∷ 2 ∷ 1 ∷ []) $ rewrite ! 2 (λ (k : ℕ). ‵ (stubs R ω v (2 ^ 63 + 1 - k))) (sym more_low) refl $
          use3 𝓛 (‵ (Pool new)) (shared_in new v (subst (λ (k : ℕ). 0 < k) (sym same_strong) pos.0, omega arith)) $ done !))

      spreads : (n : ℕ) → n < 2 ^ 64 → ⟦ Pool n ⟧ ∗ ⟦ Stub ⟧ ⊢ ⟦ Pool (either (eqb n old) new n) ⟧ ∗ ⟦ Has (spread n) ⟧
      spreads n _ = exchanged old new two_weak one_weak Stub (id⊢ 𝓤 ⟦ Stub ⟧) (qed 𝓛 (‵ (Pool old) ∷ ‵ Stub ∷ []) ∵ fpick ! (λ f. by ! (spreading f))) n

    -- ---- the end of a strong share
    abbrev pub fallen : ℕ → Kind → Type 0
    fallen n r = (strong_half n ≡ 1 → r ≡ last) × (strong_half n ≢ 1 → r ≡ no_right)

    abbrev pub less : ℕ → ℕ
    less n = (n + (2 ^ 64 - 4294967296)) % 2 ^ 64

    falling : (n : ℕ) → n < 2 ^ 64 → (f : Phase (R.Denot × Ptr)) → ⟦ St n f ⟧ ∗ ⟦ One ⟧ ⊢ ⟦ Pool (less n) ⟧ ∗ ⟦ Has (fallen n) ⟧
    falling n fits (gone v) = gone_part n v _
    falling n fits (due v) = due_part n v _
    falling n fits away = away_part n _
    falling n fits (shared v) = let s : ℕ = strong_half n in let S : ℕ = 2 ^ 63 + 1 - weak_half n in
        qed 𝓛 (‵ (St n (shared v)) ∷ ‵ One ∷ []) ∵ fsplit3 ! $ fpick ! (λ pos. drop ! $ let k : 0 < s = pos.0 in let l : 0 < weak_half n = pos.1 in let l' : weak_half n ≡ weak_half (less n) = omega arith in move ! (1 ∷ []) $ fsplit ! $ fsplit3 ! $ move ! (5 ∷ []) $ fsplit ! $ move ! (2 ∷ 0 ∷ []) $
        use2 𝓛 (given (v ≡ u) (‵ (parts R γ v (2 ^ 63 - s)) ⊛ ‵ (parts R γ u 1))) (parts_agree 𝓛 R γ v u (2 ^ 63 - s) 1) $ learn ! (λ same. split ! $
        rewrite ! 0 (λ (w : U). ‵ (parts R γ w (2 ^ 63 - s))) same refl $ use2 𝓛 (‵ (parts R γ u ((2 ^ 63 - s) + 1))) (parts_glue 𝓛 R γ u (2 ^ 63 - s) 1 (omega arith) (omega arith)) $
        -- [all parts; shown u; shown v; deed v; stubs v; out]
        rewrite ! 4 (λ (w : U). ‵ (stubs R ω w S)) same refl $ rewrite ! 3 (λ (w : U). ‵ (deed Z R w)) same refl $ rewrite ! 2 (λ (w : U). ‵ (shown Z R w)) same refl $ dite (ℕ_discrete s 1)
        (λ one. let whole : (2 ^ 63 - s) + 1 ≡ 2 ^ 63 = omega arith in rewrite ! 0 (λ (k : ℕ). ‵ (parts R γ u k)) whole refl $
        use1 𝓛 (‵ (share R γ u full_share)) (parts_whole 𝓛 R γ u) $ fsplit ! $ move ! (0 ∷ 4 ∷ []) $ fjoin ! $ move ! (5 ∷ []) $ fsplit ! $ move ! (2 ∷ 0 ∷ []) $ fjoin ! $
        -- [the value outright, and keep; lend; the tag; shown; shown; stubs]
        use1 𝓛 (‵ (Has (fallen n))) (Has-in (fallen n) last ((λ _. refl), (λ ne. absurd (ne one)))) $ move ! (2 ∷ []) $ fpack ! U (tag R γ full_share) u $
        move ! (2 ∷ 0 ∷ 5 ∷ []) $ rewrite ! 2 (λ (k : ℕ). ‵ (stubs R ω u (2 ^ 63 + 1 - k))) l' refl $ use3 𝓛 (‵ (Pool (less n))) (due_in (less n) u (omega arith, omega arith)) $ keep ! (0 ∷ 1 ∷ []) $ done !)
        (λ more. let rest : strong_half n ≡ strong_half (less n) + 1 = omega arith in let rest' : (2 ^ 63 - s) + 1 ≡ 2 ^ 63 - strong_half (less n) = omega arith in rewrite ! 0 (λ (k : ℕ). ‵ (parts R γ u k)) rest' refl $
        move ! (0 ∷ 1 ∷ 3 ∷ []) $ fjoin3 ! $
        -- [the rest; shown; stubs; out]
        move ! (3 ∷ 0 ∷ 2 ∷ []) $ rewrite ! 2 (λ (k : ℕ). ‵ (stubs R ω u (2 ^ 63 + 1 - k))) l' refl $ use3 𝓛 (‵ (Pool (less n))) (shared_in (less n) u (omega arith, omega arith)) $
        nothing ! $ use1 𝓛 (‵ (Has (fallen n))) (Has-in (fallen n) no_right ((λ e. absurd (more e)), (λ _. refl))) $ keep ! (1 ∷ 0 ∷ []) $ done !)))

    falls : (n : ℕ) → n < 2 ^ 64 → ⟦ Pool n ⟧ ∗ ⟦ One ⟧ ⊢ ⟦ Pool (less n) ⟧ ∗ ⟦ Has (fallen n) ⟧
    falls n fits = qed 𝓛 (‵ (Pool n) ∷ ‵ One ∷ []) ∵ fpick ! (λ f. by ! (falling n fits f))

    -- ---- the end of a unit of the low half. At 1 the block comes out of the invariant
    abbrev pub left_by : ℕ → ℕ
    left_by n = (n + (2 ^ 64 - 1)) % 2 ^ 64

    abbrev pub ended : ℕ → Kind → Type 0
    ended n r = (n ≡ 1 → r ≡ block) × (n ≢ 1 → r ≡ no_right)

    After : ℕ → Pr
    After n = ⟦ Close (left_by n) ⟧ ∗ ⟦ Has (ended n) ⟧

    -- a step that leaves the word positive
    on : (n : ℕ) → n ≢ 1 → ⟦ word b e (left_by n) ⟧ ∗ (⟦ Pool (left_by n) ⟧ ∗ ⟦ Frees ⟧) ⊢ After n
    unfolding After
    on n more = qed 𝓛 (‵ (word b e (left_by n)) ∷ ‵ (Pool (left_by n)) ∷ ‵ Frees ∷ []) ∵ use3 𝓛 (‵ (Close (left_by n))) (alive_in (left_by n)) $ nothing ! $
        use1 𝓛 (‵ (Has (ended n))) (Has-in (ended n) no_right ((λ e. absurd (more e)), (λ _. refl))) $ move ! (1 ∷ 0 ∷ []) $ done !

    -- the step that makes the word 0: [the word; what frees; room; out; idle; all stubs]
    off : (n : ℕ) (v : U) (k : ℕ) → n ≡ 1 → k ≡ 2 ^ 63 → ⟦ word b e (left_by n) ⟧ ∗ (⟦ Frees ⟧ ∗ (⟦ room Z R p ⟧ ∗ (⟦ both Z R d ⟧ ∗ (⟦ idle R γ ⟧ ∗ ⟦ stubs R ω v k ⟧)))) ⊢ After n
    unfolding After
    off n v k one all = let zero_ : left_by n ≡ 0 = omega arith in qed 𝓛 (‵ (word b e (left_by n)) ∷ ‵ Frees ∷ ‵ (room Z R p) ∷ ‵ (both Z R d) ∷ ‵ (idle R γ) ∷ ‵ (stubs R ω v k) ∷ []) ∵
        rewrite ! 0 (λ (m : ℕ). ‵ (word b e m)) zero_ refl $ rewrite ! 5 (λ (m : ℕ). ‵ (stubs R ω v m)) all refl $ move ! (0 ∷ 2 ∷ 1 ∷ []) $ fjoin3 ! $ use1 𝓛 (‵ (Has (ended n))) (Has-in (ended n) block ((λ _. refl), (λ ne. absurd (ne one)))) $
        move ! (3 ∷ []) $ use1 𝓛 (‵ (tag R ω full_share v)) (stubs_whole 𝓛 R ω v) $ move ! (2 ∷ 3 ∷ 0 ∷ []) $ use3 𝓛 (‵ (Close (left_by n))) (freed_in (left_by n) v) $ done !

    abbrev Ends : ℕ → Fml → Phase (R.Denot × Ptr) → Type 1
    Ends n K f = ⟦ word b e (left_by n) ⟧ ∗ (⟦ St n f ⟧ ∗ (⟦ Frees ⟧ ∗ ⟦ K ⟧)) ⊢ After n

    stub_ends : (n : ℕ) → n < 2 ^ 64 → (f : Phase (R.Denot × Ptr)) → Ends n Stub f
    stub_ends n fits away = qed 𝓛 (‵ (word b e (left_by n)) ∷ ‵ (St n away) ∷ ‵ Frees ∷ ‵ Stub ∷ []) ∵ keep ! (1 ∷ 3 ∷ []) $ by ! (away_stub n (After n))
    stub_ends n fits (shared v) = let S : ℕ = 2 ^ 63 + 1 - weak_half n in qed 𝓛 (‵ (word b e (left_by n)) ∷ ‵ (St n (shared v)) ∷ ‵ Frees ∷ ‵ Stub ∷ []) ∵ move ! (1 ∷ []) $ fsplit3 ! $ fpick ! (λ pos. drop ! $ let k : 0 < strong_half n = pos.0 in let l : 0 < weak_half n = pos.1 in
        move ! (1 ∷ []) $ fsplit ! $ move ! (1 ∷ 5 ∷ []) $ use2 𝓛 (given (v ≡ u) (‵ (stubs R ω v S) ⊛ ‵ (stubs R ω u 1))) (stubs_agree 𝓛 R ω v u S 1) $ learn ! (λ same. split ! $ rewrite ! 1 (λ (w : U). ‵ (stubs R ω w 1)) (sym same) refl $ dite (ℕ_discrete (weak_half n) 1)
        (λ lone_. keep ! (0 ∷ 1 ∷ []) $ by ! (one_beside 𝓛 R ω v S _ (let e : weak_half n ≡ 1 = lone_ in omega arith)))
        (λ more. let m : weak_half n ≢ 1 = more in use2 𝓛 (‵ (stubs R ω v (S + 1))) (stubs_glue 𝓛 R ω v S 1 (omega arith) (omega arith)) $ let to : S + 1 ≡ 2 ^ 63 + 1 - weak_half (left_by n) = omega arith in rewrite ! 0 (λ (k : ℕ). ‵ (stubs R ω v k)) to refl $
        -- [stubs; all but; out; the word; what frees]
        let high : strong_half n ≡ strong_half (left_by n) = omega arith in rewrite ! 1 (λ (k : ℕ). ‵ (all_but Z R d k v)) high refl $
        move ! (2 ∷ 1 ∷ 0 ∷ []) $ use3 𝓛 (‵ (Pool (left_by n))) (shared_in (left_by n) v (subst (λ (k : ℕ). 0 < k) high pos.0, omega arith)) $ move ! (1 ∷ 0 ∷ 2 ∷ []) $ by ! (on n (omega arith)))))
    stub_ends n fits (due v) = let S : ℕ = 2 ^ 63 + 1 - weak_half n in qed 𝓛 (‵ (word b e (left_by n)) ∷ ‵ (St n (due v)) ∷ ‵ Frees ∷ ‵ Stub ∷ []) ∵ move ! (1 ∷ []) $ fsplit3 ! $ fpick ! (λ pos. drop ! $ let none : strong_half n ≡ 0 = pos.0 in let l : 0 < weak_half n = pos.1 in
        move ! (1 ∷ []) $ fsplit ! $ move ! (1 ∷ 5 ∷ []) $ use2 𝓛 (given (v ≡ u) (‵ (stubs R ω v S) ⊛ ‵ (stubs R ω u 1))) (stubs_agree 𝓛 R ω v u S 1) $ learn ! (λ same. split ! $ rewrite ! 1 (λ (w : U). ‵ (stubs R ω w 1)) (sym same) refl $ dite (ℕ_discrete (weak_half n) 1)
        (λ lone_. keep ! (0 ∷ 1 ∷ []) $ by ! (one_beside 𝓛 R ω v S _ (let e : weak_half n ≡ 1 = lone_ in omega arith)))
        (λ more. let m : weak_half n ≢ 1 = more in use2 𝓛 (‵ (stubs R ω v (S + 1))) (stubs_glue 𝓛 R ω v S 1 (omega arith) (omega arith)) $ let to : S + 1 ≡ 2 ^ 63 + 1 - weak_half (left_by n) = omega arith in rewrite ! 0 (λ (k : ℕ). ‵ (stubs R ω v k)) to refl $
        -- [stubs; idle; lend; the word; what frees]
        move ! (2 ∷ 1 ∷ 0 ∷ []) $ use3 𝓛 (‵ (Pool (left_by n))) (due_in (left_by n) v (omega arith, omega arith)) $ move ! (1 ∷ 0 ∷ 2 ∷ []) $ by ! (on n (omega arith)))))
    stub_ends n fits (gone v) = let S : ℕ = 2 ^ 63 - weak_half n in qed 𝓛 (‵ (word b e (left_by n)) ∷ ‵ (St n (gone v)) ∷ ‵ Frees ∷ ‵ Stub ∷ []) ∵ move ! (1 ∷ []) $ fsplit3 ! $ fpick ! (λ none. drop ! $ let z : strong_half n ≡ 0 = none in move ! (1 ∷ []) $ fsplit ! $
        -- [idle; stubs; out and room; the word; what frees; the stub]
        move ! (1 ∷ 5 ∷ []) $ use2 𝓛 (given (v ≡ u) (‵ (stubs R ω v S) ⊛ ‵ (stubs R ω u 1))) (stubs_agree 𝓛 R ω v u S 1) $ learn ! (λ same. split ! $ rewrite ! 1 (λ (w : U). ‵ (stubs R ω w 1)) (sym same) refl $ dite (ℕ_discrete (weak_half n) 0)
        (λ empty. keep ! (0 ∷ 1 ∷ []) $ by ! (one_beside 𝓛 R ω v S _ (let e : weak_half n ≡ 0 = empty in omega arith)))
        (λ full. let l : weak_half n ≢ 0 = full in use2 𝓛 (‵ (stubs R ω v (S + 1))) (stubs_glue 𝓛 R ω v S 1 (omega arith) (omega arith)) $ dite (ℕ_discrete n 1)
        (λ one. move ! (2 ∷ []) $ fsplit ! $ move ! (4 ∷ 5 ∷ 1 ∷ 0 ∷ 3 ∷ 2 ∷ []) $ by ! (off n v (S + 1) one (omega arith)))
        (λ more. let to : S + 1 ≡ 2 ^ 63 - weak_half (left_by n) = omega arith in rewrite ! 0 (λ (k : ℕ). ‵ (stubs R ω v k)) to refl $
        move ! (2 ∷ 1 ∷ 0 ∷ []) $ use3 𝓛 (‵ (Pool (left_by n))) (gone_in (left_by n) v (omega arith)) $ move ! (1 ∷ 0 ∷ 2 ∷ []) $ by ! (on n more)))))

    keep_once : (W : Pr) → ⟦ idle R d.keep ⟧ ∗ ⟦ idle R d.keep ⟧ ⊢ W
    keep_once W = qed 𝓛 (‵ (idle R d.keep) ∷ ‵ (idle R d.keep) ∷ []) ∵ fpick ! (λ v. move ! (1 ∷ []) $ fpick ! (λ w. use1 𝓛 (‵ (stubs R d.keep w (2 ^ 63))) (stubs_in 𝓛 R d.keep w (2 ^ 63) full_share (Counts-all 63)) $
        move ! (1 ∷ 0 ∷ []) $ by ! (no_stub_beside 𝓛 R d.keep w v (2 ^ 63) W)))

    lend_once : (W : Pr) → ⟦ idle R d.lend ⟧ ∗ ⟦ idle R d.lend ⟧ ⊢ W
    lend_once W = qed 𝓛 (‵ (idle R d.lend) ∷ ‵ (idle R d.lend) ∷ []) ∵ fpick ! (λ v. move ! (1 ∷ []) $ fpick ! (λ w. use1 𝓛 (‵ (stubs R d.lend w (2 ^ 63))) (stubs_in 𝓛 R d.lend w (2 ^ 63) full_share (Counts-all 63)) $
        move ! (1 ∷ 0 ∷ []) $ by ! (no_stub_beside 𝓛 R d.lend w v (2 ^ 63) W)))

    -- whoever took the value has d.keep, so it is due
    taken_ends : (n : ℕ) → n < 2 ^ 64 → (f : Phase (R.Denot × Ptr)) → Ends n Taken f
    taken_ends n fits (shared v) = qed 𝓛 (‵ (word b e (left_by n)) ∷ ‵ (St n (shared v)) ∷ ‵ Frees ∷ ‵ Taken ∷ []) ∵ move ! (3 ∷ []) $ fsplit ! $ move ! (3 ∷ []) $ fsplit3 ! $ move ! (1 ∷ []) $ fsplit ! $ keep ! (0 ∷ 5 ∷ []) $ by ! (keep_once (After n))
    taken_ends n fits (gone v) = qed 𝓛 (‵ (word b e (left_by n)) ∷ ‵ (St n (gone v)) ∷ ‵ Frees ∷ ‵ Taken ∷ []) ∵ move ! (3 ∷ []) $ fsplit ! $ move ! (3 ∷ []) $ fsplit3 ! $ move ! (1 ∷ []) $ fsplit ! $ fsplit ! $ keep ! (0 ∷ 6 ∷ []) $ by ! (keep_once (After n))
    taken_ends n fits away = qed 𝓛 (‵ (word b e (left_by n)) ∷ ‵ (St n away) ∷ ‵ Frees ∷ ‵ Taken ∷ []) ∵ move ! (3 ∷ []) $ fsplit ! $ move ! (3 ∷ []) $ fsplit3 ! $ keep ! (1 ∷ 4 ∷ []) $ by ! (keep_once (After n))
    taken_ends n fits (due v) = let S : ℕ = 2 ^ 63 + 1 - weak_half n in qed 𝓛 (‵ (word b e (left_by n)) ∷ ‵ (St n (due v)) ∷ ‵ Frees ∷ ‵ Taken ∷ []) ∵ move ! (3 ∷ []) $ fsplit ! $ move ! (3 ∷ []) $ fsplit3 ! $ fpick ! (λ pos. drop ! $ let none : strong_half n ≡ 0 = pos.0 in let l : 0 < weak_half n = pos.1 in
        move ! (1 ∷ []) $ fsplit ! $
        -- [idle; stubs; lend; room; keep; the word; what frees]
        move ! (4 ∷ 2 ∷ []) $ fjoin ! $ dite (ℕ_discrete n 1)
        (λ one. move ! (4 ∷ 5 ∷ 3 ∷ 0 ∷ 1 ∷ 2 ∷ []) $ by ! (off n v S one (omega arith)))
        (λ more. let to : S ≡ 2 ^ 63 - weak_half (left_by n) = omega arith in rewrite ! 2 (λ (k : ℕ). ‵ (stubs R ω v k)) to refl $ move ! (0 ∷ 3 ∷ []) $ fjoin ! $
        move ! (0 ∷ 1 ∷ 2 ∷ []) $ use3 𝓛 (‵ (Pool (left_by n))) (gone_in (left_by n) v (omega arith)) $ move ! (1 ∷ 0 ∷ 2 ∷ []) $ by ! (on n more)))

    freed_taken : (W : Pr) → ⟦ Freed ⟧ ∗ ⟦ Taken ⟧ ⊢ W
    freed_taken W = qed 𝓛 (‵ Freed ∷ ‵ Taken ∷ []) ∵ fsplit ! $ fsplit ! $ move ! (3 ∷ []) $ fsplit ! $ keep ! (1 ∷ 2 ∷ []) $ by ! (keep_once W)

    ends_by : (K : Fml) → ((n : ℕ) → n < 2 ^ 64 → (f : Phase (R.Denot × Ptr)) → Ends n K f) → (n : ℕ) → n < 2 ^ 64 → ⟦ word b e (left_by n) ⟧ ∗ (⟦ beside Z R d t p n ⟧ ∗ ⟦ K ⟧) ⊢ ⟦ Close (left_by n) ⟧ ∗ ⟦ Has (ended n) ⟧
    unfolding After
    ends_by K h n fits = qed 𝓛 (‵ (word b e (left_by n)) ∷ ‵ (beside Z R d t p n) ∷ ‵ K ∷ []) ∵ move ! (1 ∷ []) $ fsplit ! $ fpick ! (λ f. move ! (2 ∷ 0 ∷ 1 ∷ []) $ by ! (h n fits f))

    -- ---- a load, at which a sole handle has all rights to the value
    abbrev pub claimed : ℕ → Kind → Type 0
    claimed n r = (n ≡ 4294967297 → (r ≡ seized) ⊎ (r ≡ held)) × (n ≢ 4294967297 → r ≡ one_strong)

    claiming : (f : Phase (R.Denot × Ptr)) → ⟦ St 4294967297 f ⟧ ∗ ⟦ One ⟧ ⊢ ⟦ Pool 4294967297 ⟧ ∗ ⟦ Has (claimed 4294967297) ⟧
    claiming (gone v) = gone_part 4294967297 v _
    claiming (due v) = due_part 4294967297 v _
    claiming away = away_part 4294967297 _
    claiming (shared v) = let s : ℕ = strong_half 4294967297 in qed 𝓛 (‵ (St 4294967297 (shared v)) ∷ ‵ One ∷ []) ∵ fsplit3 ! $ drop ! $ move ! (1 ∷ []) $ fsplit ! $ fsplit3 ! $ move ! (5 ∷ []) $ fsplit ! $ move ! (2 ∷ 0 ∷ []) $
        use2 𝓛 (given (v ≡ u) (‵ (parts R γ v (2 ^ 63 - s)) ⊛ ‵ (parts R γ u 1))) (parts_agree 𝓛 R γ v u (2 ^ 63 - s) 1) $ learn ! (λ same. split ! $
        rewrite ! 0 (λ (w : U). ‵ (parts R γ w (2 ^ 63 - s))) same refl $ use2 𝓛 (‵ (parts R γ u ((2 ^ 63 - s) + 1))) (parts_glue 𝓛 R γ u (2 ^ 63 - s) 1 (omega arith) (omega arith)) $
        let all : (2 ^ 63 - s) + 1 ≡ 2 ^ 63 = omega arith in rewrite ! 0 (λ (k : ℕ). ‵ (parts R γ u k)) all refl $ use1 𝓛 (‵ (share R γ u full_share)) (parts_whole 𝓛 R γ u) $ fsplit ! $
        -- [the token; the tag; shown u; shown v; deed v; stubs v; both]
        rewrite ! 4 (λ (w : U). ‵ (deed Z R w)) same refl $ move ! (0 ∷ 4 ∷ []) $ fjoin ! $ move ! (5 ∷ []) $ fsplit ! $ move ! (2 ∷ 1 ∷ []) $ fjoin ! $ use1 𝓛 (‵ (Has (claimed 4294967297))) (Has-in (claimed 4294967297) seized ((λ _. inl refl), (λ ne. absurd (ne refl)))) $
        -- [the right after; keep; the tag; shown; shown; stubs v]
        move ! (5 ∷ []) $ let every : 2 ^ 63 + 1 - weak_half 4294967297 ≡ 2 ^ 63 = omega arith in rewrite ! 0 (λ (k : ℕ). ‵ (stubs R ω v k)) every refl $ use1 𝓛 (‵ (tag R ω full_share v)) (stubs_whole 𝓛 R ω v) $ fpack ! U (tag R ω full_share) v $
        move ! (3 ∷ []) $ fpack ! U (tag R γ full_share) u $ move ! (3 ∷ 0 ∷ 1 ∷ []) $ fjoin3 ! $ nothing ! $ fpack ! (4294967297 ≡ 4294967297) (λ _. ftrue) refl $ fjoin ! $ fpack ! (Phase (R.Denot × Ptr)) (St 4294967297) away $ keep ! (0 ∷ 1 ∷ []) $ done !)

    claims : (n : ℕ) → n < 2 ^ 64 → ⟦ Pool n ⟧ ∗ ⟦ One ⟧ ⊢ ⟦ Pool n ⟧ ∗ ⟦ Has (claimed n) ⟧
    claims n _ = dite (ℕ_discrete n 4294967297)
        (λ e. subst (λ (k : ℕ). ⟦ Pool k ⟧ ∗ ⟦ One ⟧ ⊢ ⟦ Pool k ⟧ ∗ ⟦ Has (claimed k) ⟧) (sym e) (qed 𝓛 (‵ (Pool 4294967297) ∷ ‵ One ∷ []) ∵ fpick ! (λ f. by ! (claiming f))))
        (λ miss. qed 𝓛 (‵ (Pool n) ∷ ‵ One ∷ []) ∵ move ! (1 ∷ []) $ use1 𝓛 (‵ (Has (claimed n))) (Has-in (claimed n) one_strong ((λ e. absurd (miss e)), (λ _. refl))) $ move ! (1 ∷ 0 ∷ []) $ done !)

    -- a share that holds its value reads one strong and one weak
    holding : (n : ℕ) (f : Phase (R.Denot × Ptr)) → ⟦ St n f ⟧ ∗ ⟦ Right held ⟧ ⊢ ⟦ Pool n ⟧ ∗ ⟦ Has (claimed n) ⟧
    holding n (shared v) = qed 𝓛 (‵ (St n (shared v)) ∷ ‵ (Right held) ∷ []) ∵ fsplit3 ! $ move ! (3 ∷ []) $ fsplit ! $ move ! (3 ∷ []) $ fsplit ! $ keep ! (1 ∷ 3 ∷ []) $ by ! (lend_once (⟦ Pool n ⟧ ∗ ⟦ Has (claimed n) ⟧))
    holding n (due v) = qed 𝓛 (‵ (St n (due v)) ∷ ‵ (Right held) ∷ []) ∵ fsplit3 ! $ move ! (3 ∷ []) $ fsplit ! $ keep ! (1 ∷ 3 ∷ []) $ by ! (lend_once (⟦ Pool n ⟧ ∗ ⟦ Has (claimed n) ⟧))
    holding n (gone v) = qed 𝓛 (‵ (St n (gone v)) ∷ ‵ (Right held) ∷ []) ∵ fsplit3 ! $ move ! (3 ∷ []) $ fsplit ! $ move ! (3 ∷ []) $ fsplit ! $ fsplit ! $ keep ! (1 ∷ 4 ∷ []) $ by ! (lend_once (⟦ Pool n ⟧ ∗ ⟦ Has (claimed n) ⟧))
    holding n away = qed 𝓛 (‵ (St n away) ∷ ‵ (Right held) ∷ []) ∵ fsplit ! $ fpick ! (λ is. fpack ! (n ≡ 4294967297) (λ _. ftrue) is $ move ! (0 ∷ 1 ∷ []) $ fjoin ! $ fpack ! (Phase (R.Denot × Ptr)) (St n) away $
        move ! (1 ∷ []) $ use1 𝓛 (‵ (Has (claimed n))) (Has-in (claimed n) held ((λ _. inr refl), (λ ne. absurd (ne is)))) $ move ! (1 ∷ 0 ∷ []) $ done !)

    abbrev Claims : Kind → Type 1
    Claims k = (n : ℕ) → n < 2 ^ 64 → ⟦ Pool n ⟧ ∗ ⟦ Right k ⟧ ⊢ ⟦ Pool n ⟧ ∗ ⟦ Has (claimed n) ⟧

    held_claims : Claims held
    held_claims n _ = qed 𝓛 (‵ (Pool n) ∷ ‵ (Right held) ∷ []) ∵ fpick ! (λ f. by ! (holding n f))

    -- after it, the value's lifetime ends
    abbrev pub opened : ℕ → Kind → Type 0
    opened n r = (n ≡ 4294967297 → r ≡ held) × (n ≢ 4294967297 → r ≡ one_strong)

    pub opens_up : (n : ℕ) → ⟦ Has (claimed n) ⟧ ⊢ H.⇛ ⟦ Has (opened n) ⟧
    opens_up n = dite (ℕ_discrete n 4294967297)
        (λ is. qed 𝓛 (‵ (Has (claimed n)) ∷ []) ∵ fpick ! (λ r. fsplit ! $ fpick ! (λ good. drop ! $ by ! (opening is r (good.0 is)))))
        (λ miss. qed 𝓛 (‵ (Has (claimed n)) ∷ []) ∵ updating ! $ fpick ! (λ r. fsplit ! $ fpick ! (λ good. drop ! $ rewrite ! 0 (λ (k : Kind). ‵ (Right k)) (good.1 miss) refl $
        use1 𝓛 (‵ (Has (opened n))) (Has-in (opened n) one_strong ((λ e. absurd (miss e)), (λ _. refl))) $ now ! $ done !)))
      where
        opening : n ≡ 4294967297 → (r : Kind) → (r ≡ seized) ⊎ (r ≡ held) → ⟦ Right r ⟧ ⊢ H.⇛ ⟦ Has (opened n) ⟧
        opening is r (inl so) = qed 𝓛 (‵ (Right r) ∷ []) ∵ updating ! $ rewrite ! 0 (λ (k : Kind). ‵ (Right k)) so refl $ fsplit ! $ fsplit ! $ types.Tokens.lft_end ! tt $ types.Tokens.lent_back ! tt $ fjoin ! $
            use1 𝓛 (‵ (Has (opened n))) (Has-in (opened n) held ((λ _. refl), (λ ne. absurd (ne is)))) $ now ! $ done !
        opening is r (inr so) = qed 𝓛 (‵ (Right r) ∷ []) ∵ updating ! $ rewrite ! 0 (λ (k : Kind). ‵ (Right k)) so refl $
            use1 𝓛 (‵ (Has (opened n))) (Has-in (opened n) held ((λ _. refl), (λ ne. absurd (ne is)))) $ now ! $ done !

    -- ---- a load, at which a sole handle brings a value back
    abbrev Back : Fml
    Back = Right returning

    freed_back : (W : Pr) → ⟦ Freed ⟧ ∗ ⟦ Back ⟧ ⊢ W
    freed_back W = qed 𝓛 (‵ Freed ∷ ‵ Back ∷ []) ∵ fsplit ! $ fsplit ! $ move ! (3 ∷ []) $ fsplit3 ! $ move ! (2 ∷ []) $ fsplit ! $ keep ! (1 ∷ 5 ∷ []) $ by ! (lend_once W)

    module _ (L : RowLaws R) where
      bringing : (n : ℕ) (f : Phase (R.Denot × Ptr)) → ⟦ St n f ⟧ ∗ ⟦ Back ⟧ ⊢ upd 𝓤 (⟦ Pool n ⟧ ∗ ⟦ One ⟧)
      bringing n (shared v) = qed 𝓛 (‵ (St n (shared v)) ∷ ‵ Back ∷ []) ∵ fsplit3 ! $ move ! (3 ∷ []) $ fsplit3 ! $ move ! (2 ∷ []) $ fsplit ! $ move ! (5 ∷ []) $ fsplit ! $ keep ! (1 ∷ 3 ∷ []) $ by ! (lend_once (upd 𝓤 (⟦ Pool n ⟧ ∗ ⟦ One ⟧)))
      bringing n (due v) = qed 𝓛 (‵ (St n (due v)) ∷ ‵ Back ∷ []) ∵ fsplit3 ! $ move ! (3 ∷ []) $ fsplit3 ! $ move ! (2 ∷ []) $ fsplit ! $ keep ! (1 ∷ 5 ∷ []) $ by ! (lend_once (upd 𝓤 (⟦ Pool n ⟧ ∗ ⟦ One ⟧)))
      bringing n (gone v) = qed 𝓛 (‵ (St n (gone v)) ∷ ‵ Back ∷ []) ∵ fsplit3 ! $ move ! (3 ∷ []) $ fsplit3 ! $ move ! (2 ∷ []) $ fsplit ! $ move ! (5 ∷ []) $ fsplit ! $ fsplit ! $ keep ! (1 ∷ 4 ∷ []) $ by ! (lend_once (upd 𝓤 (⟦ Pool n ⟧ ∗ ⟦ One ⟧)))
      bringing n away = let W : Pr = ⟦ Pool n ⟧ ∗ ⟦ One ⟧ in qed 𝓛 (‵ (St n away) ∷ ‵ Back ∷ []) ∵ fsplit3 ! $ fpick ! (λ is. drop ! $ move ! (1 ∷ []) $ fsplit ! $ fpick ! (λ v.
          use1 𝓛 (raw (upd 𝓤 ⟦ tag R γ full_share u ⟧)) (own_step 𝓛 halved γ (full_share, about R γ v) (full_share, about R γ u) (λ f x. absurd (not-OpDef-full_share f.0 x.0))) $ settle 𝓛 W (‵ (tag R γ full_share u)) $ move ! (1 ∷ []) $ fpick ! (λ w.
          use1 𝓛 (raw (upd 𝓤 ⟦ tag R ω full_share u ⟧)) (own_step 𝓛 halved ω (full_share, about R ω w) (full_share, about R ω u) (λ f x. absurd (not-OpDef-full_share f.0 x.0))) $ settle 𝓛 W (‵ (tag R ω full_share u)) $ suffices ! _ (upd_i 𝓤 W) $
          use1 𝓛 (‵ (stubs R ω u (2 ^ 63))) (stubs_in 𝓛 R ω u (2 ^ 63) full_share (Counts-all 63)) $
          -- [stubs; the tag; keep; what is brought]
          move ! (3 ∷ []) $ fsplit3 ! $ move ! (2 ∷ []) $ fsplit ! $
          -- [deed; lend; the token; shown; stubs; the tag; keep]
          move ! (2 ∷ 5 ∷ []) $ fjoin ! $ use1 𝓛 (‵ (parts R γ u (2 ^ 63))) (parts_in 𝓛 R γ u (2 ^ 63) full_share (Counts-all 63)) $
          use1 𝓛 (‵ (parts R γ u 1) ⊛ ‵ (parts R γ u (2 ^ 63 - 1))) (parts_cut 𝓛 R γ u (2 ^ 63) 1 (2 ^ 63 - 1) (omega arith) (omega arith) (omega arith) (omega arith)) $ split ! $
          -- [one part; the others; deed; lend; shown; stubs; keep]
          move ! (4 ∷ []) $ use1 𝓛 (‵ (shown Z R u) ⊛ ‵ (shown Z R u)) (contraction 𝓛 (lent_at R (place Z R u.1.1) u.1.0) (lent_at_shr_laws R L (place Z R u.1.1) u.1.0) (u.0 ∷ [])) $ split ! $ move ! (2 ∷ 0 ∷ []) $ fjoin ! $
          -- [the part; shown; the others; deed; lend; stubs; keep]
          let s : strong_half n ≡ 1 = omega arith in let l : 2 ^ 63 ≡ 2 ^ 63 + 1 - weak_half n = omega arith in move ! (2 ∷ 1 ∷ 3 ∷ []) $ fjoin3 ! $ rewrite ! 0 (λ (k : ℕ). ‵ (all_but Z R d k u)) (sym s) refl $
          -- [the others; the part; lend; stubs; keep]
          move ! (4 ∷ 2 ∷ []) $ fjoin ! $ move ! (0 ∷ 1 ∷ 3 ∷ []) $ rewrite ! 2 (λ (k : ℕ). ‵ (stubs R ω u k)) l refl $ use3 𝓛 (‵ (Pool n)) (shared_in n u (omega arith, omega arith)) $ done !)))

      brings : (n : ℕ) → ⟦ Pool n ⟧ ∗ ⟦ Back ⟧ ⊢ upd 𝓤 (⟦ Pool n ⟧ ∗ ⟦ One ⟧)
      brings n = qed 𝓛 (‵ (Pool n) ∷ ‵ Back ∷ []) ∵ fpick ! (λ f. by ! (bringing n f))

      -- the value is brought back, and then a strong share takes a step
      brings_and : (f : ℕ → ℕ) (left : ℕ → Fml) → ((n : ℕ) → n < 2 ^ 64 → ⟦ Pool n ⟧ ∗ ⟦ One ⟧ ⊢ ⟦ Pool (f n) ⟧ ∗ ⟦ left n ⟧)
          → (n : ℕ) → n < 2 ^ 64 → ⟦ word b e (f n) ⟧ ∗ (⟦ beside Z R d t p n ⟧ ∗ ⟦ Back ⟧) ⊢ upd 𝓤 (⟦ Close (f n) ⟧ ∗ ⟦ left n ⟧)
      brings_and f left value n fits = let W : Pr = ⟦ Close (f n) ⟧ ∗ ⟦ left n ⟧ in qed 𝓛 (‵ (word b e (f n)) ∷ ‵ (beside Z R d t p n) ∷ ‵ Back ∷ []) ∵ move ! (1 ∷ []) $ fsplit ! $ move ! (0 ∷ 3 ∷ []) $
          use2 𝓛 (raw (upd 𝓤 (⟦ Pool n ⟧ ∗ ⟦ One ⟧))) (brings n) $ settle 𝓛 W (‵ (Pool n) ⊛ ‵ One) $ suffices ! _ (upd_i 𝓤 W) $ split ! $
          use2 𝓛 (‵ (Pool (f n)) ⊛ ‵ (left n)) (value n fits) $ split ! $ move ! (3 ∷ 0 ∷ 2 ∷ []) $ use3 𝓛 (‵ (Close (f n))) (alive_in (f n)) $ done !

    abbrev pub Steps : (ℕ → ℕ) → Kind → (ℕ → Fml) → Type 1
    Steps f k left = (id : ℕ) (v : X) (then : ℕ → X → Type 0) → Keeps holds id v f then → A.inv I ∗ ⟦ fsep (Right k) (Seat id v) ⟧ ⊢ asks 𝓛 (block_ptr b e) f always (λ n. fsep (left n) (moved 𝓛 cw holds d.views then id n))

    -- a load leaves the right as it is
    stays_as : (K : Fml) (n : ℕ) → n < 2 ^ 64 → ⟦ word b e n ⟧ ∗ (⟦ beside Z R d t p n ⟧ ∗ ⟦ K ⟧) ⊢ ⟦ Close n ⟧ ∗ ⟦ K ⟧
    stays_as K = stays (λ n. n) K (λ _. K) (λ n _. id⊢ 𝓤 _)

    freed_held : (W : Pr) → ⟦ Freed ⟧ ∗ ⟦ Right held ⟧ ⊢ W
    freed_held W = qed 𝓛 (‵ Freed ∷ ‵ (Right held) ∷ []) ∵ fsplit ! $ fsplit ! $ move ! (3 ∷ []) $ fsplit ! $ keep ! (1 ∷ 3 ∷ []) $ by ! (lend_once W)

    Looks : Kind → Type 1
    Looks k = Steps (λ n. n) k (λ _. Right k)

    pub look_asks : (k : Kind) → MayLook k → Steps (λ n. n) k (λ _. Right k)
    unfolding Looks
    look_asks k (inl (inl is)) = subst Looks (sym is) (steps (λ n. n) One (λ _. One) freed_part (stays_as One))
    look_asks k (inl (inr is)) = subst Looks (sym is) (steps (λ n. n) (Right held) (λ _. Right held) freed_held (stays_as (Right held)))
    look_asks k (inr is) = subst Looks (sym is) (steps (λ n. n) Stub (λ _. Stub) freed_stub (stays_as Stub))

    -- the one strong share ends, and no weak one is there
    quits : ⟦ Pool 4294967297 ⟧ ∗ ⟦ One ⟧ ⊢ ⟦ Pool 1 ⟧ ∗ ⟦ Has (met 4294967297 last one_strong 4294967297) ⟧
    quits = qed 𝓛 (‵ (Pool 4294967297) ∷ ‵ One ∷ []) ∵ use2 𝓛 (‵ (Pool (less 4294967297)) ⊛ ‵ (Has (fallen 4294967297))) (falls 4294967297 (lit< tt)) $ split ! $
        let one : less 4294967297 ≡ 1 = omega arith in rewrite ! 0 (λ (k : ℕ). ‵ (Pool k)) one refl $ move ! (1 ∷ []) $ fpick ! (λ r. fsplit ! $ fpick ! (λ good. drop ! $
        let half : strong_half 4294967297 ≡ 1 = omega arith in rewrite ! 0 (λ (k : Kind). ‵ (Right k)) (good.0 half) refl $ use1 𝓛 (‵ (Has (met 4294967297 last one_strong 4294967297))) (Has-in (met 4294967297 last one_strong 4294967297) last ((λ _. refl), (λ ne. absurd (ne refl)))) $
        move ! (1 ∷ 0 ∷ []) $ done !))

    quits_at : (old new : ℕ) → old ≡ 4294967297 → new ≡ 1 → ⟦ Pool old ⟧ ∗ ⟦ One ⟧ ⊢ ⟦ Pool new ⟧ ∗ ⟦ Has (met old last one_strong old) ⟧
    quits_at old new is to = subst (λ (j : ℕ). ⟦ Pool old ⟧ ∗ ⟦ One ⟧ ⊢ ⟦ Pool j ⟧ ∗ ⟦ Has (met old last one_strong old) ⟧) (sym to) (subst (λ (i : ℕ). ⟦ Pool i ⟧ ∗ ⟦ One ⟧ ⊢ ⟦ Pool 1 ⟧ ∗ ⟦ Has (met i last one_strong i) ⟧) (sym is) quits)

    abbrev pub after_exchange : Change → ℕ → ℕ → Fml
    after_exchange c old n = Has (met old (kind_after c) (kind_before c) n)

    pub exchange_asks : RowLaws R → (c : Change) (old new : ℕ) → MayChange c old new → Steps (λ n. either (eqb n old) new n) (kind_before c) (after_exchange c old)
    exchange_asks L clone old new may = let f : ℕ → ℕ = λ n. either (eqb n old) new n in steps f One (after_exchange clone old) freed_part (stays f One (after_exchange clone old) (rises old new may.0 may.1 may.2))
    exchange_asks L downgrade old new may = let f : ℕ → ℕ = λ n. either (eqb n old) new n in steps f One (after_exchange downgrade old) freed_part (stays f One (after_exchange downgrade old) (turns old new may.0 may.1))
    exchange_asks L clone_weak old new may = let f : ℕ → ℕ = λ n. either (eqb n old) new n in steps f Stub (after_exchange clone_weak old) freed_stub (stays f Stub (after_exchange clone_weak old) (spreads old new may.0 may.1))
    exchange_asks L upgrade old new may = let f : ℕ → ℕ = λ n. either (eqb n old) new n in steps f Stub (after_exchange upgrade old) freed_stub (stays f Stub (after_exchange upgrade old) (arrives old new may.0 may.1 may.2 L))
    exchange_asks L end_sole old new may = let f : ℕ → ℕ = λ n. either (eqb n old) new n in steps f One (after_exchange end_sole old) freed_part (stays f One (after_exchange end_sole old) (λ n _. exchanged old new last one_strong One (id⊢ 𝓤 ⟦ One ⟧) (quits_at old new may.0 may.1) n))

    pub fall_asks : RowLaws R → {k : Kind} (s : IsStrong k) → Steps less (ready (inl s)) (λ n. Has (fallen n))
    fall_asks L (inl is) = steps less One (λ n. Has (fallen n)) freed_part (stays less One (λ n. Has (fallen n)) falls)
    fall_asks L (inr is) = steps_upd less Back (λ n. Has (fallen n)) freed_back (brings_and L less (λ n. Has (fallen n)) falls)

    Leaves : Kind → Type 1
    Leaves k = Steps left_by k (λ n. Has (ended n))

    pub unit_asks : (k : Kind) → (k ≡ one_weak) ⊎ (k ≡ emptied) → Steps left_by k (λ n. Has (ended n))
    unfolding Leaves
    unit_asks k (inl is) = subst Leaves (sym is) (steps left_by Stub (λ n. Has (ended n)) freed_stub (ends_by Stub stub_ends))
    unit_asks k (inr is) = subst Leaves (sym is) (steps left_by Taken (λ n. Has (ended n)) freed_taken (ends_by Taken taken_ends))

    Seizes : Kind → Type 1
    Seizes k = Steps (λ n. n) k (λ n. Has (claimed n))

    pub claim_asks : (k : Kind) → IsStrong k → Steps (λ n. n) k (λ n. Has (claimed n))
    unfolding Seizes
    claim_asks k (inl is) = subst Seizes (sym is) (steps (λ n. n) One (λ n. Has (claimed n)) freed_part (stays (λ n. n) One (λ n. Has (claimed n)) claims))
    claim_asks k (inr is) = subst Seizes (sym is) (steps (λ n. n) (Right held) (λ n. Has (claimed n)) freed_held (stays (λ n. n) (Right held) (λ n. Has (claimed n)) held_claims))

    pub bring_asks : RowLaws R → {k : Kind} (m : MayLook k) → Steps (λ n. n) (ready m) (λ _. Right (at_rest m))
    bring_asks L (inl (inl is)) = steps (λ n. n) One (λ _. One) freed_part (stays_as One)
    bring_asks L (inl (inr is)) = steps_upd (λ n. n) Back (λ _. One) freed_back (brings_and L (λ n. n) (λ _. One) (λ n _. id⊢ 𝓤 _))
    bring_asks L (inr is) = steps (λ n. n) Stub (λ _. Stub) freed_stub (stays_as Stub)

    -- a view is cut in two, at a load by a share of two
    abbrev pub two_seats : ℕ → X → X → ℕ → Fml
    two_seats id l r j = fsep (Seat id l) (Seat j r)

    cuts : (id : ℕ) (v l r : X) → Cuts holds id v l r → (n : ℕ) → n < 2 ^ 64 → ⟦ V n ⟧ ∗ ⟦ Seat id v ⟧ ⊢ upd 𝓤 (⟦ V n ⟧ ∗ ⟦ fex ℕ (two_seats id l r) ⟧)
    cuts id v l r law n small = let ν : ℕ = d.views in let C : Pr = ⟦ V n ⟧ ∗ ⟦ fex ℕ (two_seats id l r) ⟧ in
        qed 𝓛 (‵ (V n) ∷ ‵ (Seat id v) ∷ []) ∵ fpick ! (λ vs. fsplit ! $ move ! (1 ∷ []) $ fpick ! (λ so. let us : List X = set vs id l in move ! (1 ∷ 2 ∷ []) $
        use2 𝓛 (given (get_elem? vs id ≡ maybe.some v) (raw (all 𝓤 (Moved 𝓛 cw ν 0 vs id id)))) (moves 𝓛 cw ν vs 0 id id v (omega arith)) $ learn ! (λ at.
        use1 𝓛 (raw (Moved 𝓛 cw ν 0 vs id id l)) (all_e 𝓤 (Moved 𝓛 cw ν 0 vs id id) l) $ settle 𝓛 C (‵ (roster cw.code ν 0 us) ⊛ ‵ (Seat id l)) $ split ! $
        use1 𝓛 (raw (upd 𝓤 (ex 𝓤 (Joined 𝓛 cw ν 0 us r)))) (joins 𝓛 cw ν us 0 r) $ settle 𝓛 C (some (λ (j : ℕ). ‵ (roster cw.code ν 0 (us ++ r ∷ [])) ⊛ ‵ (Seat j r))) $ pick ! (λ j. split ! $ suffices ! _ (upd_i 𝓤 C) $
        move ! (3 ∷ []) $ fpack ! (holds n (us ++ r ∷ [])) (λ _. ftrue) (law n vs so at) $ move ! (1 ∷ 0 ∷ []) $ fjoin ! $ fpack ! (List X) (viewed Z R t cw.code holds d n) (us ++ r ∷ []) $ frame ! $
        move ! (1 ∷ 0 ∷ []) $ fjoin ! $ fpack ! ℕ (two_seats id l r) j $ done !))))

    freed_two : (W : Pr) → ⟦ Freed ⟧ ∗ ⟦ Right two_strong ⟧ ⊢ W
    freed_two W = qed 𝓛 (‵ Freed ∷ ‵ (Right two_strong) ∷ []) ∵ fsplit3 ! $ move ! (1 ∷ []) $ fpick ! (λ w. move ! (3 ∷ []) $ fsplit ! $ keep ! (2 ∷ 0 ∷ []) $ by ! (none_beside 𝓛 R γ u w 2 W))

    freed_mixed : (W : Pr) → ⟦ Freed ⟧ ∗ ⟦ Right strong_and_weak ⟧ ⊢ W
    freed_mixed W = qed 𝓛 (‵ Freed ∷ ‵ (Right strong_and_weak) ∷ []) ∵ move ! (1 ∷ []) $ fsplit ! $ keep ! (2 ∷ 0 ∷ []) $ by ! (freed_part W)

    freed_stubs : (W : Pr) → ⟦ Freed ⟧ ∗ ⟦ Right two_weak ⟧ ⊢ W
    freed_stubs W = qed 𝓛 (‵ Freed ∷ ‵ (Right two_weak) ∷ []) ∵ fsplit3 ! $ move ! (2 ∷ []) $ fpick ! (λ w. keep ! (0 ∷ 3 ∷ []) $ by ! (no_stub_beside 𝓛 R ω u w 2 W))

    module _ (id : ℕ) (v l r : X) (law : Cuts holds id v l r) where
      Splits : Kind → Type 1
      Splits k = A.inv I ∗ ⟦ fsep (Right k) (Seat id v) ⟧ ⊢ asks 𝓛 (block_ptr b e) (λ n. n) always (λ n. fsep (Right k) (fex ℕ (two_seats id l r)))

      splits : (K : Fml) → ((W : Pr) → ⟦ Freed ⟧ ∗ ⟦ K ⟧ ⊢ W) → A.inv I ∗ ⟦ fsep K (Seat id v) ⟧ ⊢ asks 𝓛 (block_ptr b e) (λ n. n) always (λ n. fsep K (fex ℕ (two_seats id l r)))
      splits K refutes = steps_both (λ n. n) K (Seat id v) (λ _. K) (λ _. fex ℕ (two_seats id l r)) refutes (λ n fits. via 𝓤 _ (stays_as K n fits) (upd_i 𝓤 (⟦ Close n ⟧ ∗ ⟦ K ⟧))) (cuts id v l r law)

      pub split_asks : (k : Kind) → (k ≡ two_strong) ⊎ ((k ≡ strong_and_weak) ⊎ (k ≡ two_weak)) → A.inv I ∗ ⟦ fsep (Right k) (Seat id v) ⟧ ⊢ asks 𝓛 (block_ptr b e) (λ n. n) always (λ n. fsep (Right k) (fex ℕ (two_seats id l r)))
      unfolding Splits
      split_asks k (inl is) = subst Splits (sym is) (splits (Right two_strong) freed_two)
      split_asks k (inr (inl is)) = subst Splits (sym is) (splits (Right strong_and_weak) freed_mixed)
      split_asks k (inr (inr is)) = subst Splits (sym is) (splits (Right two_weak) freed_stubs)
