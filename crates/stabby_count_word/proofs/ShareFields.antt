-- The data fields of a `Share`: its pointer and a marker. Assumes `Logic`.
use Rattle.std.proofs.Common.{◌≡◌, List, [], ◌∷◌, ◌++◌, refl, ap, ◌∙◌}
use seplogic.Ra.Ura.{Ura}
use mir.Val.{Val, vstruct, vcons, vnil, of_list, has_ty, WT}
use mir.Syntax.{ty_struct, ty_ptr, tcons, tnil}
use lib.Dec.{T, lit<}
use base.Logic.{ent, emp}
use types.Logic.{Logic, sem}
use denote.RattleType.{RattleType}
use denote.Laws.{Is}
use denote.Opens.{Opens}
use denote.Copied.{Struct-Copied}
use denote.RawPtr.{Ptr, block_ptr, null_ptr, ptr_val}
use denote.Shadow.{makes_shadow}
use denote.Struct.Laws.{RawPtr-copy, field_copy}
use denote.Struct.Struct.{Struct}
use denote.Struct.Owning.{shape}
use denote.Struct.Tuple.{Tuple}
use Rattle.core.specs.contracts.marker.PhantomData as marker
use Rattle.core.specs.declared.alloc.Allocator.{Ghosts}
use Rattle.stabby_count_word.specs.declared.rule.CountRule.{Ghosts as RuleGhosts}
use Rattle.stabby_count_word.specs.contracts.seat.Seat as seat
use Rattle.stabby_count_word.specs.contracts.share.Share as share

abbrev pub word : Ptr → Val
word p = vstruct (vcons (ptr_val p) (vcons (vstruct vnil) vnil))

module _ (R Z X Y : RattleType) (g : Ghosts Z.Denot) (r : RuleGhosts Y.Denot X.Denot) where
  abbrev pub Data : RattleType
  Data = Struct (shape (share.the_type R Z X Y g r))

  pub told : (p : Ptr) (vs : List Val) → Is Data (p, (tt, tt)) vs → vs ≡ word p ∷ []
  told p vs is = is.1.0 ∙ ap (λ (ws : List Val). vstruct (of_list (ws ++ (is.0.1.0 ++ []))) ∷ []) is.1.1.0 ∙ ap (λ (ws : List Val). vstruct (of_list (ptr_val p ∷ (ws ++ []))) ∷ []) is.1.1.1.0.1.0

  pub made : {M : Type 1} {𝓤 : Ura M} (𝓛 : Logic 𝓤) (p : Ptr) → ent 𝓤 (emp 𝓤) (sem 𝓛 (Data.own_val (p, (tt, tt)) (word p ∷ [])))
  made 𝓛 p = makes_shadow 𝓛 (Data.own_val (p, (tt, tt)) (word p ∷ [])) (λ vss. (tt, (tt, ((λ uss. (tt, tt)), tt)))) ((ptr_val p ∷ [], (vstruct vnil ∷ [], tt)), (refl, (refl, ((tt, (refl, tt)), tt))))

  pub opened : {M : Type 1} {𝓤 : Ura M} (𝓛 : Logic 𝓤) → Opens 𝓛 Data
  opened {M} {𝓤 = 𝓤} 𝓛 = (Struct-Copied 𝓛 (shape (share.the_type R Z X Y g r)) (refl, (refl, tt)) (RawPtr-copy.copied M 𝓤 𝓛, ((field_copy (marker.the_type (Tuple (X ∷ Y ∷ []))) tt).copied M 𝓤 𝓛, tt))).opens

pub word_good : (p : Ptr) → T (has_ty (ty_struct [] (tcons ty_ptr (tcons (ty_struct [] tnil) tnil))) (word p)) × WT (word p)
word_good (block_ptr b o) = (tt, (tt, (tt, tt)))
word_good null_ptr = (tt, (record { fits = lit< tt }, (tt, tt)))

pub ptr_good : (p : Ptr) → T (has_ty ty_ptr (ptr_val p)) × WT (ptr_val p)
ptr_good (block_ptr b o) = (tt, tt)
ptr_good null_ptr = (tt, record { fits = lit< tt })

module _ (W : RattleType) where
  abbrev pub Sign : RattleType
  Sign = Struct (shape (seat.the_type W))

  pub sign_made : {M : Type 1} {𝓤 : Ura M} (𝓛 : Logic 𝓤) → ent 𝓤 (emp 𝓤) (sem 𝓛 (Sign.own_val (tt, tt) (vstruct (vcons (vstruct vnil) vnil) ∷ [])))
  sign_made 𝓛 = makes_shadow 𝓛 (Sign.own_val (tt, tt) (vstruct (vcons (vstruct vnil) vnil) ∷ [])) (λ vss. (tt, ((λ uss. (tt, tt)), tt))) ((vstruct vnil ∷ [], tt), (refl, ((tt, (refl, tt)), tt)))
