-- A block that was just written, as the rights of `std_alloc`'s `Arc.Ownership` name its parts. Assumes `Logic`.
use mathlib.Core.Path.{refl}
use Prim.Native.Nat.{ℕ, ◌+◌}
use mathlib.Core.List.{[], ◌∷◌}
use seplogic.Ra.Ura.{Ura}
use base.Fraction.{full_share}
use mir.Syntax.{Sym, Ty, Tys, w64, ty_int, ty_struct, tcons, tnil}
use mir.Val.{Val, Vals, vint, vstruct, vcons, vnil}
use mir.Raw.{raw as bare}
use base.Logic.{SProp, ent, sep, all, wand, via, mono_r, apply∗}
use base.Fml.{Fml, ftrue, fat, froom}
use prog.Model.{fields_at, rooms_at}
use types.Logic.{Logic, sem}
use contract.Monad.{conj_r}
use types.Kit.{‵, raw, ◌⊛◌, ◌$◌, ◌∵◌, !, qed, by, move, keep, use1, use2, group, split, split3, assume, fjoin, fjoin3, fpack, done}
use denote.Memory.{part_at}
use denote.RawPtr.{block_ptr}
use denote.Steps.{nothing}
use borrow.Table.OneValue.{part_in}
use Rattle.core.proofs.alloc.Calls.{α, token}
use Rattle.std_alloc.specs.Arc.Ownership.{arc_inner_type, allocator_offset, value_offset, fields_rejoin, dealloc_by, value_and_blocks}
use Rattle.std_alloc.proofs.RawLayout.{as_written}
use Rattle.std_alloc.proofs.BoxSteps.Form.{Bx, X, τ, own, R, P, handle}
use Rattle.std_alloc.proofs.BoxSteps.Steps.{el_in}

module _ (E : Bx) where
  abbrev pub heap_at : ℕ
  heap_at = allocator_offset (P E) (R E)

  abbrev pub value_at : ℕ
  value_at = value_offset (P E) (R E)

  abbrev pub inner_ty : Ty
  inner_ty = arc_inner_type (P E) (R E)

  -- the word, the allocator and the value
  abbrev pub fields : Tys
  fields = tcons (ty_int w64) (tcons (α E.al) (tcons (τ E) tnil))

module _ (E : Bx) {M : Type 1} {𝓤 : Ura M} (𝓛 : Logic 𝓤) (ν : Sym) (b o : ℕ) where
  open 𝓛 use {H}

  abbrev block : Ty
  block = ty_struct ν (fields E)

  abbrev holding : ℕ → Val → Val → Vals
  holding n h v = vcons (vint w64 n) (vcons h (vcons v vnil))

  abbrev word_at : ℕ → Fml
  word_at n = fat full_share (ty_int w64) b (o + 0) (vint w64 n)

  -- room for the fields makes room for the block
  abbrev Together : SProp 𝓤
  Together = wand 𝓤 (rooms_at 𝓤 H (fields E) 0 b o) (H.room block b o)

  together : ent 𝓤 Together (sem 𝓛 (fields_rejoin (P E) (R E) (block_ptr b o)))
  together = qed 𝓛 (raw Together ∷ []) ∵
      assume ! (‵ (froom (ty_int w64) b (o + 0)) ⊛ ‵ (froom (bare (α E.al)) b (o + heap_at E)) ⊛ ‵ (froom (bare (τ E)) b (o + value_at E))) $ split3 ! $
      move ! (1 ∷ []) $ as_written ! (α E.al) b (o + heap_at E) $ move ! (2 ∷ []) $ as_written ! (τ E) b (o + value_at E) $
      -- [the value's room; the allocator's; the word's; the way back]
      nothing ! $ move ! (3 ∷ 2 ∷ 1 ∷ 0 ∷ []) $ group ! 4 $ use2 𝓛 (‵ (froom block b o)) (apply∗ 𝓤 (rooms_at 𝓤 H (fields E) 0 b o) (H.room block b o)) $ by ! (𝓛.laws.room-raw block b o)

  abbrev apart : ℕ → Val → Val → SProp 𝓤
  apart n h v = sep 𝓤 (fields_at 𝓤 H full_share (fields E) 0 b o (holding n h v)) Together

  comes_apart : (n : ℕ) (h v : Val) → ent 𝓤 (H.at full_share block b o (vstruct (holding n h v))) (apart n h v)
  comes_apart n h v = via 𝓤 _ (𝓛.laws.at_fields_free ν (fields E) b o (holding n h v))
      (mono_r 𝓤 (fields_at 𝓤 H full_share (fields E) 0 b o (holding n h v)) (conj_r 𝓤 (all 𝓤 (λ (ws : Vals). wand 𝓤 (fields_at 𝓤 H full_share (fields E) 0 b o ws) (H.at full_share block b o (vstruct ws)))) Together))

  pub block_made : (n : ℕ) (h : E.al.row.Denot) (x : X E) (hv v : Val)
      → ent 𝓤 (sep 𝓤 (H.at full_share block b o (vstruct (holding n hv v))) (sep 𝓤 (sem 𝓛 (token E.al h (inner_ty E) (block_ptr b o))) (sep 𝓤 (sem 𝓛 (handle E h hv)) (sem 𝓛 (own E x (v ∷ []))))))
      (sep 𝓤 (sem 𝓛 (word_at n)) (sem 𝓛 (value_and_blocks (P E) (token E.al) (R E) (block_ptr b o) x)))
  block_made n h x hv v =
      qed 𝓛 (‵ (fat full_share block b o (vstruct (holding n hv v))) ∷ ‵ (token E.al h (inner_ty E) (block_ptr b o)) ∷ ‵ (handle E h hv) ∷ ‵ (own E x (v ∷ [])) ∷ []) ∵
      use1 𝓛 ((‵ (word_at n) ⊛ ‵ (fat full_share (α E.al) b (o + heap_at E) hv) ⊛ ‵ (fat full_share (τ E) b (o + value_at E) v) ⊛ ‵ ftrue) ⊛ raw Together) (comes_apart n hv v) $ split ! $ split ! $ move ! (1 ∷ []) $ split3 ! $
      -- [the allocator's place; the value's place; true; the word; the way back; the right to free; the allocator; the value]
      move ! (1 ∷ 7 ∷ []) $ use2 𝓛 (‵ (part_at (R E) full_share x b (o + value_at E))) (el_in E 𝓛 x b (o + value_at E) v) $
      move ! (1 ∷ 6 ∷ []) $ use2 𝓛 (‵ (part_at (P E) full_share h b (o + heap_at E))) (part_in 𝓛 (P E) refl full_share h b (o + heap_at E) hv) $
      -- [the allocator; the value; true; the word; the way back; the right to free]
      move ! (4 ∷ []) $ use1 𝓛 (‵ (fields_rejoin (P E) (R E) (block_ptr b o))) together $ move ! (1 ∷ 5 ∷ 0 ∷ []) $ fjoin3 ! $ fpack ! E.al.row.Denot (dealloc_by (P E) (token E.al) (R E) (block_ptr b o)) h $
      move ! (1 ∷ 0 ∷ []) $ fjoin ! $ move ! (2 ∷ 0 ∷ []) $ keep ! (0 ∷ 1 ∷ []) $ done !
