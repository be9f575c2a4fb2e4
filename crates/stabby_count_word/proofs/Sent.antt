-- What a share owns and shows may cross threads.
use Rattle.std.proofs.Common.{ℕ, List, [], ◌∷◌}
use mathlib.Core.Bool.{Bool, true, false}
use mir.Syntax.{Ty}
use mir.Raw.{raw}
use base.Shift.{Keyless}
use base.Fml.{Lft}
use base.Stored.{Gv}
use types.Keyed.{entry_keyless}
use Rattle.atomic_table.proofs.Sent.{roster_keyless}
use Rattle.atomic_table.specs.Seated.{halved}
use denote.Memory.{lone}
use denote.RattleType.{RattleType}
use denote.RawPtr.{Ptr, block_ptr, null_ptr, ◌+ₚ◌}
use denote.Param.Send.{IsSend, IsSync, Frees}
use Rattle.core.specs.declared.alloc.Allocator.{Ghosts}
use Rattle.std_alloc.specs.Arc.Ownership.{arc_inner_type, allocator_offset, arc_inner_dealloc}
use Rattle.std_alloc.proofs.SendSync.{lies, seen}
use Rattle.stabby_count_word.specs.Kinds.{Kind, nothing as no_right, one_strong, two_strong, last, emptied, block, one_weak, strong_and_weak, two_weak, held, seized, returning}
use Rattle.stabby_count_word.specs.Rights.{BlockNames, Phase, shared, due, gone, away, room, place, state, stands, right_to, right_shares, share_owns, share_shares}

roomy : (τ : Ty) (p : Ptr) → Keyless (denote.RawPtr.room_for τ p)
roomy τ (block_ptr b o) = tt
roomy τ null_ptr = tt

module _ (Z R : RattleType) (g : Ghosts Z.Denot) (s : IsSend R) (y : IsSync R) (sz : IsSend Z) (f : Frees g g.dealloc_token) {W : Type 0} (e : W → Gv) (holds : ℕ → List W → Type 0) (d : BlockNames) where
  room_keyless : (p : Ptr) → Keyless (room Z R p)
  room_keyless p = roomy (raw (lone R.mir)) (place Z R p)

  frees_keyless : (p : Ptr) → Keyless (arc_inner_dealloc Z g.dealloc_token R p)
  frees_keyless p h = (lies Z sz (p +ₚ allocator_offset Z R) h, (f.frees h (arc_inner_type Z R) p, ((roomy _ _, (roomy _ _, roomy _ _)), roomy _ _)))

  state_keyless : (p : Ptr) (n : ℕ) (h : Phase (R.Denot × Ptr)) → Keyless (state Z R d p n h)
  state_keyless p n away = ((λ _. tt), ((λ v. tt), ((λ v. tt), (λ v. tt))))
  state_keyless p n (shared u) = ((λ _. tt), (((λ v. tt), (λ v. tt)), (((λ e c. (tt, tt)), (seen R y (place Z R u.1.1) u.1.0 (u.0 ∷ []), lies R s (place Z R u.1.1) u.1.0)), (λ e c. tt))))
  state_keyless p n (due u) = ((λ _. tt), ((λ v. tt), ((λ v. tt), (λ e c. tt))))
  state_keyless p n (gone u) = ((λ _. tt), ((((λ v. tt), (λ v. tt)), room_keyless p), ((λ v. tt), (λ e c. tt))))

  stands_keyless : (p : Ptr) (b : Bool) → Keyless (stands Z R g.dealloc_token e holds d p b)
  stands_keyless p true = λ n. ((tt, ((λ h. state_keyless p n h), frees_keyless p)), (λ vs. (roster_keyless e d.views 0 vs, (λ _. tt))))
  stands_keyless p false = (((λ v. tt), (λ v. tt)), ((λ v. tt), (λ v. tt)))

  right_keyless : (u : ℕ × (R.Denot × Ptr)) (k : Kind) → Keyless (right_to Z R d g.dealloc_token u k)
  right_keyless u no_right = tt
  right_keyless u one_strong = ((λ e c. (tt, tt)), seen R y (place Z R u.1.1) u.1.0 (u.0 ∷ []))
  right_keyless u two_strong = ((λ e c. (tt, tt)), seen R y (place Z R u.1.1) u.1.0 (u.0 ∷ []))
  right_keyless u last = ((tt, lies R s (place Z R u.1.1) u.1.0), (λ v. tt))
  right_keyless u emptied = (room_keyless u.1.1, (λ v. tt))
  right_keyless u block = (tt, (room_keyless u.1.1, frees_keyless u.1.1))
  right_keyless u one_weak = λ e c. tt
  right_keyless u strong_and_weak = (((λ e c. (tt, tt)), seen R y (place Z R u.1.1) u.1.0 (u.0 ∷ [])), (λ e c. tt))
  right_keyless u two_weak = λ e c. tt
  right_keyless u held = (lies R s (place Z R u.1.1) u.1.0, (λ v. tt))
  right_keyless u seized = ((tt, lies R s (place Z R u.1.1) u.1.0), (λ v. tt))
  right_keyless u returning = (tt, (seen R y (place Z R u.1.1) u.1.0 (u.0 ∷ []), (lies R s (place Z R u.1.1) u.1.0, (λ v. tt))))

  pub owns_keyless : (u : ℕ × (R.Denot × Ptr)) (k : Kind) (id : ℕ) (w : W) → Keyless (share_owns Z R g.dealloc_token e holds d u k id w)
  owns_keyless u k id w = ((λ _. tt), ((right_keyless u k, entry_keyless halved d.views id _), λ b. stands_keyless u.1.1 b))

right_shared : (Z R : RattleType) → IsSync R → (u : ℕ × (R.Denot × Ptr)) (k : Kind) (κ : Lft) → Keyless (right_shares Z R u k κ)
right_shared Z R y u no_right κ = tt
right_shared Z R y u one_strong κ = ((λ q. tt), seen R y (place Z R u.1.1) u.1.0 (u.0 ∷ []))
right_shared Z R y u two_strong κ = tt
right_shared Z R y u last κ = tt
right_shared Z R y u emptied κ = tt
right_shared Z R y u block κ = tt
right_shared Z R y u one_weak κ = tt
right_shared Z R y u strong_and_weak κ = tt
right_shared Z R y u two_weak κ = tt
right_shared Z R y u held κ = seen R y (place Z R u.1.1) u.1.0 κ
right_shared Z R y u seized κ = tt
right_shared Z R y u returning κ = tt

pub shares_keyless : (Z R : RattleType) → IsSync R → (u : ℕ × (R.Denot × Ptr)) (k : Kind) (κ : Lft) → Keyless (share_shares Z R u k κ)
shares_keyless Z R y u k κ = ((λ _. tt), right_shared Z R y u k κ)
