-- `get_mut` lends the value where it is, and the share follows it.
use Rattle.std.proofs.Common.{◌≡◌, ℕ, List, [], ◌∷◌, refl, sym}
use seplogic.Ra.Ura.{Ura}
use base.Fraction.{full_share}
use mir.Syntax.{a_type, dcons, dnil, named}
use mir.Val.{Val, vptr}
use mir.MapTy.{inst_fn}
use base.Stored.{Coded}
use base.Logic.{SProp, ent, sep, emp}
use base.Fml.{Fml, Lft, Share, GName, ftrue, fsep, flft}
use types.Logic.{Logic, sem}
use types.Kit.{‵, raw, ◌⊛◌, some, later, at_ret, ◌$◌, ◌∵◌, !, qed, by, move, keep, split, split3, join, fsplit, fsplit3, fjoin, fpack, pick, group, use0, use1, await, rewrite, done}
use types.Run.{stop, fld, hop, addr, of_opd, first, blocks, exec, returns, enter}
use types.ByLocal.{alloc_all, pass_all, free_all, look_at, get, through, sets, sets_last, env}
use types.Part.{sub, whole, look_in}
use contract.Monad.{fact, fact_i}
use contract.Running.{tables}
use denote.Builtin.{RefMutOf}
use denote.Exit.{no}
use denote.Follow.{follows, lends_Part}
use denote.Memory.{cell_at, part_at, part_of, mem}
use denote.RattleType.{RattleType, owns}
use denote.Ref.{MutRef, mut_vals, mut_Tells}
use denote.Signature.{types_at, plain}
use denote.Steps.{nothing, opens}
use denote.RawPtr.{Ptr, block_ptr}
use denote.Param.{param, bounded}
use denote.Triple.Walked.{Stays, stay_dropped, walk_of, Goes-spent_ref}
use Rattle.core.specs.declared.alloc.Allocator.{Ghosts}
use Rattle.stabby_count_word.specs.declared.rule.CountRule.{Ghosts as RuleGhosts}
use Rattle.core.proofs.atomic.Steps.{tail}
use Rattle.std.proofs.raw_atomic.Walks.{proved, leaves}
use Rattle.stabby_count_word.specs.Lending.{with_value}
use Rattle.std.proofs.Common.{◌+◌, ap, ◌∙◌}
use mir.Syntax.{Ty}
use base.Fml.{finv}
use types.Kit.{drop, fpick, learn, given}
use denote.Laws.{Is, shows}
use denote.Steps.{peeks}
use denote.RawPtr.{InBlock, block_of, count_of, at_block, lies_at, ◌+ₚ◌}
use Rattle.std_alloc.specs.Arc.Ownership.{value_offset}
use Rattle.stabby_count_word.specs.Kinds.{Kind, held}
use Rattle.stabby_count_word.specs.Rights.{seat_owns, BlockNames, idle, counted, right_to}
use Rattle.stabby_count_word.specs.contracts.share.Share as part
use Rattle.stabby_count_word.proofs.ShareFields.{word, Data, told}
use Rattle.stabby_count_word.specs.contracts.share.Share.show_mut.{ended, clauses}
use Rattle.stabby_count_word.specs.contracts.share.Share.show_mut.Key.{name as #self}
use Rattle.stabby_count_word.proofs.share.Share.show_mut.Statement.{statement}
use Rattle.stabby_count_word.proofs.share.Share.show_mut.Code as code

module _ (R Z Q Y : RattleType) (g : Ghosts Z.Denot) (gp : RuleGhosts Y.Denot Q.Denot) {M : Type 1} {𝓤 : Ura M} (𝓛 : Logic 𝓤) (rb ro : ℕ) (h : (part.the_row R Z Q Y g gp).Denot) (vs : List Val) where
  abbrev cw : Coded Q.Denot
  cw = Q.coded

  abbrev Row : RattleType
  Row = part.the_row R Z Q Y g gp

  abbrev p : Ptr
  p = h.ptr

  abbrev off : ℕ
  off = value_offset Z R

  abbrev Field : Fml
  Field = (Data R Z Q Y g gp).own_val (p, (tt, tt)) vs

  -- all of the share but its value
  abbrev Rest : Fml
  Rest = fsep (fsep (fsep (fsep (idle R h.names.lend) (seat_owns cw.code h.names.views h.id h.view)) (finv (counted Z R g.dealloc_token cw.code gp.holds h.names p))) Field) (cell_at full_share Row.mir vs rb ro)

  back : InBlock p → h.kind ≡ held → (w : R.Denot) → ent 𝓤 (sep 𝓤 (sem 𝓛 ((mem R).own_at w (block_of p) (count_of p + off))) (sem 𝓛 Rest)) (sem 𝓛 ((mem Row).own_at (with_value h w) rb ro))
  unfolding part_of
  back inb holds_it w = let ux : ℕ × (R.Denot × Ptr) = (h.round, (w, p)) in
      qed 𝓛 (‵ (part_at R full_share w (block_of p) (count_of p + off)) ∷ ‵ Rest ∷ []) ∵ move ! (1 ∷ []) $ fsplit ! $ fsplit ! $ fsplit ! $ fsplit ! $ move ! (5 ∷ []) $
      rewrite ! 0 (λ (r : Ptr). ‵ (lies_at R full_share (r +ₚ off) w)) (sym (at_block p inb)) refl $ move ! (0 ∷ 1 ∷ []) $ fjoin ! $ rewrite ! 0 (λ (k : Kind). ‵ (right_to Z R h.names g.dealloc_token ux k)) (sym holds_it) refl $
      move ! (0 ∷ 1 ∷ []) $ fjoin ! $ move ! (0 ∷ 1 ∷ []) $ fjoin ! $ nothing ! $ fpack ! (InBlock p) (λ _. ftrue) inb $ fjoin ! $ move ! (1 ∷ 0 ∷ []) $ fjoin ! $ move ! (1 ∷ 0 ∷ []) $ fjoin ! $
      fpack ! (List Val) (λ us. fsep (cell_at full_share Row.mir us rb ro) (Row.own_val (with_value h w) us)) vs $ done !

pub show_mut_spec : {M : Type 1} → statement M
show_mut_spec 𝓤 𝓛 𝓜 𝓡 wired T A X P L LA _ _ g di gp dp dd allocator glued _ =
    let H = 𝓛.H in let 𝓣 = tables 𝓤 H 𝓜 𝓡 𝓡.env in let R : RattleType = param 0 T in let Z : RattleType = param 1 A in let Q : RattleType = param 2 X in let Y : RattleType = param 3 P in let cw : Coded X.Denot = Q.coded in let En = ended T A X P g di gp dp dd in let c = clauses T A X P g di gp dp dd 𝓛 𝓜.mem 𝓡.returns in
    let B : RattleType = part.the_row R Z Q Y g gp in let D : RattleType = Data R Z Q Y g gp in let inst = bounded (a_type ∷ a_type ∷ a_type ∷ a_type ∷ []) (T, (A, (X, (P, tt)))) (dcons di (dcons dp (dcons dd dnil))) in let fn = inst_fn inst code.function in
    let hs : Stays En.signature.params En.kept = (stay_dropped (RefMutOf (0 ∷ []) tt (plain (λ _. B)) (λ _. tt)) no, tt) in
    proved 𝓛 En hs c 𝓜 𝓡 (Goes-spent_ref 𝓛 5 (0 ∷ []) tt (plain (λ _. B)), tt) (#self inst) fn (code.unfolded 𝓤 H 𝓜 𝓡 wired (T, (A, (X, (P, tt)))) di dp dd)
    (λ κs. (mut_vals, tt)) (λ κs. (mut_Tells (named 0) κs.0 B, tt)) (λ κs qs bounds a gh are.
    let rb : ℕ = a.0.ref_ptr.0 in let ro : ℕ = a.0.ref_ptr.1 in let γ : GName = a.0.ghost_name in let h : B.Denot = a.0.now in let κ : Lft = κs.0 in let q : Share = qs.0 in let others : Fml = fsep (flft κs.1.0 qs.1.0) (fsep (flft κs.1.1.0 qs.1.1.0) (fsep (flft κs.1.1.1.0 qs.1.1.1.0) (fsep (flft κs.1.1.1.1.0 qs.1.1.1.1.0) ftrue))) in
    let y : (walk_of 𝓛 En hs c).Ghost = ((κs, qs, bounds, a, (vptr rb ro ∷ [], tt)), gh) in let Post : Val → SProp 𝓤 = (walk_of 𝓛 En hs c).post y in
    let p : Ptr = h.ptr in let x : T.Denot = h.value in let pb : ℕ = block_of p in let po : ℕ = count_of p in let off : ℕ = value_offset Z R in let ds : BlockNames = h.names in let tk : Z.Denot → Ty → Ptr → Fml = g.dealloc_token in let ux : ℕ × (R.Denot × Ptr) = (h.round, (x, p)) in
    qed 𝓛 (((‵ (flft κ q) ⊛ ‵ others) ⊛ ‵ (owns (types_at En.signature.params κs) a y.0.4)) ∷ raw (fact 𝓤 _) ∷ raw (fact 𝓤 _) ∷ raw (fact 𝓤 _) ∷ raw (fact 𝓤 _) ∷ given (h.kind ≡ held) (‵ ftrue) ∷ []) ∵
    keep ! (5 ∷ 0 ∷ []) $ learn ! (λ asked. drop ! $ split ! $ split ! $ move ! (2 ∷ []) $ fsplit ! $ fsplit3 ! $ keep ! (1 ∷ 2 ∷ 4 ∷ 5 ∷ []) $
    enter ! 𝓣.C 𝓣.Λ fn (vptr rb ro ∷ []) Post $ alloc_all ! (λ l. pass_all ! refl ((tt, tt), tt) $ let Ev = env fn.locals l in
    opens ! tt B {h = h} rb ro (λ vs. move ! (1 ∷ []) $ fsplit ! $ peeks ! D (Is D) (shows 𝓛 D) (p, (tt, tt)) vs (λ so. move ! (1 ∷ []) $ fsplit3 ! $ fpick ! (λ inb. drop ! $
    let ev : vs ≡ word (block_ptr pb po) ∷ [] = told R Z Q Y g gp p vs so ∙ ap (λ (r : Ptr). word r ∷ []) (at_block p inb) in
    rewrite ! 3 (λ (ws : List Val). ‵ (cell_at full_share B.mir ws rb ro)) ev refl $ fsplit ! $ rewrite ! 0 (λ (k : Kind). ‵ (right_to Z R ds tk ux k)) asked refl $ fsplit ! $
    -- [the value; lend; the seat; the invariant; the field; the cell; the open borrow; the names; the other tokens]
    rewrite ! 0 (λ (r : Ptr). ‵ (lies_at R full_share (r +ₚ off) x)) (at_block p inb) refl $
    first ! $ blocks ! $ sets_last ! (addr ! (through ! refl (fld ! refl (hop ! (look_in ! 5 (sub ! 0 refl (whole !))) (fld ! refl (stop !)))))) refl (tt, tt) $
    exec ! 𝓣.C 𝓣.Λ Ev (tail fn.body) (at_ret Ev Post) $ sets ! (of_opd ! (get ! refl)) refl (tt, tt) $
    rewrite ! 5 (λ (ws : List Val). ‵ (cell_at full_share B.mir ws rb ro)) (sym ev) refl $
    move ! (1 ∷ 2 ∷ []) $ fjoin ! $ move ! (0 ∷ 2 ∷ []) $ fjoin ! $ move ! (0 ∷ 2 ∷ []) $ fjoin ! $ move ! (0 ∷ 2 ∷ []) $ fjoin ! $ move ! (2 ∷ 3 ∷ 4 ∷ 1 ∷ 0 ∷ []) $ group ! 5 $
    use1 𝓛 (later (some (λ (γ' : GName). ‵ ((MutRef (named 0) κ R).own_val (record { ref_ptr = (pb, po + off); ghost_name = γ'; now = x }) (vptr pb (po + off) ∷ [])) ⊛ ‵ (flft κ q) ⊛ ‵ (follows B R γ γ' (with_value h)))))
    (lends_Part 𝓛 B R (with_value h) (named 0) κ q rb ro pb (po + off) γ (sem 𝓛 (Rest R Z Q Y g gp 𝓛 rb ro h vs)) (back R Z Q Y g gp 𝓛 rb ro h vs inb asked) (B.coded.code h) (B.coded.code h) x) $ await ! tt $ pick ! (λ γ'. split3 ! $
    returns ! (look_at ! 0 refl) $ free_all ! refl $ move ! (2 ∷ []) $ use0 𝓛 (raw (fact 𝓤 (x ≡ x))) (fact_i 𝓤 (x ≡ x) (emp 𝓤) refl) $ move ! (1 ∷ 0 ∷ []) $ join ! $
    move ! (2 ∷ 3 ∷ []) $ join ! $ nothing ! $ nothing ! $ fjoin ! $ keep ! (1 ∷ 0 ∷ 3 ∷ 2 ∷ []) $ by ! (leaves 𝓛 En hs c y (vptr pb (po + off)) (record { ref_ptr = (pb, po + off); ghost_name = γ'; now = x }) (tt, tt) (tt, tt)))))))))
