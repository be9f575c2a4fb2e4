-- `take_room` takes the allocator out of the block, and what is left is room.
use Rattle.std.proofs.Common.{w64, ◌≡◌, ℕ, ◌+◌, List, [], ◌∷◌, sym, refl, ap, ◌∙◌}
use mir.Syntax.{Ty, a_type, dcons, dnil, named}
use denote.Param.{param, bounded}
use mir.Raw.{raw as bare}
use mir.Val.{Val, vint, vptr}
use mir.MapTy.{inst_fn}
use base.Fraction.{full_share}
use base.Stored.{Coded}
use base.Logic.{SProp, emp}
use base.Fml.{Lft, Fml, ftrue, fsep, flft, fat, froom}
use types.Kit.{group, use2, ‵, raw, ◌⊛◌, some, given, at_ret, ◌$◌, ◌∵◌, !, qed, by, move, keep, drop, learn, pick, split, join, fsplit, fsplit3, fjoin, fjoin3, fpick, fpack, use0, use1, rewrite, feq_i}
use types.Run.{stop, fld, load, addr, look, of_opd, no_more, and_then, first, blocks, exec, returns, enter}
use types.ByLocal.{alloc_all, pass_all, free_all, look_at, get, through, sets, sets_last, env}
use types.Part.{agg, sub, whole, look_in}
use contract.Running.{tables}
use contract.Monad.{fact, fact_i}
use denote.Memory.{cell_at}
use denote.RattleType.{RattleType, owns}
use denote.Signature.{types_at, plain}
use denote.RawPtr.{Ptr, InBlock, block_ptr, block_of, count_of, at_block}
use denote.Steps.{nothing, peeks, opens, closes}
use denote.Laws.{Is, shows}
use denote.Ref.{mut_vals, mut_Tells}
use denote.Triple.Walked.{Stays, stay_ref, walk_of, Goes-ref}
use Rattle.core.proofs.alloc.Calls.{α, token, Fits}
use mir.Syntax.{ty_int}
use base.Logic.{sep, apply∗}
use borrow.Table.OneValue.{part_out}
use Rattle.core.proofs.alloc.Shapes.{after}
use Rattle.std_alloc.proofs.OfVacant.{Vacant, vacant_val, vacant_typed, Vacant-made}
use Rattle.stabby_count_word.specs.contracts.share.Inner as IN
use Rattle.std_alloc.proofs.RawLayout.{as_raw}
use Rattle.std_alloc.proofs.BoxSteps.Form as box
use Rattle.atomic_table.proofs.Walks.{proved, leaves}
use Rattle.stabby_count_word.specs.Kinds.{Kind, nothing as no_right, block}
use Rattle.stabby_count_word.specs.Rights.{BlockNames, right_to, whole_block}
use Rattle.stabby_count_word.specs.contracts.share.Share as part
use Rattle.stabby_count_word.proofs.Blocks.{heap_at, value_at, inner_ty}
use Rattle.stabby_count_word.proofs.ShareFields.{word, Data, told}
use Rattle.stabby_count_word.specs.contracts.share.Share.take_room.{ended, clauses}
use Rattle.stabby_count_word.specs.contracts.share.Share.take_room.Key.{name as #self}
use Rattle.stabby_count_word.proofs.share.Share.take_room.Statement.{statement}
use Rattle.stabby_count_word.proofs.share.Share.take_room.Code as code

pub take_room_spec : {M : Type 1} → statement M
take_room_spec 𝓤 𝓛 𝓜 𝓡 wired T A X P L LA _ _ g di gp dp dd allocator glued _ =
    let H = 𝓛.H in let 𝓣 = tables 𝓤 H 𝓜 𝓡 𝓡.env in let En = ended T A X P g di gp dp dd in let c = clauses T A X P g di gp dp dd 𝓛 𝓜.mem 𝓡.returns in
    let E : box.Bx = record { row = T; laws = L; al = record { row = A; laws = LA; g = g; d = di; drops = dd } } in let R : RattleType = box.R E in let Z : RattleType = box.P E in let Q : RattleType = param 2 X in let Y : RattleType = param 3 P in let cw : Coded X.Denot = Q.coded in
    let inst = bounded (a_type ∷ a_type ∷ a_type ∷ a_type ∷ []) (T, (A, (X, (P, tt)))) (dcons di (dcons dp (dcons dd dnil))) in let fn = inst_fn inst code.function in let Row : RattleType = part.the_row R Z Q Y g gp in let D : RattleType = Data R Z Q Y g gp in let Inner : RattleType = IN.the_row R Z in let V : RattleType = Vacant E.al Inner in
    let self = plain (λ _. Row) in let hs : Stays En.signature.params En.kept = (stay_ref (0 ∷ []) tt self, tt) in
    proved 𝓛 En hs c 𝓜 𝓡 (Goes-ref 𝓛 5 0 tt self, tt) (#self inst) fn (code.unfolded 𝓤 H 𝓜 𝓡 wired (T, (A, (X, (P, tt)))) di dp dd)
    (λ κs. (mut_vals, tt)) (λ κs. (mut_Tells (named 0) κs.0 Row, tt)) (λ κs qs bounds a gh are.
    let b : ℕ = a.0.ref_ptr.0 in let o : ℕ = a.0.ref_ptr.1 in let κ : Lft = κs.0 in let d : Row.Denot = a.0.now in let p : Ptr = d.ptr in let x : T.Denot = d.value in let others : Fml = fsep (flft κs.1.0 qs.1.0) (fsep (flft κs.1.1.0 qs.1.1.0) (fsep (flft κs.1.1.1.0 qs.1.1.1.0) (fsep (flft κs.1.1.1.1.0 qs.1.1.1.1.0) ftrue))) in
    let ds : BlockNames = d.names in let tk : Z.Denot → Ty → Ptr → Fml = token E.al in let ux : ℕ × (R.Denot × Ptr) = (d.round, (x, p)) in let d' : Row.Denot = record d { kind = no_right } in
    let y : (walk_of 𝓛 En hs c).Ghost = ((κs, qs, bounds, a, (vptr b o ∷ [], tt)), gh) in let Post : Val → SProp 𝓤 = (walk_of 𝓛 En hs c).post y in let pb : ℕ = block_of p in let po : ℕ = count_of p in let q : Ptr = block_ptr pb po in
    qed 𝓛 (((‵ (flft κ qs.0) ⊛ ‵ others) ⊛ ‵ (owns (types_at En.signature.params κs) a y.0.4)) ∷ raw (fact 𝓤 _) ∷ raw (fact 𝓤 _) ∷ raw (fact 𝓤 _) ∷ raw (fact 𝓤 _) ∷ given (d.kind ≡ block) (‵ ftrue) ∷ []) ∵
    keep ! (5 ∷ 0 ∷ []) $ learn ! (λ asked. drop ! $ split ! $ split ! $ move ! (2 ∷ []) $ fsplit ! $ fsplit3 ! $ keep ! (1 ∷ 2 ∷ 4 ∷ 5 ∷ []) $
    enter ! 𝓣.C 𝓣.Λ fn (vptr b o ∷ []) Post $ alloc_all ! (λ l. pass_all ! refl ((tt, tt), tt) $ let Ev = env fn.locals l in
    opens ! tt Row b o (λ vs. move ! (1 ∷ []) $ fsplit ! $ peeks ! D (Is D) (shows 𝓛 D) (p, (tt, tt)) vs (λ so. move ! (1 ∷ []) $ fsplit3 ! $ fpick ! (λ inb. drop ! $
    let ev : vs ≡ word q ∷ [] = told R Z Q Y g gp p vs so ∙ ap (λ (r : Ptr). word r ∷ []) (at_block p inb) in
    rewrite ! 3 (λ (ws : List Val). ‵ (cell_at full_share Row.mir ws b o)) ev refl $ fsplit ! $ rewrite ! 0 (λ (k : Kind). ‵ (right_to Z R ds tk ux k)) asked refl $
    rewrite ! 0 (λ (r : Ptr). ‵ (whole_block Z R ds tk r)) (at_block p inb) refl $ fsplit3 ! $
    -- [the word; the value's room; the allocator and the right to free; the seat; the invariant; the field; the cell; the open borrow; the names]
    move ! (2 ∷ []) $ fpick ! (λ h. fsplit3 ! $ use1 𝓛 (some (λ (hv : Val). ‵ (fat full_share (α E.al) pb (po + heap_at E) hv) ⊛ ‵ (box.handle E h hv))) (part_out 𝓛 Z refl full_share h pb (po + heap_at E)) $ pick ! (λ hv. split ! $
    use1 𝓛 (given (Fits E.al hv) (‵ (fat full_share (α E.al) pb (po + heap_at E) hv))) (𝓛.laws.at_wt full_share (α E.al) pb (po + heap_at E) hv) $ learn ! (λ fa.
    -- [the allocator's cell; the allocator; the right to free; the way back; the word; the value's room; the seat; the invariant; the field; the cell; ..]
    sets ! (of_opd ! (load ! (through ! refl (fld ! refl (stop !))) (look_in ! 9 (sub ! 0 refl (whole !))))) refl (tt, tt) $ first ! $ blocks ! $ sets ! (addr ! (through ! refl (fld ! refl (stop !)))) refl (tt, tt) $
    sets ! (of_opd ! (load ! (through ! refl (stop !)) (look ! 0 refl))) refl fa $ sets ! (of_opd ! (get ! refl)) refl fa $
    sets_last ! (agg ! (and_then ! (get ! refl) (and_then ! (get ! refl) (no_more !)))) refl (vacant_typed E.al Inner hv pb po fa) $
    exec ! 𝓣.C 𝓣.Λ Ev (after 2 fn.body) (at_ret Ev Post) $ sets ! (of_opd ! (get ! refl)) refl (vacant_typed E.al Inner hv pb po fa) $
    use1 𝓛 (‵ (froom (α E.al) pb (po + heap_at E))) (𝓛.laws.at_room (α E.al) pb (po + heap_at E) hv) $ as_raw ! (α E.al) pb (po + heap_at E) $ move ! (4 ∷ 0 ∷ 5 ∷ 3 ∷ []) $
    use1 𝓛 (‵ (froom (ty_int w64) pb (po + 0))) (𝓛.laws.at_room (ty_int w64) pb (po + 0) (vint w64 0)) $ group ! 3 $
    use2 𝓛 (‵ (froom (inner_ty E) pb po)) (apply∗ 𝓤 (sep 𝓤 (H.room (ty_int w64) pb (po + 0)) (sep 𝓤 (H.room (bare (α E.al)) pb (po + heap_at E)) (H.room (bare (box.τ E)) pb (po + value_at E)))) (H.room (inner_ty E) pb po)) $
    move ! (0 ∷ 2 ∷ 1 ∷ []) $ Vacant-made E.al Inner ! h pb po $
    -- [the room; the seat; the invariant; the field; the cell; the open borrow; the names; the tokens]
    nothing ! $ move ! (0 ∷ 2 ∷ []) $ fjoin ! $ move ! (0 ∷ 2 ∷ []) $ fjoin ! $ nothing ! $ fpack ! (InBlock p) (λ _. ftrue) inb $ fjoin ! $
    rewrite ! 3 (λ (ws : List Val). ‵ (cell_at full_share Row.mir ws b o)) (sym ev) refl $ move ! (2 ∷ 0 ∷ []) $ fjoin ! $ move ! (2 ∷ 0 ∷ 3 ∷ 4 ∷ 5 ∷ []) $ closes ! tt Row d' vs b o $
    feq_i ! (List Val) (vptr b o ∷ []) (vptr b o ∷ []) refl $ fjoin3 ! $ nothing ! $ move ! (1 ∷ 0 ∷ []) $ fjoin ! $ move ! (1 ∷ 3 ∷ []) $ join ! $
    let Told : Type 0 = d' ≡ d' in use0 𝓛 (raw (fact 𝓤 Told)) (fact_i 𝓤 Told (emp 𝓤) refl) $
    returns ! (look_at ! 0 refl) $ free_all ! refl $ keep ! (1 ∷ 2 ∷ 3 ∷ 0 ∷ []) $ by ! (leaves 𝓛 En hs c y (vacant_val hv pb po) (record { ptr = q; alloc = h }) (d', tt) (tt, tt)))))))))))
