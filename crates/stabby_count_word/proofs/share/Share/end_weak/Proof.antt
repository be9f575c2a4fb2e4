-- `end_weak` counts one unit of the low half less, and the right is the block where it was the last.
use Rattle.std.proofs.Common.{◌≡◌, ◌≢◌, ℕ, ◌+◌, ◌^◌, List, [], ◌∷◌, sym, refl, ap, ◌∙◌, lit<, w64}
use mathlib.Core.Logic.{◌⊎◌}
use mir.Syntax.{Ty, a_type, dcons, dnil, named}
use mir.Val.{Val, vint, vptr}
use mir.MapTy.{inst_fn}
use base.Fraction.{full_share}
use base.Stored.{Coded}
use base.Logic.{SProp, emp, via}
use base.Fml.{Lft, Fml, ftrue, fsep, flft, finv}
use types.Kit.{‵, raw, ◌⊛◌, given, mean, at_ret, ◌$◌, ◌∵◌, !, qed, by, move, keep, drop, learn, split, join, fsplit, fsplit3, fjoin, fjoin3, fpick, fpack, use0, use1, use2, rewrite, feq_i, flt_i}
use types.Run.{stop, hop, fld, addr, lit, of_opd, no_more, and_then, first, blocks, exec, Calls-last, returns, enter}
use types.ByLocal.{alloc_all, pass_all, free_all, look_at, get, through, sets, lands_last, env}
use types.Part.{agg, sub, whole, look_in}
use contract.Running.{tables}
use contract.Monad.{fact, fact_i}
use denote.RattleType.{RattleType, owns}
use denote.Signature.{types_at, plain}
use denote.RawPtr.{Ptr, InBlock, block_ptr, block_of, count_of, at_block}
use denote.Steps.{nothing, peeks, opens, closes}
use denote.Laws.{Is, shows}
use denote.Memory.{cell_at}
use denote.Param.{param, bounded}
use denote.Param.Laws.{param_laws}
use denote.Ref.{mut_vals, mut_Tells}
use denote.Triple.Walked.{Stays, stay_ref, walk_of, Goes-ref}
use Rattle.atomic_table.specs.Marked.{Keeps}
use Rattle.atomic_table.proofs.Marking.{moved}
use Rattle.atomic_table.proofs.Walks.{proved, leaves}
use Rattle.atomic_table.proofs.Calls.{fm, found, finds, subs, seq_cst}
use Rattle.core.proofs.atomic.Steps.{tail}
use Rattle.stabby_count_word.specs.Kinds.{Kind, nothing as no_right, emptied, block, one_weak}
use Rattle.stabby_count_word.specs.Rights.{BlockNames, counted}
use Rattle.stabby_count_word.specs.Steps.{less_by}
use Rattle.stabby_count_word.specs.contracts.share.Share as part
use Rattle.stabby_count_word.proofs.ShareFields.{word, Data, told}
use Rattle.stabby_count_word.proofs.Counting.{Has, ended as block_ended, unit_asks}
use Rattle.stabby_count_word.specs.contracts.share.Share.end_weak.{ended, clauses}
use Rattle.stabby_count_word.specs.contracts.share.Share.end_weak.Key.{name as #self}
use Rattle.stabby_count_word.proofs.share.Share.end_weak.Statement.{statement}
use Rattle.stabby_count_word.proofs.share.Share.end_weak.Code as code

pub end_weak_spec : {M : Type 1} → statement M
end_weak_spec 𝓤 𝓛 𝓜 𝓡 wired T A X P Mv L _ _ _ _ g di gp dp dd gm dm _ _ _ _ =
    let H = 𝓛.H in let 𝓣 = tables 𝓤 H 𝓜 𝓡 𝓡.env in let R : RattleType = param 0 T in let Z : RattleType = param 1 A in let Q : RattleType = param 2 X in let Y : RattleType = param 3 P in let LR = param_laws 0 T L in let En = ended T A X P Mv g di gp dp dd gm dm in let c = clauses T A X P Mv g di gp dp dd gm dm 𝓛 𝓜.mem 𝓡.returns in
    let inst = bounded (a_type ∷ a_type ∷ a_type ∷ a_type ∷ a_type ∷ []) (T, (A, (X, (P, (Mv, tt))))) (dcons di (dcons dp (dcons dd (dcons dm dnil)))) in let fn = inst_fn inst code.function in let Row : RattleType = part.the_row R Z Q Y g gp in let D : RattleType = Data R Z Q Y g gp in let cw : Coded X.Denot = Q.coded in
    let self = plain (λ _. Row) in let hs : Stays En.signature.params En.kept = (stay_ref (0 ∷ []) tt self, tt) in
    proved 𝓛 En hs c 𝓜 𝓡 (Goes-ref 𝓛 6 0 tt self, tt) (#self inst) fn (code.unfolded 𝓤 H 𝓜 𝓡 wired (T, (A, (X, (P, (Mv, tt))))) di dp dd dm)
    (λ κs. (mut_vals, tt)) (λ κs. (mut_Tells (named 0) κs.0 Row, tt)) (λ κs qs bounds a gh are.
    let b : ℕ = a.0.ref_ptr.0 in let o : ℕ = a.0.ref_ptr.1 in let κ : Lft = κs.0 in let d : Row.Denot = a.0.now in let p : Ptr = d.ptr in let others : Fml = fsep (flft κs.1.0 qs.1.0) (fsep (flft κs.1.1.0 qs.1.1.0) (fsep (flft κs.1.1.1.0 qs.1.1.1.0) (fsep (flft κs.1.1.1.1.0 qs.1.1.1.1.0) (fsep (flft κs.1.1.1.1.1.0 qs.1.1.1.1.1.0) ftrue)))) in
    let ds : BlockNames = d.names in let tk : Z.Denot → Ty → Ptr → Fml = g.dealloc_token in let ux : ℕ × (R.Denot × Ptr) = (d.round, (d.value, p)) in let With : Kind → X.Denot → Row.Denot = λ r w. record d { kind = r; view = w } in let f : ℕ → ℕ = less_by 1 in let then = gm.then 0 0 d.view in
    let y : (walk_of 𝓛 En hs c).Ghost = ((κs, qs, bounds, a, (vptr b o ∷ [], tt)), gh) in let Post : Val → SProp 𝓤 = (walk_of 𝓛 En hs c).post y in
    qed 𝓛 (((‵ (flft κ qs.0) ⊛ ‵ others) ⊛ ‵ (owns (types_at En.signature.params κs) a y.0.4)) ∷ raw (fact 𝓤 _) ∷ raw (fact 𝓤 _) ∷ raw (fact 𝓤 _) ∷ raw (fact 𝓤 _) ∷ raw (fact 𝓤 _) ∷ given ((d.kind ≡ one_weak) ⊎ (d.kind ≡ emptied)) (‵ ftrue) ∷ given (Keeps gp.holds d.id d.view f then) (‵ ftrue) ∷ []) ∵
    keep ! (6 ∷ 7 ∷ 0 ∷ []) $ learn ! (λ asked. drop ! $ learn ! (λ law. drop ! $ split ! $ split ! $ move ! (2 ∷ []) $ fsplit ! $ fsplit3 ! $ keep ! (1 ∷ 2 ∷ 4 ∷ 5 ∷ []) $
    let I : Fml = counted Z R tk cw.code gp.holds ds p in let out : ℕ → Fml = λ n. fsep (Has 𝓛 Z R tk cw gp.holds ds ux (block_ended 𝓛 Z R tk cw gp.holds ds ux n)) (moved 𝓛 cw gp.holds ds.views then d.id n) in let pb : ℕ = block_of p in let po : ℕ = count_of p in
    enter ! 𝓣.C 𝓣.Λ fn (vptr b o ∷ []) Post $ alloc_all ! (λ l. pass_all ! refl ((tt, tt), tt) $ let Ev = env fn.locals l in
    opens ! tt Row b o (λ vs. move ! (1 ∷ []) $ fsplit ! $ peeks ! D (Is D) (shows 𝓛 D) (p, (tt, tt)) vs (λ so. move ! (1 ∷ []) $ fsplit3 ! $ fpick ! (λ inb. drop ! $
    -- [the right and the seat; the invariant; the field; the cell; the open borrow; the names]
    let ev : vs ≡ word (block_ptr pb po) ∷ [] = told R Z Q Y g gp p vs so ∙ ap (λ (r : Ptr). word r ∷ []) (at_block p inb) in
    rewrite ! 3 (λ (ws : List Val). ‵ (cell_at full_share Row.mir ws b o)) ev refl $ move ! (1 ∷ []) $ use1 𝓛 (‵ (finv I) ⊛ ‵ (finv I)) (𝓛.invs.inv_dup I) $ split ! $ move ! (0 ∷ 2 ∷ []) $
    use2 𝓛 (raw (𝓣.C _ (vptr pb (po + 0) ∷ vint w64 1 ∷ seq_cst ∷ []) (λ v. mean 𝓛 (found out v))))
    (via 𝓤 _ (unit_asks 𝓛 Z R tk cw gp.holds ds ux d.kind asked d.id d.view then law)
    (subs 𝓛 𝓜 𝓡 (code.calls-core::raw_atomic::fetch_sub 𝓡.env wired) (block_ptr pb (po + 0)) 1 (lit< tt) out)) $
    first ! $ blocks ! $ sets ! (addr ! (through ! refl (fld ! refl (hop ! (look_in ! 3 (sub ! 0 refl (whole !))) (fld ! refl (stop !)))))) refl (tt, tt) $
    sets ! (agg ! (and_then ! (lit ! tt) (no_more !))) refl (tt, (record { fits = lit< tt }, tt)) $ Calls-last ! (fm 𝓛 𝓜 𝓡) (found out) (and_then ! (get ! refl) (and_then ! (lit ! tt) (and_then ! (get ! refl) (no_more !)))) (λ u. finds ! out (λ n fits.
    lands_last ! refl (tt, record { fits = fits }) $ exec ! 𝓣.C 𝓣.Λ Ev (tail fn.body) (at_ret Ev Post) $ sets ! (of_opd ! (get ! refl)) refl (tt, record { fits = fits }) $
    fsplit ! $ fpick ! (λ r. fsplit ! $ fpick ! (λ good. drop ! $ move ! (1 ∷ []) $ fpick ! (λ w. fsplit ! $ fpick ! (λ tells. drop ! $ let d' : Row.Denot = With r w in
    -- [the seat; the right; the invariant; the field; the cell; the open borrow; the names]
    move ! (1 ∷ 0 ∷ []) $ fjoin ! $ move ! (0 ∷ 1 ∷ []) $ fjoin ! $ nothing ! $ fpack ! (InBlock p) (λ _. ftrue) inb $ fjoin ! $
    rewrite ! 2 (λ (ws : List Val). ‵ (cell_at full_share Row.mir ws b o)) (sym ev) refl $ move ! (1 ∷ 0 ∷ []) $ fjoin ! $ move ! (1 ∷ 0 ∷ 2 ∷ 3 ∷ 4 ∷ []) $ closes ! tt Row d' vs b o $
    feq_i ! (List Val) (vptr b o ∷ []) (vptr b o ∷ []) refl $ fjoin3 ! $ nothing ! $ move ! (1 ∷ 0 ∷ []) $ fjoin ! $ move ! (1 ∷ 2 ∷ []) $ join ! $
    flt_i ! n (2 ^ 64) fits $ feq_i ! (List Val) (vint w64 n ∷ []) (vint w64 n ∷ []) refl $ fjoin ! $ let Kinds : Type 0 = (n ≡ 1 → r ≡ block) × (n ≢ 1 → r ≡ no_right) in use0 𝓛 (raw (fact 𝓤 Kinds)) (fact_i 𝓤 Kinds (emp 𝓤) good) $ let Told : Type 0 = then n w in use0 𝓛 (raw (fact 𝓤 Told)) (fact_i 𝓤 Told (emp 𝓤) tells) $ join ! $ let Same : Type 0 = d' ≡ d' in use0 𝓛 (raw (fact 𝓤 Same)) (fact_i 𝓤 Same (emp 𝓤) refl) $ join ! $
    returns ! (look_at ! 0 refl) $ free_all ! refl $ keep ! (2 ∷ 3 ∷ 1 ∷ 0 ∷ []) $ by ! (leaves 𝓛 En hs c y (vint w64 n) n (d', tt) (tt, tt)))))))))))))))
