-- `split` is a load at which the view and the right are cut in two.
use Rattle.std.proofs.Common.{◌≡◌, ℕ, ◌+◌, List, [], ◌∷◌, sym, refl, ap, ◌∙◌, lit<}
use mathlib.Core.Logic.{◌⊎◌}
use mir.Syntax.{Ty, a_type, dcons, dnil, named}
use mir.Val.{Val, vptr}
use mir.MapTy.{inst_fn}
use base.Fraction.{full_share}
use base.Stored.{Coded}
use base.Logic.{SProp, emp, via}
use base.Fml.{Lft, Fml, ftrue, fex, fsep, flft, finv}
use types.Kit.{‵, raw, ◌⊛◌, given, mean, at_ret, ◌$◌, ◌∵◌, !, qed, by, move, keep, drop, learn, split, join, fsplit, fsplit3, fjoin, fjoin3, fpick, fpack, use0, use1, use2, rewrite, feq_i}
use types.Run.{stop, hop, fld, addr, lit, of_opd, no_more, and_then, first, blocks, exec, Calls-last, returns, enter}
use types.ByLocal.{alloc_all, pass_all, free_all, look_at, get, through, sets, lands_last, env}
use types.Part.{agg, sub, whole, look_in}
use contract.Running.{tables}
use contract.Monad.{fact, fact_i}
use denote.RattleType.{RattleType, owns}
use denote.Signature.{types_at, plain}
use denote.RawPtr.{Ptr, InBlock, block_ptr, block_of, count_of, at_block}
use denote.Steps.{nothing, peeks, opens, closes}
use denote.Laws.{Is, shows}
use denote.Memory.{cell_at}
use denote.Param.{param, bounded}
use denote.Param.Laws.{param_laws}
use denote.Ref.{mut_vals, mut_Tells}
use denote.Triple.Walked.{Stays, stay_ref, walk_of, Goes-ref}
use Rattle.atomic_table.proofs.Walks.{proved, leaves}
use Rattle.atomic_table.proofs.Calls.{fm, found, finds, loads, seq_cst}
use Rattle.core.proofs.atomic.Steps.{tail}
use Rattle.stabby_count_word.specs.Kinds.{Kind, one_strong, one_weak}
use Rattle.stabby_count_word.specs.Rights.{BlockNames, counted, right_to}
use Rattle.stabby_count_word.specs.contracts.share.Share as part
use Rattle.stabby_count_word.proofs.ShareFields.{word, Data, told}
use types.Run.{load}
use Rattle.stabby_count_word.specs.Kinds.{two_strong, strong_and_weak, two_weak}
use Rattle.stabby_count_word.specs.Rights.{Cuts, share_owns}
use Rattle.stabby_count_word.proofs.ShareFields.{made}
use Rattle.stabby_count_word.proofs.ShareSteps.{near, far, cleaves}
use Rattle.stabby_count_word.proofs.Counting.{two_seats, split_asks}
use Rattle.stabby_count_word.specs.contracts.share.Share.split.{ended, clauses}
use Rattle.stabby_count_word.specs.contracts.share.Share.split.Key.{name as #self}
use Rattle.stabby_count_word.proofs.share.Share.split.Statement.{statement}
use Rattle.stabby_count_word.proofs.share.Share.split.Code as code

pub split_spec : {M : Type 1} → statement M
split_spec 𝓤 𝓛 𝓜 𝓡 wired T A X P Mv L _ _ _ _ g di gp dp dd gm dm _ _ _ _ =
    let H = 𝓛.H in let 𝓣 = tables 𝓤 H 𝓜 𝓡 𝓡.env in let R : RattleType = param 0 T in let Z : RattleType = param 1 A in let Q : RattleType = param 2 X in let Y : RattleType = param 3 P in let LR = param_laws 0 T L in let En = ended T A X P Mv g di gp dp dd gm dm in let c = clauses T A X P Mv g di gp dp dd gm dm 𝓛 𝓜.mem 𝓡.returns in
    let inst = bounded (a_type ∷ a_type ∷ a_type ∷ a_type ∷ a_type ∷ []) (T, (A, (X, (P, (Mv, tt))))) (dcons di (dcons dp (dcons dd (dcons dm dnil)))) in let fn = inst_fn inst code.function in let Row : RattleType = part.the_row R Z Q Y g gp in let D : RattleType = Data R Z Q Y g gp in let cw : Coded X.Denot = Q.coded in
    let self = plain (λ _. Row) in let hs : Stays En.signature.params En.kept = (stay_ref (0 ∷ []) tt self, tt) in
    proved 𝓛 En hs c 𝓜 𝓡 (Goes-ref 𝓛 6 0 tt self, tt) (#self inst) fn (code.unfolded 𝓤 H 𝓜 𝓡 wired (T, (A, (X, (P, (Mv, tt))))) di dp dd dm)
    (λ κs. (mut_vals, tt)) (λ κs. (mut_Tells (named 0) κs.0 Row, tt)) (λ κs qs bounds a gh are.
    let b : ℕ = a.0.ref_ptr.0 in let o : ℕ = a.0.ref_ptr.1 in let κ : Lft = κs.0 in let d : Row.Denot = a.0.now in let p : Ptr = d.ptr in let others : Fml = fsep (flft κs.1.0 qs.1.0) (fsep (flft κs.1.1.0 qs.1.1.0) (fsep (flft κs.1.1.1.0 qs.1.1.1.0) (fsep (flft κs.1.1.1.1.0 qs.1.1.1.1.0) (fsep (flft κs.1.1.1.1.1.0 qs.1.1.1.1.1.0) ftrue)))) in
    let ds : BlockNames = d.names in let tk : Z.Denot → Ty → Ptr → Fml = g.dealloc_token in let x : T.Denot = d.value in let ux : ℕ × (R.Denot × Ptr) = (d.round, (x, p)) in let f : ℕ → ℕ = λ n. n in let pb : ℕ = block_of p in let po : ℕ = count_of p in let I : Fml = counted Z R tk cw.code gp.holds ds p in
    let y : (walk_of 𝓛 En hs c).Ghost = ((κs, qs, bounds, a, (vptr b o ∷ [], tt)), gh) in let Post : Val → SProp 𝓤 = (walk_of 𝓛 En hs c).post y in
    let k : Kind = d.kind in let lv : X.Denot = gm.left d.view in let rv : X.Denot = gm.right d.view in let out : ℕ → Fml = λ n. fsep (right_to Z R ds tk ux k) (fex ℕ (two_seats 𝓛 Z R tk cw gp.holds ds ux d.id lv rv)) in
    let Two : Type 0 = (k ≡ two_strong) ⊎ ((k ≡ strong_and_weak) ⊎ (k ≡ two_weak)) in
    qed 𝓛 (((‵ (flft κ qs.0) ⊛ ‵ others) ⊛ ‵ (owns (types_at En.signature.params κs) a y.0.4)) ∷ raw (fact 𝓤 _) ∷ raw (fact 𝓤 _) ∷ raw (fact 𝓤 _) ∷ raw (fact 𝓤 _) ∷ raw (fact 𝓤 _) ∷ given Two (‵ ftrue) ∷ given (Cuts gp.holds d.id d.view lv rv) (‵ ftrue) ∷ []) ∵
    keep ! (6 ∷ 7 ∷ 0 ∷ []) $ learn ! (λ asked. drop ! $ learn ! (λ law. drop ! $ split ! $ split ! $ move ! (2 ∷ []) $ fsplit ! $ fsplit3 ! $ keep ! (1 ∷ 2 ∷ 4 ∷ 5 ∷ []) $
    enter ! 𝓣.C 𝓣.Λ fn (vptr b o ∷ []) Post $ alloc_all ! (λ l. pass_all ! refl ((tt, tt), tt) $ let Ev = env fn.locals l in
    opens ! tt Row b o (λ vs. move ! (1 ∷ []) $ fsplit ! $ peeks ! D (Is D) (shows 𝓛 D) (p, (tt, tt)) vs (λ so. move ! (1 ∷ []) $ fsplit3 ! $ fpick ! (λ inb. drop ! $
    -- [the right and the seat; the invariant; the field; the cell; the open borrow; the names]
    let ev : vs ≡ word (block_ptr pb po) ∷ [] = told R Z Q Y g gp p vs so ∙ ap (λ (r : Ptr). word r ∷ []) (at_block p inb) in
    rewrite ! 3 (λ (ws : List Val). ‵ (cell_at full_share Row.mir ws b o)) ev refl $
    move ! (1 ∷ []) $ use1 𝓛 (‵ (finv I) ⊛ ‵ (finv I)) (𝓛.invs.inv_dup I) $ split ! $ move ! (0 ∷ 2 ∷ []) $
    use2 𝓛 (raw (𝓣.C _ (vptr pb (po + 0) ∷ seq_cst ∷ []) (λ v. mean 𝓛 (found out v))))
    (via 𝓤 _ (split_asks 𝓛 Z R tk cw gp.holds ds ux d.id d.view lv rv law k asked)
    (loads 𝓛 𝓜 𝓡 (code.calls-core::raw_atomic::load 𝓡.env wired) (block_ptr pb (po + 0)) out)) $
    first ! $ blocks ! $ sets ! (addr ! (through ! refl (fld ! refl (hop ! (look_in ! 3 (sub ! 0 refl (whole !))) (fld ! refl (stop !)))))) refl (tt, tt) $
    sets ! (agg ! (and_then ! (lit ! tt) (no_more !))) refl (tt, (record { fits = lit< tt }, tt)) $ Calls-last ! (fm 𝓛 𝓜 𝓡) (found out) (and_then ! (get ! refl) (and_then ! (get ! refl) (no_more !))) (λ u. finds ! out (λ n fits.
    lands_last ! refl (tt, record { fits = fits }) $ exec ! 𝓣.C 𝓣.Λ Ev (tail fn.body) (at_ret Ev Post) $
    fsplit ! $ move ! (1 ∷ []) $ fpick ! (λ j. fsplit ! $ move ! (2 ∷ []) $ use1 𝓛 (‵ (right_to Z R ds tk ux (near k)) ⊛ ‵ (right_to Z R ds tk ux (far k))) (cleaves Z R LR.shr_laws ux 𝓛 tk cw.code gp.holds ds k) $ split ! $
    -- [what stays; what goes; its seat; the new seat; the invariant; the field; the cell; the open borrow; the names]
    move ! (0 ∷ 2 ∷ []) $ fjoin ! $ move ! (1 ∷ 2 ∷ []) $ fjoin ! $ move ! (2 ∷ []) $ use1 𝓛 (‵ (finv I) ⊛ ‵ (finv I)) (𝓛.invs.inv_dup I) $ split ! $
    let d' : Row.Denot = record d { kind = near k; view = lv } in let new : Row.Denot = record d { kind = far k; id = j; view = rv } in
    move ! (2 ∷ 0 ∷ []) $ fjoin ! $ nothing ! $ fpack ! (InBlock p) (λ _. ftrue) inb $ fjoin ! $ move ! (2 ∷ 1 ∷ []) $ fjoin ! $ nothing ! $ fpack ! (InBlock p) (λ _. ftrue) inb $ fjoin ! $
    -- [the share; the new share; the field; the cell; the open borrow; the names]
    sets ! (of_opd ! (load ! (through ! refl (fld ! refl (stop !))) (look_in ! 3 (sub ! 0 refl (whole !))))) refl (tt, tt) $ sets ! (agg ! (no_more !)) refl (tt, tt) $ sets ! (agg ! (and_then ! (get ! refl) (and_then ! (get ! refl) (no_more !)))) refl (tt, (tt, (tt, tt))) $
    rewrite ! 3 (λ (ws : List Val). ‵ (cell_at full_share Row.mir ws b o)) (sym ev) refl $ move ! (2 ∷ 0 ∷ []) $ fjoin ! $ move ! (2 ∷ 0 ∷ 3 ∷ 4 ∷ 5 ∷ []) $ closes ! tt Row d' vs b o $
    feq_i ! (List Val) (vptr b o ∷ []) (vptr b o ∷ []) refl $ fjoin3 ! $ nothing ! $ move ! (1 ∷ 0 ∷ []) $ fjoin ! $ move ! (1 ∷ 3 ∷ []) $ join ! $
    let q : Ptr = block_ptr pb po in rewrite ! 2 (λ (r : Ptr). ‵ (share_owns Z R tk cw.code gp.holds ds (d.round, (x, r)) (far k) j rv)) (at_block p inb) refl $ move ! (2 ∷ []) $ use0 𝓛 (‵ (D.own_val (q, (tt, tt)) (word q ∷ []))) (made R Z Q Y g gp 𝓛 q) $ fjoin ! $
    let Told : Kind → Kind → Kind → Type 0 = λ r i j. k ≡ r → (near k ≡ i) × (far k ≡ j) in let tells : (r : Kind) → Told r (near r) (far r) = λ r e. (ap near e, ap far e) in
    use0 𝓛 (raw (fact 𝓤 (Told two_weak one_weak one_weak))) (fact_i 𝓤 (Told two_weak one_weak one_weak) (emp 𝓤) (tells two_weak)) $ use0 𝓛 (raw (fact 𝓤 (Told strong_and_weak one_strong one_weak))) (fact_i 𝓤 (Told strong_and_weak one_strong one_weak) (emp 𝓤) (tells strong_and_weak)) $ join ! $
    use0 𝓛 (raw (fact 𝓤 (Told two_strong one_strong one_strong))) (fact_i 𝓤 (Told two_strong one_strong one_strong) (emp 𝓤) (tells two_strong)) $ join ! $
    let Views : Type 0 = (lv ≡ lv) × (rv ≡ rv) in use0 𝓛 (raw (fact 𝓤 Views)) (fact_i 𝓤 Views (emp 𝓤) (refl, refl)) $ join ! $ let Same : Type 0 = (ds ≡ ds) × (x ≡ x) × (ds ≡ ds) × (x ≡ x) in use0 𝓛 (raw (fact 𝓤 Same)) (fact_i 𝓤 Same (emp 𝓤) (refl, refl, refl, refl)) $ join ! $
    returns ! (look_at ! 0 refl) $ free_all ! refl $ keep ! (2 ∷ 3 ∷ 1 ∷ 0 ∷ []) $ by ! (leaves 𝓛 En hs c y (word q) (record new { ptr = q }) (d', tt) (tt, tt))))))))))))
