-- `exchange` is one exchange, after which the share has another right where it found `old`.
use Rattle.std.proofs.Common.{◌≡◌, ◌≢◌, ℕ, ◌+◌, ◌^◌, List, [], ◌∷◌, sym, refl, ap, ◌∙◌, w64}
use lib.Dec.{eqb}
use prog.Atomic.{either}
use mir.Syntax.{Ty, a_type, dcons, dnil, named}
use mir.Val.{Val, vint, vptr}
use mir.MapTy.{inst_fn}
use base.Fraction.{full_share}
use base.Stored.{Coded}
use base.Logic.{SProp, emp, via}
use base.Fml.{Lft, Fml, ftrue, fsep, flft, finv}
use types.Kit.{‵, raw, ◌⊛◌, given, mean, at_ret, ◌$◌, ◌∵◌, !, qed, by, move, keep, drop, learn, split, join, fsplit, fsplit3, fjoin, fjoin3, fpick, fpack, use0, use1, use2, rewrite, feq_i, flt_i}
use types.Run.{stop, hop, fld, addr, of_opd, no_more, and_then, first, blocks, exec, Calls-last, returns, enter}
use types.ByLocal.{alloc_all, pass_all, free_all, look_at, get, through, sets, lands_last, env}
use types.Part.{sub, whole, look_in}
use contract.Running.{tables}
use contract.Monad.{fact, fact_i}
use denote.Exit.{yes}
use denote.Plain.{uint_vals, uint_Tells}
use denote.Builtin.{u64}
use denote.RattleType.{RattleType, owns}
use denote.Signature.{types_at, plain}
use denote.RawPtr.{Ptr, InBlock, block_ptr, block_of, count_of, at_block}
use denote.Steps.{nothing, peeks, opens, closes}
use denote.Laws.{Is, shows}
use denote.Memory.{cell_at}
use denote.Param.{param, bounded}
use denote.Param.Laws.{param_laws}
use denote.Ref.{mut_vals, mut_Tells}
use denote.Triple.Walked.{Stays, stay_ref, stay_dropped, walk_of, Goes-ref, Goes-dropped}
use Rattle.atomic_table.specs.Marked.{Keeps}
use Rattle.atomic_table.proofs.Marking.{moved}
use Rattle.atomic_table.proofs.Walks.{proved, leaves}
use Rattle.atomic_table.proofs.Calls.{fm, found, finds, exchanges}
use Rattle.core.proofs.atomic.Steps.{tail}
use Rattle.stabby_count_word.specs.Changes.{MayChange, kind_before, kind_after}
use Rattle.stabby_count_word.specs.Kinds.{Kind}
use Rattle.stabby_count_word.specs.Rights.{BlockNames, counted, right_to, seat_owns}
use Rattle.stabby_count_word.specs.contracts.share.Share as part
use Rattle.stabby_count_word.proofs.ShareFields.{word, Data, told}
use Rattle.stabby_count_word.proofs.Counting.{after_exchange, exchange_asks}
use Rattle.stabby_count_word.specs.contracts.share.Share.exchange.{ended, clauses}
use Rattle.stabby_count_word.specs.contracts.share.Share.exchange.Key.{name as #self}
use Rattle.stabby_count_word.proofs.share.Share.exchange.Statement.{statement}
use Rattle.stabby_count_word.proofs.share.Share.exchange.Code as code

pub exchange_spec : {M : Type 1} → statement M
exchange_spec 𝓤 𝓛 𝓜 𝓡 wired T A X P Mv L _ _ _ _ g di gp dp dd gm dm _ _ _ _ =
    let H = 𝓛.H in let 𝓣 = tables 𝓤 H 𝓜 𝓡 𝓡.env in let R : RattleType = param 0 T in let Z : RattleType = param 1 A in let Q : RattleType = param 2 X in let Y : RattleType = param 3 P in let LR = param_laws 0 T L in let En = ended T A X P Mv g di gp dp dd gm dm in let c = clauses T A X P Mv g di gp dp dd gm dm 𝓛 𝓜.mem 𝓡.returns in
    let inst = bounded (a_type ∷ a_type ∷ a_type ∷ a_type ∷ a_type ∷ []) (T, (A, (X, (P, (Mv, tt))))) (dcons di (dcons dp (dcons dd (dcons dm dnil)))) in let fn = inst_fn inst code.function in let Row : RattleType = part.the_row R Z Q Y g gp in let D : RattleType = Data R Z Q Y g gp in let cw : Coded X.Denot = Q.coded in
    let self = plain (λ _. Row) in let hs : Stays En.signature.params En.kept = (stay_ref (0 ∷ []) tt self, (stay_dropped (plain (λ _. u64)) yes, (stay_dropped (plain (λ _. u64)) yes, tt))) in
    proved 𝓛 En hs c 𝓜 𝓡 (Goes-ref 𝓛 6 0 tt self, (Goes-dropped 𝓛 6 (plain (λ _. u64)) yes (λ κs x f. refl), (Goes-dropped 𝓛 6 (plain (λ _. u64)) yes (λ κs x f. refl), tt))) (#self inst) fn (code.unfolded 𝓤 H 𝓜 𝓡 wired (T, (A, (X, (P, (Mv, tt))))) di dp dd dm)
    (λ κs. (mut_vals, (uint_vals w64, (uint_vals w64, tt)))) (λ κs. (mut_Tells (named 0) κs.0 Row, (uint_Tells w64, (uint_Tells w64, tt)))) (λ κs qs bounds a gh are.
    let b : ℕ = a.0.ref_ptr.0 in let o : ℕ = a.0.ref_ptr.1 in let κ : Lft = κs.0 in let d : Row.Denot = a.0.now in let p : Ptr = d.ptr in let others : Fml = fsep (flft κs.1.0 qs.1.0) (fsep (flft κs.1.1.0 qs.1.1.0) (fsep (flft κs.1.1.1.0 qs.1.1.1.0) (fsep (flft κs.1.1.1.1.0 qs.1.1.1.1.0) (fsep (flft κs.1.1.1.1.1.0 qs.1.1.1.1.1.0) ftrue)))) in let old : ℕ = a.1.0 in let new : ℕ = a.1.1.0 in
    let ds : BlockNames = d.names in let tk : Z.Denot → Ty → Ptr → Fml = g.dealloc_token in let ux : ℕ × (R.Denot × Ptr) = (d.round, (d.value, p)) in let With : Kind → X.Denot → Row.Denot = λ r w. record d { kind = r; view = w } in let f : ℕ → ℕ = λ n. either (eqb n old) new n in let then = gm.then old new d.view in
    let y : (walk_of 𝓛 En hs c).Ghost = ((κs, qs, bounds, a, (vptr b o ∷ [], (vint w64 old ∷ [], (vint w64 new ∷ [], tt)))), gh) in let Post : Val → SProp 𝓤 = (walk_of 𝓛 En hs c).post y in
    qed 𝓛 (((‵ (flft κ qs.0) ⊛ ‵ others) ⊛ ‵ (owns (types_at En.signature.params κs) a y.0.4)) ∷ raw (fact 𝓤 _) ∷ raw (fact 𝓤 _) ∷ raw (fact 𝓤 _) ∷ raw (fact 𝓤 _) ∷ raw (fact 𝓤 _) ∷ given (MayChange gm.change old new) (‵ ftrue) ∷ given (d.kind ≡ kind_before gm.change) (‵ ftrue) ∷ given (Keeps gp.holds d.id d.view f then) (‵ ftrue) ∷ []) ∵
    keep ! (6 ∷ 7 ∷ 8 ∷ 0 ∷ []) $ learn ! (λ may. drop ! $ learn ! (λ asked. drop ! $ learn ! (λ law. drop ! $ split ! $ split ! $ move ! (2 ∷ []) $ fsplit ! $ fsplit3 ! $ keep ! (1 ∷ 2 ∷ 4 ∷ 5 ∷ []) $
    let I : Fml = counted Z R tk cw.code gp.holds ds p in let out : ℕ → Fml = λ n. fsep (after_exchange 𝓛 Z R tk cw gp.holds ds ux gm.change old n) (moved 𝓛 cw gp.holds ds.views then d.id n) in let pb : ℕ = block_of p in let po : ℕ = count_of p in
    enter ! 𝓣.C 𝓣.Λ fn (vptr b o ∷ vint w64 old ∷ vint w64 new ∷ []) Post $ alloc_all ! (λ l. pass_all ! refl ((tt, tt), ((tt, record { fits = are.1.0.1 }), ((tt, record { fits = are.1.1.0.1 }), tt))) $ let Ev = env fn.locals l in
    opens ! tt Row b o (λ vs. move ! (1 ∷ []) $ fsplit ! $ peeks ! D (Is D) (shows 𝓛 D) (p, (tt, tt)) vs (λ so. move ! (1 ∷ []) $ fsplit3 ! $ fpick ! (λ inb. drop ! $
    -- [the right and the seat; the invariant; the field; the cell; the open borrow; the names]
    let ev : vs ≡ word (block_ptr pb po) ∷ [] = told R Z Q Y g gp p vs so ∙ ap (λ (r : Ptr). word r ∷ []) (at_block p inb) in
    rewrite ! 3 (λ (ws : List Val). ‵ (cell_at full_share Row.mir ws b o)) ev refl $ rewrite ! 0 (λ (k : Kind). ‵ (fsep (right_to Z R ds tk ux k) (seat_owns cw.code ds.views d.id d.view))) asked refl $ move ! (1 ∷ []) $ use1 𝓛 (‵ (finv I) ⊛ ‵ (finv I)) (𝓛.invs.inv_dup I) $ split ! $ move ! (0 ∷ 2 ∷ []) $
    use2 𝓛 (raw (𝓣.C _ (vptr pb (po + 0) ∷ vint w64 old ∷ vint w64 new ∷ []) (λ v. mean 𝓛 (found out v))))
    (via 𝓤 _ (exchange_asks 𝓛 Z R tk cw gp.holds ds ux LR.shr_laws gm.change old new may d.id d.view then law)
    (exchanges 𝓛 𝓜 𝓡 (code.calls-atomic_table::exchange 𝓡.env wired) (block_ptr pb (po + 0)) old new are.1.0.1 are.1.1.0.1 out)) $
    first ! $ blocks ! $ sets ! (addr ! (through ! refl (fld ! refl (hop ! (look_in ! 3 (sub ! 0 refl (whole !))) (fld ! refl (stop !)))))) refl (tt, tt) $
    Calls-last ! (fm 𝓛 𝓜 𝓡) (found out) (and_then ! (get ! refl) (and_then ! (get ! refl) (and_then ! (get ! refl) (no_more !)))) (λ u. finds ! out (λ n fits.
    lands_last ! refl (tt, record { fits = fits }) $ exec ! 𝓣.C 𝓣.Λ Ev (tail fn.body) (at_ret Ev Post) $ sets ! (of_opd ! (get ! refl)) refl (tt, record { fits = fits }) $
    fsplit ! $ fpick ! (λ r. fsplit ! $ fpick ! (λ good. drop ! $ move ! (1 ∷ []) $ fpick ! (λ w. fsplit ! $ fpick ! (λ tells. drop ! $ let d' : Row.Denot = With r w in
    -- [the seat; the right; the invariant; the field; the cell; the open borrow; the names]
    move ! (1 ∷ 0 ∷ []) $ fjoin ! $ move ! (0 ∷ 1 ∷ []) $ fjoin ! $ nothing ! $ fpack ! (InBlock p) (λ _. ftrue) inb $ fjoin ! $
    rewrite ! 2 (λ (ws : List Val). ‵ (cell_at full_share Row.mir ws b o)) (sym ev) refl $ move ! (1 ∷ 0 ∷ []) $ fjoin ! $ move ! (1 ∷ 0 ∷ 2 ∷ 3 ∷ 4 ∷ []) $ closes ! tt Row d' vs b o $
    feq_i ! (List Val) (vptr b o ∷ []) (vptr b o ∷ []) refl $ fjoin3 ! $ nothing ! $ nothing ! $ fjoin ! $ nothing ! $ fjoin ! $ move ! (1 ∷ 0 ∷ []) $ fjoin ! $ move ! (1 ∷ 2 ∷ []) $ join ! $
    flt_i ! n (2 ^ 64) fits $ feq_i ! (List Val) (vint w64 n ∷ []) (vint w64 n ∷ []) refl $ fjoin ! $ let Kinds : Type 0 = (n ≡ old → r ≡ kind_after gm.change) × (n ≢ old → r ≡ kind_before gm.change) in use0 𝓛 (raw (fact 𝓤 Kinds)) (fact_i 𝓤 Kinds (emp 𝓤) good) $ let Told : Type 0 = then n w in use0 𝓛 (raw (fact 𝓤 Told)) (fact_i 𝓤 Told (emp 𝓤) tells) $ join ! $ let Same : Type 0 = d' ≡ d' in use0 𝓛 (raw (fact 𝓤 Same)) (fact_i 𝓤 Same (emp 𝓤) refl) $ join ! $
    returns ! (look_at ! 0 refl) $ free_all ! refl $ keep ! (2 ∷ 3 ∷ 1 ∷ 0 ∷ []) $ by ! (leaves 𝓛 En hs c y (vint w64 n) n (d', (tt, (tt, tt))) (tt, (tt, (tt, tt))))))))))))))))))
