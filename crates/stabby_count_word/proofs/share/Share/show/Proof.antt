-- `get` shows the value for as long as the part is borrowed.
use Rattle.std.proofs.Common.{◌≡◌, ℕ, List, [], ◌∷◌, sym, refl, ap, ◌∙◌}
use mir.Syntax.{a_type, named}
use mir.Val.{Val, vptr}
use mir.MapTy.{inst_fn}
use base.Stored.{Coded}
use base.Logic.{SProp, emp}
use base.Fml.{Lft, Fml, ftrue, fsep, flft, fhide}
use types.Kit.{‵, raw, ◌⊛◌, at_ret, ◌$◌, ◌∵◌, !, qed, by, move, keep, split, join, fsplit, fjoin, use0, use1, rewrite, feq_i}
use types.Run.{stop, fld, hop, addr, of_opd, first, blocks, exec, returns, enter}
use types.ByLocal.{alloc_all, pass_all, free_all, look_at, get, through, sets, sets_last, env}
use types.Part.{sub, whole, look_in}
use contract.Running.{tables}
use contract.Monad.{fact, fact_i}
use denote.Exit.{yes}
use denote.RattleType.{RattleType, owns}
use denote.Signature.{types_at, plain}
use denote.RawPtr.{Ptr, block_ptr, block_of, count_of, at_block}
use denote.Steps.{nothing, peeks, heard, looks, shuts}
use denote.Opens.{unhide, hide}
use denote.Laws.{Is, shows}
use denote.Memory.{cell_at, hidden_shr}
use denote.Param.{param}
use denote.Param.Laws.{param_laws}
use denote.Builtin.{RefOf}
use denote.Ref.{shr_vals, shr_Tells}
use denote.Struct.Lending.{lent_at, lent_out}
use denote.Triple.Walked.{Stays, stay_dropped, walk_of, Goes-dropped}
use Rattle.core.proofs.atomic.Steps.{tail}
use denote.Struct.Tuple.{Tuple}
use Rattle.core.specs.contracts.marker.PhantomData as marker
use mathlib.Core.Logic.{◌⊎◌}
use Rattle.atomic_table.proofs.Walks.{proved, leaves}
use mir.Syntax.{dcons, dnil}
use Rattle.std.proofs.Common.{◌+◌}
use types.Kit.{drop, fpick}
use denote.RawPtr.{◌+ₚ◌}
use denote.Param.{bounded}
use Rattle.std_alloc.specs.Arc.Ownership.{value_offset}
use Rattle.stabby_count_word.specs.Kinds.{one_strong, held}
use Rattle.stabby_count_word.specs.Rights.{share_shares, place}
use Rattle.stabby_count_word.specs.contracts.share.Share as part
use Rattle.stabby_count_word.proofs.ShareFields.{word, Data, told, opened}
use Rattle.stabby_count_word.proofs.ShareSteps.{shows_value}
use Rattle.stabby_count_word.specs.contracts.share.Share.show.{ended, clauses}
use Rattle.stabby_count_word.specs.contracts.share.Share.show.Key.{name as #self}
use Rattle.stabby_count_word.proofs.share.Share.show.Statement.{statement}
use Rattle.stabby_count_word.proofs.share.Share.show.Code as code

pub show_spec : {M : Type 1} → statement M
show_spec 𝓤 𝓛 𝓜 𝓡 wired T A X P L LA _ _ g di gp dp dd allocator glued _ =
    let H = 𝓛.H in let 𝓣 = tables 𝓤 H 𝓜 𝓡 𝓡.env in let R : RattleType = param 0 T in let Z : RattleType = param 1 A in let Q : RattleType = param 2 X in let Y : RattleType = param 3 P in let cw : Coded X.Denot = Q.coded in let En = ended T A X P g di gp dp dd in let inst = bounded (a_type ∷ a_type ∷ a_type ∷ a_type ∷ []) (T, (A, (X, (P, tt)))) (dcons di (dcons dp (dcons dd dnil))) in let fn = inst_fn inst code.function in
    let Row : RattleType = part.the_row R Z Q Y g gp in let D : RattleType = Data R Z Q Y g gp in let c = clauses T A X P g di gp dp dd 𝓛 𝓜.mem 𝓡.returns in let laws = (param_laws 0 T L).shr_laws in
    let self = RefOf (0 ∷ []) tt (plain (λ _. Row)) (λ _. tt) in let hs : Stays En.signature.params En.kept = (stay_dropped self yes, tt) in
    proved 𝓛 En hs c 𝓜 𝓡 (Goes-dropped 𝓛 5 self yes (λ κs x f. refl), tt) (#self inst) fn (code.unfolded 𝓤 H 𝓜 𝓡 wired (T, (A, (X, (P, tt)))) di dp dd)
    (λ κs. (shr_vals, tt)) (λ κs. (shr_Tells (named 0) κs.0 Row, tt)) (λ κs qs bounds a gh are.
    let b : ℕ = a.0.ref_ptr.0 in let o : ℕ = a.0.ref_ptr.1 in let κ : Lft = κs.0 in let d : Row.Denot = a.0.now in let p : Ptr = d.ptr in let x : T.Denot = d.value in let others : Fml = fsep (flft κs.1.0 qs.1.0) (fsep (flft κs.1.1.0 qs.1.1.0) (fsep (flft κs.1.1.1.0 qs.1.1.1.0) (fsep (flft κs.1.1.1.1.0 qs.1.1.1.1.0) ftrue))) in let off : ℕ = value_offset Z R in let ux : ℕ × (R.Denot × Ptr) = (d.round, (x, p)) in
    let y : (walk_of 𝓛 En hs c).Ghost = ((κs, qs, bounds, a, (vptr b o ∷ [], tt)), gh) in let Post : Val → SProp 𝓤 = (walk_of 𝓛 En hs c).post y in let there : Val = vptr (block_of p) (count_of p + off) in
    qed 𝓛 (((‵ (flft κ qs.0) ⊛ ‵ others) ⊛ ‵ (owns (types_at En.signature.params κs) a y.0.4)) ∷ raw (fact 𝓤 _) ∷ raw (fact 𝓤 _) ∷ raw (fact 𝓤 _) ∷ raw (fact 𝓤 _) ∷ raw (fact 𝓤 ((d.kind ≡ one_strong) ⊎ (d.kind ≡ held))) ∷ []) ∵
    keep ! (5 ∷ 0 ∷ []) $ heard ! ((d.kind ≡ one_strong) ⊎ (d.kind ≡ held)) (λ asked. split ! $ split ! $ move ! (2 ∷ []) $ fsplit ! $ fsplit ! $ keep ! (1 ∷ 3 ∷ 4 ∷ []) $
    enter ! 𝓣.C 𝓣.Λ fn (vptr b o ∷ []) Post $ alloc_all ! (λ l. pass_all ! refl ((tt, tt), tt) $ let Ev = env fn.locals l in
    use1 𝓛 (‵ (hidden_shr D κ (p, (tt, tt)) b o) ⊛ ‵ (fhide (share_shares Z R ux d.kind κ))) (lent_out 𝓛 (part.struct R Z Q Y g gp) (part.the_codes T.Denot A.Denot X.Denot P.Denot R.coded Z.coded Q.coded Y.coded (marker.the_row (Tuple (Q ∷ Y ∷ []))).coded) (part.the_heap R Z Q Y g gp) (part.the_lent R Z Q Y g gp) κ d b o) $
    split ! $ move ! (1 ∷ []) $ unhide ! $ fsplit ! $ fpick ! (λ inb. drop ! $ use1 𝓛 (‵ (lent_at R (place Z R p) x κ)) (shows_value Z R laws ux 𝓛 g.dealloc_token cw.code gp.holds d.names d.kind κ asked) $
    rewrite ! 0 (λ (r : Ptr). ‵ (lent_at R (r +ₚ off) x κ)) (at_block p inb) refl $ fsplit ! $ drop ! $ hide ! $ move ! (1 ∷ 2 ∷ []) $
    looks ! tt D (opened R Z Q Y g gp 𝓛) (p, (tt, tt)) b o (λ q vs. move ! (1 ∷ []) $ peeks ! D (Is D) (shows 𝓛 D) (p, (tt, tt)) vs (λ so.
    let ev : vs ≡ word (block_ptr (block_of p) (count_of p)) ∷ [] = told R Z Q Y g gp p vs so ∙ ap (λ (r : Ptr). word r ∷ []) (at_block p inb) in
    rewrite ! 1 (λ (ws : List Val). ‵ (cell_at q D.mir ws b o)) ev refl $ first ! $ blocks ! $
    sets_last ! (addr ! (through ! refl (fld ! refl (hop ! (look_in ! 1 (sub ! 0 refl (whole !))) (fld ! refl (stop !)))))) refl (tt, tt) $ exec ! 𝓣.C 𝓣.Λ Ev (tail fn.body) (at_ret Ev Post) $ sets ! (of_opd ! (get ! refl)) refl (tt, tt) $
    rewrite ! 1 (λ (ws : List Val). ‵ (cell_at q D.mir ws b o)) (sym ev) refl $ move ! (1 ∷ 0 ∷ 2 ∷ []) $ shuts ! tt D q (p, (tt, tt)) vs b o $ move ! (0 ∷ 3 ∷ []) $ join ! $
    move ! (2 ∷ []) $ feq_i ! (List Val) (there ∷ []) (there ∷ []) refl $ fjoin ! $ use0 𝓛 (raw (fact 𝓤 (x ≡ x))) (fact_i 𝓤 (x ≡ x) (emp 𝓤) refl) $ nothing ! $ nothing ! $ fjoin ! $
    returns ! (look_at ! 0 refl) $ free_all ! refl $ keep ! (3 ∷ 0 ∷ 2 ∷ 1 ∷ []) $ by ! (leaves 𝓛 En hs c y there (record { ref_ptr = (block_of p, count_of p + off); now = x }) (tt, tt) (tt, tt))))))))
