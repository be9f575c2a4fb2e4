-- `as_slice_mut` reads the word on a loan of the handle. Where that one then may lend its list, it hands the items on.
use Rattle.std.proofs.Common.{false, sym, length, lit<, ap, ◌∙◌, ◌≡◌, ℕ, Bool, true, List, [], ◌∷◌, refl, MutBor}
use Rattle.atomic_table.proofs.Walks.{proved, leaves}
use mir.Syntax.{a_type, dnil, named}
use mir.Val.{Val, vcons, vnil}
use mathlib.Core.Option.{some as some', none}
use mir.MapTy.{inst_fn}
use base.Logic.{SProp, emp, id⊢}
use base.Share
use base.Fml.{Lft, Share, Fml, fdead, fres, ftrue, flft}
use contract.BorrowLft.{◌⊑◌, meet_⊑_right}
use contract.Monad.{fact, fact_i}
use contract.Running.{tables}
use denote.Array.{Array}
use denote.Builtin.{bool}
use denote.Exit.{no}
use denote.Param.{param, bounded}
use contract.Lifetimes.{Lfts}
use denote.Laws.{Is, shows}
use denote.RattleType.{RattleType}
use denote.Ref.{MutRef, mut_vals, mut_Tells}
use denote.Follow.{follows, follows_so}
use denote.Slice.{MutSlice, slice_val}
use denote.Signature.{plain, mut_ref_to}
use denote.Steps.{nothing, heard, only, peeks}
use denote.Triple.Call.{calls_at}
use denote.Triple.Clauses.{Lasts, lasts}
use denote.Triple.Spec.{triple_of}
use denote.Triple.Table.{framed}
use denote.Triple.Walked.{Stays, stay_dropped, walk_of, Goes-spent_ref}
use borrow.Within.Token.{Rest, within_token, within_end}
use denote.Lend.{lends_again, comes_back, LentAgain}
use types.Match.{live}
use types.Kit.{by, ‵, raw, ◌⊛◌, some, later, at_ret, ◌$◌, ◌∵◌, !, qed, move, keep, drop, split, join, fsplit, fsplit3, fjoin, feq_l, rewrite, pick, await, use0, use1, use2, use3}
use types.Part.{agg}
use types.Run.{enter, of_opd, addr, lit, stop, no_more, and_then, first, exec, branches, returns}
use types.ByLocal.{alloc_all, pass_all, free_all, look_at, get, through, sets, lands_as, sets_last, env}
use types.Tokens.{lft_new}
use Rattle.std.specs.Prelude.{IsTrue}
use Rattle.core.proofs.alloc.Shapes.{after}
use Rattle.std_alloc.proofs.RcSteps.{Some-of, none_of}
use Rattle.std.specs.contracts.option.Option as Opt
use Rattle.std.specs.Prelude.{Some, None}
use Rattle.stabby_vec.specs.Sequence.{Sequence}
use Rattle.stabby_count.proofs.SliceLoans.{lends_items, keeps_items}
use Rattle.stabby_count.proofs.Lenders.{is_true, is_false, lends_such, lends_none}
use Rattle.stabby_count_word.specs.Kinds.{held}
use Rattle.stabby_count.specs.Records.{ReadsAlone}
use Rattle.stabby_count.specs.SliceLoans.{with_slice_items}
use Rattle.stabby_count.specs.SharedSlices.{slice_value, slice_items, slice_block, slice_record, IsSoleSlice, IsLentSlice}
use Rattle.stabby_count.specs.contracts.slice.ArcSlice as handle
use Rattle.stabby_count.specs.contracts.slice.ArcSlice.as_slice_mut as f
use Rattle.stabby_count.specs.contracts.slice.ArcSlice.seize as g
use Rattle.stabby_count.specs.contracts.slice.ArcSlice.own_items as h
use Rattle.stabby_count.proofs.slice.ArcSlice.seize.Met.{met as seize_met}
use Rattle.stabby_count.proofs.slice.ArcSlice.own_items.Met.{met as items_met}
use Rattle.stabby_count.proofs.slice.ArcSlice.as_slice_mut.Statement.{statement}
use Rattle.stabby_count.proofs.slice.ArcSlice.as_slice_mut.Code as code

pub as_slice_mut_spec : {M : Type 1} → statement M
as_slice_mut_spec 𝓤 𝓛 𝓜 𝓡 wired T L =
    let E = f.ended T in let c = f.clauses T 𝓛 𝓜.mem 𝓡.returns in let 𝓣 = tables 𝓤 𝓛.H 𝓜 𝓡 𝓡.env in
    let S : RattleType = param 0 T in let S' : Lfts 2 → RattleType = λ κs. MutSlice (named 0) κs.0 S in let R : RattleType = handle.the_row S in
    let inst = bounded (a_type ∷ []) (T, tt) dnil in let fn = inst_fn inst code.function in
    let stayed : Stays E.signature.params E.kept = (stay_dropped (mut_ref_to (0 ∷ []) tt (plain (λ _. R))) no, tt) in
    proved 𝓛 E stayed c 𝓜 𝓡 (Goes-spent_ref 𝓛 2 (0 ∷ []) tt (plain (λ _. R)), tt) (f.Key.name inst) fn (code.unfolded 𝓤 𝓛.H 𝓜 𝓡 wired (T, tt))
    (λ κs. (mut_vals, tt)) (λ κs. (mut_Tells (named 0) κs.0 R, tt)) (λ κs qs bounds a gh are.
    let κ : Lft = κs.0 in let q : Share = qs.0 in let r : MutBor R.Denot = a.0 in let b : ℕ = r.ref_ptr.0 in let o : ℕ = r.ref_ptr.1 in let vs : List Val = mut_vals r in let κT : Lft = κs.1.0 in let sL : Share = Share.left qs.1.0 in let sR : Share = Share.right qs.1.0 in
    let Ref : Lft → MutBor R.Denot → Fml = λ κ' x. (MutRef (named 0) κ' R).own_val x vs in
    let y : (walk_of 𝓛 E stayed c).Ghost = ((κs, qs, bounds, a, (vs, tt)), gh) in let Post : Val → SProp 𝓤 = (walk_of 𝓛 E stayed c).post y in
    qed 𝓛 (((‵ (flft κ q) ⊛ ‵ (flft κs.1.0 qs.1.0) ⊛ ‵ ftrue) ⊛ ‵ (Ref κ r) ⊛ ‵ ftrue) ∷ raw (fact 𝓤 (κs.1.0 ⊑ T.lives)) ∷ ‵ ftrue ∷ []) ∵
    move ! (1 ∷ []) $ heard ! _ (λ within. split ! $ split ! $ move ! (2 ∷ []) $ split ! $ keep ! (0 ∷ 2 ∷ 3 ∷ []) $
    enter ! 𝓣.C 𝓣.Λ fn vs Post $ alloc_all ! (λ l. pass_all ! refl ((tt, tt), tt) $ let Ev = env fn.locals l in
    -- [the handle; the token of κ; the other tokens]
    sets ! (addr ! (through ! refl (stop !))) refl (tt, tt) $
    move ! (2 ∷ []) $ split ! $ use1 𝓛 (‵ (flft κT sL) ⊛ ‵ (flft κT sR)) (𝓛.lfts.lft_split κT qs.1.0) $ split ! $
    lft_new ! tt (λ α. let κ' : Lft = α ∷ κT in
    use2 𝓛 (‵ (flft κ' sL) ⊛ raw (Rest 𝓛 α sL)) (within_token 𝓛 α κT sL) $ split ! $ move ! (4 ∷ 5 ∷ []) $
    use2 𝓛 (later (some (λ (δ : ℕ). ‵ (Ref κ' (record r { ghost_name = δ })) ⊛ ‵ (LentAgain R κ κ' q r.ghost_name b o δ r.now))))
    (lends_again 𝓛 R (named 0) κ κ' q r.ghost_name b o (named 0) r.now) $ await ! tt $ pick ! (λ δ. split ! $
    -- [the loan; what the handle keeps; the token of κ'; its rest; the token of κT; true]
    let E' = g.ended T in let G = triple_of 𝓛 E'.signature (g.spec T 𝓛 𝓜.mem 𝓡.returns) in
    let z : G.Ghost = (((κ', (κT, tt)), (sL, (sR, tt)), (meet_⊑_right (α ∷ []) κT, tt), (record r { ghost_name = δ }, tt), (vs, tt)), tt) in
    nothing ! $ move ! (1 ∷ 0 ∷ []) $ join ! $ move ! (4 ∷ 5 ∷ []) $ join ! $ move ! (3 ∷ 0 ∷ []) $ join ! $ move ! (0 ∷ 1 ∷ []) $ join ! $
    use0 𝓛 (raw (fact 𝓤 (κT ⊑ T.lives))) (fact_i 𝓤 (κT ⊑ T.lives) (emp 𝓤) within) $ nothing ! $ move ! (1 ∷ 0 ∷ []) $ join ! $ move ! (1 ∷ 0 ∷ []) $ use2 𝓛 (raw (G.pre z)) (id⊢ 𝓤 _) $
    calls_at ! (framed 𝓤 𝓛.H 𝓜 𝓣) G (seize_met 𝓤 𝓛 𝓜 𝓡 (code.calls-stabby_count::slice::ArcSlice::seize 𝓡.env wired) T L) z (and_then ! (get ! refl) (no_more !)) (λ v.
    use1 𝓛 (later (some (λ (u : Bool). ((‵ (flft κ' sL) ⊛ ‵ (flft κT sR) ⊛ ‵ ftrue) ⊛ ‵ (bool.own_val u (v ∷ []))) ⊛
    some (λ (ws : Lasts E' z.0.0 z.0.3). ‵ (lasts E' z.0.0 z.0.3 ws) ⊛
    (raw (fact 𝓤 (ReadsAlone (slice_record r.now) (slice_record ws.0) u)) ⊛ raw (fact 𝓤 (IsTrue u → ws.0.shared.share.kind ≡ held)) ⊛ raw (fact 𝓤 (IsSoleSlice r.now → IsTrue u)) ⊛ raw (fact 𝓤 (IsTrue u → IsSoleSlice ws.0)) ⊛ raw (fact 𝓤 ((slice_value ws.0 ≡ slice_value r.now) × (slice_block ws.0 ≡ slice_block r.now)))))))) (id⊢ 𝓤 _) $
    await ! tt $ pick ! (λ u. split ! $ split ! $
    move ! (1 ∷ []) $ feq_l ! (λ is_bool. lands_as ! (ap only is_bool) refl (tt, tt) $
    move ! (1 ∷ []) $ pick ! (λ ws. split ! $ move ! (1 ∷ []) $ split ! $ heard ! _ (λ read. split ! $ heard ! _ (λ holds. split ! $ heard ! _ (λ sole. split ! $ heard ! _ (λ becomes. heard ! _ (λ kept.
    -- [what the loan left; its tokens; what the handle keeps; the rest of α's token]
    move ! (1 ∷ []) $ split ! $ move ! (0 ∷ 4 ∷ []) $ use2 𝓛 (later (‵ (fdead κ') ⊛ ‵ (flft κT sL))) (within_end 𝓛 α κT sL) $ await ! tt $ split ! $
    move ! (2 ∷ []) $ split ! $ move ! (3 ∷ 0 ∷ []) $ use2 𝓛 (‵ (flft κT qs.1.0)) (𝓛.lfts.lft_join κT qs.1.0) $
    -- [the token of κT; true; κ' is over; what the loan left; what the handle keeps]
    move ! (3 ∷ []) $ fsplit ! $ fsplit ! $ move ! (5 ∷ 6 ∷ 0 ∷ []) $
    use3 𝓛 (later (‵ (Ref κ (record r { now = ws.0 })) ⊛ ‵ (flft κ q))) (comes_back 𝓛 R (named 0) κ κ' q r.ghost_name b o δ r.now ws.0) $ await ! tt $ split ! $
    -- [the handle; the token of κ; the loan's borrow; true; the token of κT; true]
    first ! $ branches ! (get ! refl)
    (λ lends. sets ! (addr ! (through ! refl (stop !))) refl (tt, tt) $
    let E'' = h.ended T in let G' = triple_of 𝓛 E''.signature (h.spec T 𝓛 𝓜.mem 𝓡.returns) in let r' : MutBor R.Denot = record r { now = ws.0 } in
    let z' : G'.Ghost = ((κs, qs, bounds, (r', tt), (vs, tt)), tt) in
    -- [the handle; the token of κ; the loan's borrow; true; the token of κT; true]
    nothing ! $ move ! (1 ∷ 0 ∷ []) $ join ! $ move ! (4 ∷ 5 ∷ []) $ join ! $ move ! (2 ∷ 0 ∷ []) $ join ! $ move ! (0 ∷ 1 ∷ []) $ join ! $
    use0 𝓛 (raw (fact 𝓤 (ws.0.shared.share.kind ≡ held))) (fact_i 𝓤 (ws.0.shared.share.kind ≡ held) (emp 𝓤) (holds (is_true u lends))) $
    use0 𝓛 (raw (fact 𝓤 (κT ⊑ T.lives))) (fact_i 𝓤 (κT ⊑ T.lives) (emp 𝓤) within) $ join ! $ move ! (1 ∷ 0 ∷ []) $ use2 𝓛 (raw (G'.pre z')) (id⊢ 𝓤 _) $
    calls_at ! (framed 𝓤 𝓛.H 𝓜 𝓣) G' (items_met 𝓤 𝓛 𝓜 𝓡 (code.calls-stabby_count::slice::ArcSlice::own_items 𝓡.env wired) T L) z' (and_then ! (get ! refl) (no_more !)) (λ v'.
    use1 𝓛 (later (some (λ (x : MutBor (List S.Denot)). ((‵ (flft κ q) ⊛ ‵ (flft κT qs.1.0) ⊛ ‵ ftrue) ⊛ ‵ ((MutSlice (named 0) κ S).own_val x (v' ∷ []))) ⊛
    some (λ (ws' : Lasts E'' z'.0.0 z'.0.3). ‵ (lasts E'' z'.0.0 z'.0.3 ws') ⊛ (‵ (follows R (Array S 0) r.ghost_name x.ghost_name (with_slice_items ws.0)) ⊛ raw (fact 𝓤 (x.now ≡ slice_items ws.0))))))) (id⊢ 𝓤 _) $
    await ! tt $ pick ! (λ x. split ! $ split ! $
    move ! (2 ∷ []) $ pick ! (λ ws'. split ! $ drop ! $ split ! $ move ! (1 ∷ []) $ heard ! _ (λ shown. move ! (2 ∷ []) $
    peeks ! (S' κs) (Is (S' κs)) (shows 𝓛 (S' κs)) x (v' ∷ []) (λ is. let w : Val = slice_val x.ref_ptr (length x.now) in rewrite ! 0 (λ (us : List Val). ‵ ((S' κs).own_val x us)) is.0.0 refl $
    -- [the items; what the handle follows; the tokens]
    lands_as ! (ap only is.0.0) refl (tt, (tt, (record { fits = is.0.1.0 }, tt))) $
    sets_last ! (agg ! (and_then ! (lit ! tt) (and_then ! (get ! refl) (no_more !)))) refl (tt, (record { fits = lit< tt }, ((tt, (record { fits = is.0.1.0 }, tt)), tt))) $
    exec ! 𝓣.C 𝓣.Λ Ev (after 3 fn.body) (at_ret Ev Post) $ sets ! (of_opd ! (get ! refl)) refl (tt, (record { fits = lit< tt }, ((tt, (record { fits = is.0.1.0 }, tt)), tt))) $
    let value : Val = live 1 (vcons w vnil) in let P : List S.Denot → R.Denot → Type 0 = λ items n. IsLentSlice r.now n items true in let P₀ : R.Denot → Type 0 = λ n. IsLentSlice r.now n (slice_items r.now) true in
    let lent : (items : List S.Denot) → P items (with_slice_items ws.0 items) = lends_items r.now ws.0 u read kept (is_true u lends) becomes in
    use1 𝓛 (‵ ((Opt.the_row (S' κs)).own_val (Some x) (value ∷ []))) (Some-of 𝓛 (S' κs) x w) $ move ! (1 ∷ []) $
    use1 𝓛 (‵ (follows_so R (Array S 0) r.ghost_name (some' x.ghost_name) P P₀)) (lends_such 𝓛 R (Array S 0) r.ghost_name P P₀ (with_slice_items ws.0) (with_slice_items ws.0 (slice_items r.now)) lent (lent (slice_items r.now)) x.ghost_name) $
    let Sole : Type 0 = IsSoleSlice r.now → true ≡ true in let Shown : Type 0 = x.now ≡ slice_items r.now in
    use0 𝓛 (raw (fact 𝓤 Sole)) (fact_i 𝓤 Sole (emp 𝓤) (λ _. refl)) $ use0 𝓛 (raw (fact 𝓤 Shown)) (fact_i 𝓤 Shown (emp 𝓤) (shown ∙ ap (λ (v : Sequence S.Denot). v.items) kept.0)) $ join ! $ move ! (1 ∷ 0 ∷ []) $ join ! $
    nothing ! $ nothing ! $ fjoin ! $
    -- [nothing is kept; what is ensured; the result; the tokens]
    returns ! (look_at ! 0 refl) $ free_all ! refl $ keep ! (3 ∷ 0 ∷ 2 ∷ 1 ∷ []) $ by ! (leaves 𝓛 E stayed c y value (Some x) (tt, tt) (tt, tt))))))))
    (λ lends_not. sets_last ! (agg ! (and_then ! (lit ! tt) (no_more !))) refl (tt, (record { fits = lit< tt }, tt)) $
    exec ! 𝓣.C 𝓣.Λ Ev (after 3 fn.body) (at_ret Ev Post) $ sets ! (of_opd ! (get ! refl)) refl (tt, (record { fits = lit< tt }, tt)) $
    let value : Val = live 0 vnil in let P : List S.Denot → R.Denot → Type 0 = λ items n. IsLentSlice r.now n items false in let P₀ : R.Denot → Type 0 = λ n. IsLentSlice r.now n (slice_items r.now) false in
    let same : (items : List S.Denot) → P items ws.0 = keeps_items r.now ws.0 u read kept (is_false u lends_not) in
    fsplit3 ! $ drop ! $ use1 𝓛 (‵ (fres r.ghost_name (R.coded.code ws.0))) (𝓛.names.obs-res r.ghost_name (R.coded.code ws.0)) $
    use1 𝓛 (‵ (follows_so R (Array S 0) r.ghost_name none P P₀)) (lends_none 𝓛 R (Array S 0) r.ghost_name P P₀ (λ _. ws.0) ws.0 same (same (slice_items r.now))) $
    -- [the handle is as it was; its borrow; the token of κ; the loan's borrow; true; the token of κT; true]
    move ! (5 ∷ 6 ∷ []) $ join ! $ move ! (3 ∷ 0 ∷ []) $ join ! $ use0 𝓛 (‵ ((Opt.the_row (S' κs)).own_val None (value ∷ []))) (none_of 𝓛 (S' κs)) $
    let Sole : Type 0 = IsSoleSlice r.now → false ≡ true in
    move ! (2 ∷ []) $ use0 𝓛 (raw (fact 𝓤 Sole)) (fact_i 𝓤 Sole (emp 𝓤) (λ s. sym (is_false u lends_not) ∙ sole s)) $ use0 𝓛 (raw (fact 𝓤 (Unit {0}))) (fact_i 𝓤 (Unit {0}) (emp 𝓤) tt) $ join ! $ move ! (1 ∷ 0 ∷ []) $ join ! $
    nothing ! $ nothing ! $ fjoin ! $
    returns ! (look_at ! 0 refl) $ free_all ! refl $ keep ! (3 ∷ 0 ∷ 2 ∷ 1 ∷ []) $ by ! (leaves 𝓛 E stayed c y value None (tt, tt) (tt, tt)))))))))))))))))
