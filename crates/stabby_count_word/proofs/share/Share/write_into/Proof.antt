-- `write_into` writes the word, the allocator and the value into the room, and shares the value for a lifetime of its own.
use Rattle.std.proofs.Common.{◌≡◌, ℕ, ◌+◌, List, [], ◌∷◌, ◌++◌, refl, sym, subst, lit<, w64}
use base.Fraction.{full_share}
use mir.Syntax.{Ty, a_type, dcons, dnil, ty_int, ty_struct}
use denote.Param.{param, bounded}
use Rattle.atomic_table.specs.Seated.{roster}
use Rattle.atomic_table.proofs.Marking.{begins}
use mir.Val.{Val, vint}
use mir.MapTy.{inst_fn}
use base.Stored.{Coded}
use base.Logic.{SProp, ent, emp, id⊢}
use base.Fml.{Fml, ftrue, flft, finv, fat}
use prog.Wp.{WpFn}
use types.Kit.{‵, raw, ◌⊛◌, some, later, at_ret, ◌$◌, ◌∵◌, !, qed, by, move, keep, split, join, fsplit, fjoin, fpack, pick, group, suffices, use0, use1, await}
use types.Run.{init, stop, fld, of_opd, no_more, and_then, assigns_last, first, blocks, exec, returns, enter}
use types.ByLocal.{alloc_all, pass_all, free_all, look_at, get, get_in, through, sets, env}
use types.Part.{sub, whole, agg}
use contract.Monad.{fact, fact_i}
use contract.BorrowLft.{◌⊑◌}
use contract.Running.{tables}
use denote.Exit.{no}
use denote.Struct.Lending.{Lends-lies}
use denote.Struct.Struct.{as_fields}
use denote.RattleType.{RattleType, owns}
use denote.Signature.{types_at, plain}
use denote.RawPtr.{Ptr, InBlock, block_ptr}
use denote.Steps.{nothing, heard}
use denote.Param.Laws.{param_laws}
use denote.Triple.Walked.{Stays, stay_dropped, walk_of, Goes-dropped}
use Rattle.core.proofs.alloc.Calls.{α, token, Goes-blank}
use Rattle.core.proofs.alloc.Shapes.{after}
use Rattle.std_alloc.proofs.RawLayout.{as_written}
use Rattle.std_alloc.proofs.OfVacant.{Vacant, vacant_val, vacant_typed, Vacant-had}
use Rattle.std_alloc.proofs.BoxSteps.Form as box
use Rattle.std_alloc.proofs.BoxSteps.Steps.{el_tells}
use Rattle.std_alloc.specs.Arc.Ownership.{value_and_blocks}
use Rattle.std.proofs.raw_atomic.Walks.{proved_at, leaves}
use Rattle.stabby_count_word.specs.Kinds.{one_strong}
use Rattle.stabby_count_word.specs.Rights.{seat_owns, BlockNames, counted, right_to, place}
use Rattle.stabby_count_word.specs.contracts.share.Inner as IN
use Rattle.stabby_count_word.specs.contracts.share.Share as part
use Rattle.stabby_count_word.proofs.Lits.{big_lit}
use Rattle.stabby_count_word.proofs.Blocks.{fields, block_made}
use Rattle.stabby_count_word.proofs.ShareFields.{word, word_good, Data, made}
use Rattle.stabby_count_word.proofs.Founding.{names_of, first_views, founds}
use Rattle.stabby_count_word.specs.contracts.share.Share.write_into.{ended, clauses}
use Rattle.stabby_count_word.specs.contracts.share.Share.write_into.Key.{name as #self}
use Rattle.stabby_count_word.proofs.share.Share.write_into.Statement.{statement}
use Rattle.stabby_count_word.proofs.share.Share.write_into.Code as code

pub write_into_spec : {M : Type 1} → statement M
write_into_spec 𝓤 𝓛 𝓜 𝓡 wired T A X P L LA _ _ g di gp dp dd allocator glued _ =
    let H = 𝓛.H in let 𝓣 = tables 𝓤 H 𝓜 𝓡 𝓡.env in let LR = param_laws 0 T L in let En = ended T A X P g di gp dp dd in let c = clauses T A X P g di gp dp dd 𝓛 𝓜.mem 𝓡.returns in
    let E : box.Bx = record { row = T; laws = L; al = record { row = A; laws = LA; g = g; d = di; drops = dd } } in let R : RattleType = box.R E in let Z : RattleType = box.P E in let Q : RattleType = param 2 X in let Y : RattleType = param 3 P in let cw : Coded X.Denot = Q.coded in let Inner : RattleType = IN.the_row R Z in let V : RattleType = Vacant E.al Inner in
    let inst = bounded (a_type ∷ a_type ∷ a_type ∷ a_type ∷ []) (T, (A, (X, (P, tt)))) (dcons di (dcons dp (dcons dd dnil))) in let fn = inst_fn inst code.function in let Row : RattleType = part.the_row R Z Q Y g gp in let tk : Z.Denot → Ty → Ptr → Fml = token E.al in
    let hs : Stays En.signature.params En.kept = (stay_dropped (plain (λ _. V)) no, (stay_dropped (plain (λ _. R)) no, tt)) in
    proved_at 𝓛 En hs c 𝓜 𝓡 (Goes-blank 𝓛 4 (plain (λ _. V)) no (λ κs x f. tt), (Goes-dropped 𝓛 4 (plain (λ _. R)) no (λ κs x f. refl), tt)) (#self inst) fn (code.unfolded 𝓤 H 𝓜 𝓡 wired (T, (A, (X, (P, tt)))) di dp dd) (λ z are.
    let κs = z.0.0 in let qs = z.0.1 in let room = z.0.3.0 in let x = z.0.3.1.0 in let h = room.alloc in let Post : Val → SProp 𝓤 = (walk_of 𝓛 En hs c).post z in let Run : List Val → SProp 𝓤 = λ ws. WpFn 𝓤 H 𝓣.C 𝓣.Λ fn ws Post in
    let rest = ‵ (flft κs.1.0 qs.1.0) ⊛ ‵ (flft κs.1.1.0 qs.1.1.0) ⊛ ‵ (flft κs.1.1.1.0 qs.1.1.1.0) ⊛ ‵ ftrue in let n : ℕ = 4294967297 in let w : X.Denot = gp.first in let Good : Type 0 = gp.holds n (w ∷ []) in let In : Type 0 = κs.0 ⊑ T.lives in
    qed 𝓛 (((‵ (flft κs.0 qs.0) ⊛ rest) ⊛ ‵ (owns (types_at En.signature.params κs) z.0.3 z.0.4)) ∷ raw (fact 𝓤 In) ∷ raw (fact 𝓤 _) ∷ raw (fact 𝓤 _) ∷ raw (fact 𝓤 _) ∷ raw (fact 𝓤 Good) ∷ []) ∵ move ! (5 ∷ 1 ∷ 0 ∷ []) $
    heard ! Good (λ holds_first. heard ! In (λ leT. split ! $ split ! $ move ! (2 ∷ []) $ fsplit ! $
    Vacant-had E.al Inner ! room z.0.4.0 (λ b o hv e is fits. move ! (3 ∷ []) $ fsplit ! $ el_tells E ! x z.0.4.1.0 (λ v ev good. keep ! (2 ∷ 3 ∷ 4 ∷ 0 ∷ 5 ∷ 6 ∷ []) $
    -- [room; the right to free; the allocator; the value; the tokens]
    let p : Ptr = block_ptr b o in let ws : List Val = vacant_val hv b o ∷ v ∷ [] in let μ = (IN.the_type R Z).name in
    let inner = as_fields (ty_int w64 ∷ α E.al ∷ box.τ E ∷ []) (vint w64 n ∷ hv ∷ v ∷ []) ((tt, record { fits = lit< tt }), (fits, (good, tt))) in
    suffices ! (Run ws) (subst (λ (us : List Val × List Val). ent 𝓤 (Run ws) (Run (us.0 ++ (us.1 ++ [])))) (λ i. (sym is i, sym ev i)) (id⊢ 𝓤 (Run ws))) $
    as_written ! (ty_struct μ (fields E)) b o $ enter ! 𝓣.C 𝓣.Λ fn ws Post $ alloc_all ! (λ l. pass_all ! refl (vacant_typed E.al Inner hv b o fits, (good, tt)) $ let Ev = env fn.locals l in
    sets ! (of_opd ! (get_in ! (fld ! refl (stop !)) (sub ! 0 refl (whole !)))) refl (tt, tt) $ sets ! (of_opd ! (get_in ! (fld ! refl (stop !)) (sub ! 1 refl (whole !)))) refl fits $
    first ! $ blocks ! $ sets ! (of_opd ! (get ! refl)) refl fits $ sets ! (of_opd ! (get ! refl)) refl good $
    sets ! (agg ! (and_then ! (big_lit ! (record { fits = lit< tt })) (and_then ! (get ! refl) (and_then ! (get ! refl) (no_more !))))) refl inner $
    assigns_last ! (of_opd ! (get ! refl)) (through ! refl (stop !)) (init ! 0 refl inner) $ exec ! 𝓣.C 𝓣.Λ Ev (after 3 fn.body) (at_ret Ev Post) $
    sets ! (agg ! (no_more !)) refl (tt, tt) $ sets ! (agg ! (and_then ! (get ! refl) (and_then ! (get ! refl) (no_more !)))) refl (word_good p) $
    group ! 4 $ use1 𝓛 (‵ (fat full_share (ty_int w64) b (o + 0) (vint w64 n)) ⊛ ‵ (value_and_blocks Z tk R p x)) (block_made E 𝓛 μ b o n h x hv v) $ split ! $
    use0 𝓛 (later (some (λ (ν : ℕ). ‵ (roster cw.code ν 0 (w ∷ [])) ⊛ ‵ (seat_owns cw.code ν 0 w)))) (begins 𝓛 cw w) $ await ! tt $ pick ! (λ ν. split ! $
    nothing ! $ fpack ! Good (λ _. ftrue) holds_first $ move ! (1 ∷ 0 ∷ []) $ fjoin ! $ fpack ! (List X.Denot) (first_views 𝓛 Z R LR.shr_laws tk cw gp.holds ν p x n) (w ∷ []) $
    -- [the first views; the seat; the word; the value and the block; the token; the other tokens]
    move ! (2 ∷ 3 ∷ 4 ∷ 0 ∷ []) $ group ! 4 $
    use1 𝓛 (later (some (λ (s : ℕ × (ℕ × (ℕ × (ℕ × ℕ)))). ‵ (finv (counted Z R tk cw.code gp.holds (names_of 𝓛 Z R LR.shr_laws tk cw gp.holds ν p x s) p)) ⊛ ‵ (right_to Z R (names_of 𝓛 Z R LR.shr_laws tk cw gp.holds ν p x s) tk (s.1.1.1.0, (x, p)) one_strong)) ⊛ ‵ (flft κs.0 qs.0)))
    (founds 𝓛 Z R LR.shr_laws tk cw gp.holds ν p x R.lives κs.0 qs.0 (Lends-lies 𝓛 R R.lives (place Z R p) x (LR.shares 𝓛 x)) leT) $ await ! tt $ split ! $ pick ! (λ s. split ! $
    -- [the invariant; one part; the token; the seat; the other tokens]
    let ds : BlockNames = names_of 𝓛 Z R LR.shr_laws tk cw gp.holds ν p x s in let new : Row.Denot = record { ptr = p; marker = record {}; names = ds; round = s.1.1.1.0; value = x; kind = one_strong; id = 0; view = w } in
    move ! (1 ∷ 3 ∷ []) $ fjoin ! $ move ! (0 ∷ 1 ∷ []) $ fjoin ! $ nothing ! $ fpack ! (InBlock p) (λ _. ftrue) tt $ fjoin ! $ use0 𝓛 (‵ ((Data R Z Q Y g gp).own_val (p, (tt, tt)) (word p ∷ []))) (made R Z Q Y g gp 𝓛 p) $ fjoin ! $
    move ! (1 ∷ 2 ∷ []) $ join ! $ nothing ! $ nothing ! $ fjoin ! $ nothing ! $ fjoin ! $ let Told : Type 0 = (x ≡ x) × (one_strong ≡ one_strong) × (w ≡ w) in use0 𝓛 (raw (fact 𝓤 Told)) (fact_i 𝓤 Told (emp 𝓤) (refl, refl, refl)) $
    returns ! (look_at ! 0 refl) $ free_all ! refl $ keep ! (2 ∷ 1 ∷ 3 ∷ 0 ∷ []) $ by ! (leaves 𝓛 En hs c z (word p) new ((tt, (tt, tt)), (tt, tt)) (tt, (tt, tt)))))))))))
