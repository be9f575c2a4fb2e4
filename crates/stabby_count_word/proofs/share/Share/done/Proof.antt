-- `done` leaves the seat of a share that has no right.
use Rattle.atomic_table.proofs.Names.{◌≡◌, [], ◌∷◌, refl, a_type, dcons, dnil, Val, inst_fn, SProp, emp, ftrue, ‵, raw, ◌⊛◌, given, ◌$◌, ◌∵◌, !, qed, by, move, keep, drop, split, fsplit, fsplit3, fjoin, learn, use0, no_more, and_then, returns, enter, alloc_all, pass_all, free_all, look_at, get, sets, agg, tables, no, RattleType, owns, types_at, plain, nothing, param, bounded, alive, Stays, stay_dropped, walk_of, Goes-dropped, fact, fact_i, Ptr}
use Rattle.atomic_table.proofs.Walks.{proved, leaves}
use Rattle.atomic_table.proofs.Fields.{token_val}
use Rattle.stabby_count_word.specs.Kinds.{nothing as no_right}
use Rattle.stabby_count_word.specs.contracts.seat.Seat as seat
use Rattle.stabby_count_word.specs.contracts.share.Share as part
use Rattle.stabby_count_word.proofs.ShareFields.{word, word_good, told, Sign, sign_made}
use Rattle.stabby_count_word.specs.contracts.share.Share.done.{ended, clauses}
use Rattle.stabby_count_word.specs.contracts.share.Share.done.Key.{name as #self}
use Rattle.stabby_count_word.proofs.share.Share.done.Statement.{statement}
use Rattle.stabby_count_word.proofs.share.Share.done.Code as code

pub done_spec : {M : Type 1} → statement M
done_spec 𝓤 𝓛 𝓜 𝓡 wired T A X P L _ _ _ g di gp dp dd _ _ _ =
    let H = 𝓛.H in let 𝓣 = tables 𝓤 H 𝓜 𝓡 𝓡.env in let R : RattleType = param 0 T in let Z : RattleType = param 1 A in let Q : RattleType = param 2 X in let Y : RattleType = param 3 P in let En = ended T A X P g di gp dp dd in let c = clauses T A X P g di gp dp dd 𝓛 𝓜.mem 𝓡.returns in
    let inst = bounded (a_type ∷ a_type ∷ a_type ∷ a_type ∷ []) (T, (A, (X, (P, tt)))) (dcons di (dcons dp (dcons dd dnil))) in let fn = inst_fn inst code.function in let Row : RattleType = part.the_row R Z Q Y g gp in let Sr : RattleType = seat.the_row Q in
    let hs : Stays En.signature.params En.kept = (stay_dropped (plain (λ _. Row)) no, tt) in
    proved 𝓛 En hs c 𝓜 𝓡 (Goes-dropped 𝓛 4 (plain (λ _. Row)) no (λ κs x f. refl), tt) (#self inst) fn (code.unfolded 𝓤 H 𝓜 𝓡 wired (T, (A, (X, (P, tt)))) di dp dd)
    (λ κs. ((λ x. word x.ptr ∷ []), tt)) (λ κs. ((λ x vs so. told R Z Q Y g gp x.ptr vs so.0), tt)) (λ κs qs bounds a gh are. let h : Row.Denot = a.0 in let p : Ptr = h.ptr in
    let y : (walk_of 𝓛 En hs c).Ghost = ((κs, qs, bounds, a, (word p ∷ [], tt)), gh) in let Post : Val → SProp 𝓤 = (walk_of 𝓛 En hs c).post y in
    qed 𝓛 ((raw (alive 𝓛 En.signature κs qs) ⊛ ‵ (owns (types_at En.signature.params κs) a y.0.4)) ∷ raw (fact 𝓤 _) ∷ raw (fact 𝓤 _) ∷ raw (fact 𝓤 _) ∷ raw (fact 𝓤 _) ∷ given (h.kind ≡ no_right) (‵ ftrue) ∷ []) ∵
    keep ! (5 ∷ 0 ∷ []) $ learn ! (λ asked. let r : Sr.Denot = record { marker = record {}; views = h.names.views; id = h.id; view = h.view } in let Told : Type 0 = (h.names.views ≡ h.names.views) × (h.view ≡ h.view) in drop ! $ split ! $ move ! (1 ∷ []) $ fsplit ! $ fsplit ! $ keep ! (1 ∷ 3 ∷ []) $
    fsplit3 ! $ move ! (1 ∷ []) $ fsplit ! $ keep ! (1 ∷ 4 ∷ []) $
    -- [the seat; the tokens]
    use0 𝓛 (‵ ((Sign Q).own_val (tt, tt) (token_val ∷ []))) (sign_made Q 𝓛) $ fjoin ! $
    enter ! 𝓣.C 𝓣.Λ fn (word p ∷ []) Post $ alloc_all ! (λ l. pass_all ! refl (word_good p, tt) $
    sets ! (agg ! (no_more !)) refl (tt, tt) $ sets ! (agg ! (and_then ! (get ! refl) (no_more !))) refl (tt, (tt, tt)) $
    use0 𝓛 (raw (fact 𝓤 Told)) (fact_i 𝓤 Told (emp 𝓤) (refl, refl)) $ nothing ! $ nothing ! $ fjoin ! $
    returns ! (look_at ! 0 refl) $ free_all ! refl $ keep ! (3 ∷ 0 ∷ 2 ∷ 1 ∷ []) $ by ! (leaves 𝓛 En hs c y token_val r (tt, tt) (tt, tt)))))
