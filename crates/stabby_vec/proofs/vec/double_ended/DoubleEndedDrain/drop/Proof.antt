-- The whole `Drain` goes to the `drop` of `Drain`, whose contract says what it leaves.
use Rattle.stabby_vec.proofs.Steps.{◌≡◌, [], ◌∷◌, ◌++◌, refl, ap, subst, ◌∙◌, proved_at, id⊢, SProp, Lfts, fact, tables, unit, yes, left, Is, shows, param, bounded, param_laws, RattleType, flat, owns, plain, named_lft, types_at, nothing, heard, only, peeks, fields_of, row_lawful, calls_at, lasts, at_exit, Lasts, alive, triple_of, framed, Stay, Stays, Goes, walk_of, says, ends_at, inst_fn, a_type, dcons, dnil, Val, vunit, vstruct, of_list, vcons, vnil, WpFn, alloc_all, pass_all, free_all, look_at, get, get_in, sets, lands_as, ‵, raw, ◌⊛◌, some, later, prop, ◌$◌, ◌∵◌, !, qed, done, move, keep, use1, use2, split, join, fsplit, fjoin, fpick, feq_i, feq_l, pick, await, rewrite, regoal, suffices, frame, sem, whole, sub, enter, of_opd, unit_lit, stop, fld, no_more, and_then, returns}
use Rattle.stabby_vec.specs.Drains.{dropped}
use Rattle.stabby_vec.specs.DrainStates.{draining}
use Rattle.stabby_vec.specs.contracts.vec.double_ended.DoubleEndedDrain as outer
use Rattle.stabby_vec.specs.contracts.vec.double_ended.DoubleEndedDrain.drop as f
use Rattle.stabby_vec.specs.contracts.vec.drains.Drain as inner
use Rattle.stabby_vec.specs.contracts.vec.drains.Drain.drop as g
use Rattle.stabby_vec.proofs.vec.double_ended.DoubleEndedDrain.TheLaws as outer_laws
use Rattle.stabby_vec.proofs.vec.drains.Drain.TheLaws as inner_laws
use Rattle.stabby_vec.proofs.vec.drains.Drain.drop.Met.{met}
use Rattle.stabby_vec.proofs.vec.double_ended.DoubleEndedDrain.drop.Statement.{statement}
use Rattle.stabby_vec.proofs.vec.double_ended.DoubleEndedDrain.drop.Code as code

pub drop_spec : {M : Type 1} → statement M
drop_spec 𝓤 𝓛 𝓜 𝓡 wired T A L L' al d d' d'' is_allocator drops drops' =
    let E = f.ended T A al d d' d'' in let E' = g.ended T A al d d' d'' in
    let c = f.clauses T A al d d' d'' 𝓛 𝓜.mem 𝓡.returns in let 𝓣 = tables 𝓤 𝓛.H 𝓜 𝓡 𝓡.env in
    let T' = param 0 T in let A' = param 1 A in
    let inst = bounded (a_type ∷ a_type ∷ []) (T, (A, tt)) (dcons d (dcons d' (dcons d'' dnil))) in
    let fn = inst_fn inst code.function in
    let Row : Lfts 3 → RattleType = λ κs. outer.the_row (named_lft 3 0 tt κs) T' A' al in
    let stay : Stay {n = 3} (plain Row) yes = record { fit = λ κs x w. Unit {0}; has = λ κs x w vs. left ((Row κs).exit yes) x w } in
    let stayed : Stays E.signature.params E.kept = (stay, tt) in
    let goes : Goes 𝓛 3 (plain Row) yes stay = λ κs x w vs ok. 𝓛.laws.⇛_intro (sem 𝓛 (left ((Row κs).exit yes) x w)) in
    proved_at 𝓛 E stayed c 𝓜 𝓡 (goes, tt) (f.Key.name inst) fn (code.unfolded 𝓤 𝓛.H 𝓜 𝓡 wired (T, (A, tt)) d d' d'') (λ y are.
    let κs = y.0.0 in let x = y.0.3.0 in let vs = y.0.4.0 in let a = named_lft 3 0 tt κs in
    let Outer = outer.the_type a T' A' al in let Inner = inner.the_type a T' A' al in
    let R = outer.the_row a T' A' al in let R' = inner.the_row a T' A' al in
    let Post : Val → SProp 𝓤 = (walk_of 𝓛 E stayed c).post y in
    let G = triple_of 𝓛 E'.signature (g.spec T A al d d' d'' 𝓛 𝓜.mem 𝓡.returns) in
    let Alive = alive 𝓛 E.signature κs y.0.1 in
    qed 𝓛 ((raw Alive ⊛ ‵ (owns (types_at E.signature.params κs) y.0.3 y.0.4)) ∷ raw ((c κs y.0.3).requires tt) ∷ []) ∵
    split ! $ move ! (1 ∷ []) $ fsplit ! $ keep ! (0 ∷ 2 ∷ 3 ∷ []) $
    fpick ! (λ vss. fsplit ! $ feq_l ! (λ e. fsplit ! $
    -- [the drain; nothing; the tokens; what is required]
    peeks ! R' (Is R') (shows 𝓛 R') x.drain vss.0 (λ is.
    let v' : Val = vstruct (of_list (flat (fields_of Inner) is.0)) in let e' : vss.0 ≡ v' ∷ [] = is.1.0 in
    let v : Val = vstruct (vcons v' vnil) in
    let ev : vs ≡ v ∷ [] = e ∙ ap (λ ws. vstruct (of_list (ws ++ [])) ∷ []) e' in
    let M = param_laws 0 T L in let M' = param_laws 1 A L' in
    let typed = (row_lawful 𝓛 Outer (outer_laws.the_loose a T' A' al M M')).typed x (v ∷ []) (subst (Is R x) ev are.0) in
    let typed' = (row_lawful 𝓛 Inner (inner_laws.the_loose a T' A' al M M')).typed x.drain (v' ∷ []) (subst (Is R' x.drain) e' is) in
    rewrite ! 0 (λ ws. ‵ (R'.own_val x.drain ws)) e' refl $
    regoal ! (λ us. prop (WpFn 𝓤 𝓛.H 𝓣.C 𝓣.Λ fn (us ++ []) Post)) ev refl $
    enter ! 𝓣.C 𝓣.Λ fn (v ∷ []) Post $
    alloc_all ! (λ l. pass_all ! refl typed $
    sets ! (of_opd ! (get_in ! (fld ! refl (stop !)) (sub ! 0 refl (whole !)))) refl typed'.0 $
    sets ! (of_opd ! (get ! refl)) refl typed'.0 $
    let z : G.Ghost = ((κs, y.0.1, y.0.2, (x.drain, tt), (v' ∷ [], tt)), tt) in
    fjoin ! $ move ! (1 ∷ 0 ∷ []) $ join ! $ use2 𝓛 (raw (G.pre z)) (id⊢ 𝓤 _) $
    calls_at ! (framed 𝓤 𝓛.H 𝓜 𝓣) G (met 𝓤 𝓛 𝓜 𝓡 (code.calls-stabby_vec::vec::drains::Drain::drop 𝓡.env wired) T A L L' al d d' d'' is_allocator drops drops') z
    (and_then ! (get ! refl) (no_more !)) (λ r.
    use1 𝓛 (later (some (λ (u : Unit {0}). (raw Alive ⊛ (‵ (unit.own_val u (r ∷ [])))) ⊛
    some (λ (ws : Lasts E' κs (x.drain, tt)). ‵ (lasts E' κs (x.drain, tt) ws) ⊛ raw (fact 𝓤 ((at_exit E' κs (x.drain, tt) ws).0.0.now ≡ dropped (draining x.drain))))))) (id⊢ 𝓤 _) $
    await ! tt $ pick ! (λ u. split ! $ split ! $ move ! (1 ∷ []) $ feq_l ! (λ is_unit.
    lands_as ! (ap only is_unit) refl (tt, tt) $
    move ! (1 ∷ []) $ pick ! (λ ws. split ! $ move ! (1 ∷ []) $ heard ! _ (λ left_so.
    sets ! (of_opd ! (unit_lit !)) refl (tt, tt) $
    returns ! (look_at ! 0 refl) $ free_all ! refl $
    -- [what the drain's contract says of its last value; the tokens]
    suffices ! _ (ends_at 𝓛 E stayed c y vunit tt ((ws.0, tt), tt) (tt, tt)) $ says ! left_so $
    nothing ! $ move ! (1 ∷ 0 ∷ []) $ fjoin ! $ feq_i ! _ (vunit ∷ []) _ refl $ move ! (2 ∷ 1 ∷ 0 ∷ []) $
    frame ! $ frame ! $ done !))))))))))
