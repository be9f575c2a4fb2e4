-- The versions that a cell keeps.
use Rattle.std.proofs.Common.{◌≡◌, ℕ, zero, suc, ◌+◌, ◌-◌, ◌<◌, ◌≤◌, ◌↔◌, min, List, [], ◌∷◌, ◌++◌, length, take, Option, Some, None, sym, refl, ap, ◌∙◌, subst, arith, length-append}
use Rattle.std.specs.List.{slice_get}
use Rattle.std.specs.Prelude.{IsSome, IfSome}
use Rattle.std.proofs.lemmas.Bool.Decides.{nat_tests}
use Rattle.std.proofs.lemmas.List.{length-take, take_all, take-append-le}
use Rattle.std.proofs.lemmas.Option.{slice_get_within, same_Some, none-some}
use Rattle.stabby_cell.specs.declared.kept.Versions.{Versions}
use Rattle.stabby_cell.specs.declared.kept.Older.{Older}
use Rattle.stabby_cell.specs.declared.view.View.{View}
use Rattle.atomic_table.specs.Table.{Me}
use Rattle.stabby_cell.specs.Telling.{HasLastIf}
use Rattle.stabby_cell.specs.Inside.{HasOut, Took, versions_out, room_out}
use Rattle.stabby_cell.specs.Rule.{Reached, KeepsLast, HasLast, items_in, room_in, versions_in, keep_in}
use Rattle.stabby_cell.proofs.ReachLemmas.{reached_snoc}

module _ {A : Type 0} where
  abbrev top : A → List A → A
  top d [] = d
  top d (x ∷ xs) = x

  pub get_taken : (n : ℕ) (xs : List A) (i : ℕ) (x : A) → slice_get (take n xs) i ≡ Some x → slice_get xs i ≡ Some x
  get_taken zero xs i x e = absurd (none-some x e)
  get_taken (suc n) [] i x e = e
  get_taken (suc n) (y ∷ xs) zero x e = e
  get_taken (suc n) (y ∷ xs) (suc i) x e = get_taken n xs i x e

  pub get_some : (xs : List A) (i : ℕ) → IsSome (slice_get xs i) ↔ (i < length xs)
  get_some [] i = ((λ h. absurd (cc h)), (λ h. absurd (omega arith)))
  get_some (x ∷ xs) zero = ((λ h. omega arith), (λ h. refl))
  get_some (x ∷ xs) (suc i) = let h = get_some xs i in ((λ s. let k = h.0 s in omega arith), (λ l. h.1 (omega arith)))

module _ {V : Type 0} where
  newest_pushed : (n : ℕ) (new : V) (y : Versions V) (vs : List V) → versions_in y ≡ take (suc n) (new ∷ vs) → y.newest ≡ new
  newest_pushed n new y vs all = ap (top new) all

  -- the newest version after a push is the one that was pushed
  pub newest_is : (new : V) (keep : ℕ) (y : Versions V) (vs : List V) → 0 < keep → versions_in y ≡ take keep (new ∷ vs) → y.newest ≡ new
  newest_is new keep y vs some all = newest_pushed (keep - 1) new y vs (all ∙ ap (λ (k : ℕ). take k (new ∷ vs)) (let h : keep ≡ suc (keep - 1) = omega arith in h))

module _ {V E : Type 0} (next : V → E → V → Type 0) (origin : V) (keep : ℕ) where
  one_version : (back : ℕ) (x : V) → slice_get (origin ∷ []) back ≡ Some x → Reached next origin (take (0 - back) []) x
  one_version zero x e = sym (same_Some origin x e)
  one_version (suc b) x e = absurd (none-some x e)

  -- a new cell has its first version alone
  pub opens_kept : (k : Versions V) → 0 < keep → keep_in k ≡ keep → versions_in k ≡ origin ∷ [] → HasLast next origin keep [] k
  opens_kept k some is all = record {
    keep_is = is;
    newest = ap (top origin) all;
    last = subst (KeepsLast next origin keep []) (sym all) (record { count = omega arith; each = one_version });
  }

  -- the list after a commit
  module _ (es : List E) (e : E) (new : V) (reached : Reached next origin (es ++ e ∷ []) new) (vs : List V) (before : KeepsLast next origin keep es vs) where
    pushed_version : (n : ℕ) (back : ℕ) (x : V) → slice_get (take (suc n) (new ∷ vs)) back ≡ Some x → Reached next origin (take (length (es ++ e ∷ []) - back) (es ++ e ∷ [])) x
    pushed_version n zero x is = subst (λ l. Reached next origin l x) (sym (take_all (length (es ++ e ∷ []) - 0) (es ++ e ∷ []) (omega arith))) (subst (Reached next origin (es ++ e ∷ [])) (same_Some new x is) reached)
    pushed_version n (suc b) x is =
        let there = get_taken n vs b x is in
        let within = slice_get_within vs b x there in
        let count = before.count in
        let longer : length (es ++ e ∷ []) ≡ length es + 1 = length-append es (e ∷ []) in
        let less : length (es ++ e ∷ []) - suc b ≡ length es - b = omega arith in
        let same : take (length (es ++ e ∷ []) - suc b) (es ++ e ∷ []) ≡ take (length es - b) es = ap (λ (k : ℕ). take k (es ++ e ∷ [])) less ∙ take-append-le (length es - b) es (e ∷ []) (omega arith) in
        subst (λ l. Reached next origin l x) (sym same) (before.each b x there)

    pushed_list : (n : ℕ) → suc n ≡ keep → KeepsLast next origin keep (es ++ e ∷ []) (take keep (new ∷ vs))
    pushed_list n is = record {
      count = let count = before.count in let a = length-take keep (new ∷ vs) in let b : length (es ++ e ∷ []) ≡ length es + 1 = length-append es (e ∷ []) in omega arith;
      each = subst (λ (k : ℕ). (back : ℕ) (x : V) → slice_get (take k (new ∷ vs)) back ≡ Some x → Reached next origin (take (length (es ++ e ∷ []) - back) (es ++ e ∷ [])) x) is (pushed_version n);
    }

  -- the versions after a commit
  pub pushed_kept : (es : List E) (e : E) (x y : Versions V) (new : V) → HasLast next origin keep es x → keep_in y ≡ keep → versions_in y ≡ take keep (new ∷ versions_in x) → next x.newest e new → HasLast next origin keep (es ++ e ∷ []) y
  pushed_kept es e x y new h is all follows = let reached = reached_snoc next origin es x.newest e new h.newest follows in let full = h.keep_is in record {
    keep_is = is;
    newest = subst (Reached next origin (es ++ e ∷ [])) (sym (newest_is new keep y (versions_in x) (subst (λ (n : ℕ). 0 < n) full (omega arith)) all)) reached;
    last = subst (KeepsLast next origin keep (es ++ e ∷ [])) (sym all) (pushed_list es e new reached (versions_in x) h.last (keep - 1) (omega arith));
  }

  -- which versions there are
  pub kept_count : (es : List E) (k : Versions V) (back : ℕ) → HasLast next origin keep es k → (back < length (versions_in k)) ↔ ((back < keep) × (back ≤ length es))
  kept_count es k back h = let count = h.last.count in ((λ l. (omega arith, omega arith)), (λ p. let a = p.0 in let b = p.1 in omega arith))

-- what a turn has out
module _ {V E : Type 0} (next : V → E → V → Type 0) where
  known_last : (o : Option V) (k keep : ℕ) (u : V) (es : List E) (x : Versions V) → o ≡ Some u → k ≡ keep → HasLastIf next o k es x → HasLast next u keep es x
  known_last o k keep u es x e is h = subst (λ (n : ℕ). HasLast next u n es x) is (subst (λ (z : Option V). HasLastIf next z k es x) e h)

  pub took_out : (m m' : Me (Option (Versions V)) (View V E)) (older : Option (Older V)) (x : V) → HasOut older x (Took next m m') → HasOut older x (λ k. m'.0.out ≡ Some k)
  took_out m m' older x h = record { those = h.those; are = h.are; fact = ap (λ (z : Me (Option (Versions V)) (View V E)). z.0.out) (Took.me h.fact) }

  pub took_last : (m m' : Me (Option (Versions V)) (View V E)) (older : Option (Older V)) (x u : V) (keep : ℕ) → m.0.origin ≡ Some u → m.0.keep ≡ keep → HasOut older x (Took next m m') → HasOut older x (HasLast next u keep m'.0.front)
  took_last m m' older x u keep e is h = record { those = h.those; are = h.are; fact = known_last m.0.origin m.0.keep keep u m'.0.front _ e is (Took.kept h.fact) }

  pub last_newest : (older : Option (Older V)) (x u : V) (keep : ℕ) (es : List E) → HasOut older x (HasLast next u keep es) → Reached next u es x
  last_newest older x u keep es h = HasLast.newest h.fact

  -- an older version that a turn has out
  pub older_version : (older : Option (Older V)) (x u : V) (keep : ℕ) (es : List E) (o : Older V) (place : ℕ) (v : V) → HasOut older x (HasLast next u keep es) → older ≡ Some o → slice_get (items_in o) place ≡ Some v → Reached next u (take (length es - suc place) es) v
  older_version older x u keep es o place v h is there =
      let those : h.those ≡ o = same_Some h.those o (sym h.are ∙ is) in
      (HasLast.last h.fact).each (suc place) v (ap (λ (z : Older V). slice_get (items_in z) place) those ∙ there)

  all_some : (r : Option V) (P : V → Type 0) → ((v : V) → r ≡ Some v → P v) → IfSome r P
  all_some None P f = tt
  all_some (Some v) P f = f v refl

  -- the version that a commit gives out
  pub gone_version : (older : Option (Older V)) (x u : V) (keep : ℕ) (es : List E) (n : ℕ) (r : Option V) → HasOut older x (HasLast next u keep es) → r ≡ slice_get (versions_out older x) (room_out older) → n ≡ length es + 1 - keep → IfSome r (λ v. Reached next u (take n es) v)
  gone_version older x u keep es n r h gone is =
      let room : room_in h.those + 1 ≡ keep = HasLast.keep_is h.fact in
      let place : length es - room_in h.those ≡ n = omega arith in
      let out : r ≡ slice_get (x ∷ items_in h.those) (room_in h.those) = gone ∙ ap (λ (o : Option (Older V)). slice_get (versions_out o x) (room_out o)) h.are in
      all_some r _ (λ v e. subst (λ (k : ℕ). Reached next u (take k es) v) place ((HasLast.last h.fact).each (room_in h.those) v (sym out ∙ e)))
