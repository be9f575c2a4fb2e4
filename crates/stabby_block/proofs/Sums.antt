-- The sum of the sizes of the blocks, as a map of them changes.
use Rattle.std.proofs.Common.{◌≡◌, ℕ, ◌+◌, List, sum_by, arith, ap, sym, ◌∙◌, Option, Some, None}
use Rattle.std.specs.Prelude.{is_some, false, unwrap_or}
use Rattle.std.specs.Option.{option_map}
use Rattle.std.specs.Ordering.{nat_cmp}
use Rattle.std.specs.BTreeMap.{BTreeMap, get, values, insert_entry, is_at, IsOrdered}
use Rattle.std.specs.Map.{values_of, keys_of, lookup, remove_entry, set_value}
use Rattle.std.specs.List.{list_any}
use Rattle.std.proofs.Common.{Bool, true, cond, ◌||◌, [], ◌∷◌, refl}
use Rattle.std.proofs.lemmas.Map.Entries.{sum_by-insert_entry, sum_by-remove_entry, sum_by-set_value}
use Rattle.std.proofs.lemmas.Cmp.{nat_cmp_total}

module _ {X : Type 0} (f : X → ℕ) where
  pub after_insert : (m n : BTreeMap ℕ X) (k : ℕ) (v : X) → n.entries ≡ insert_entry nat_cmp m.entries k v
      → IsOrdered nat_cmp m → get nat_cmp m k ≡ None → sum_by f (values n) ≡ sum_by f (values m) + f v
  after_insert m n k v is order none =
      let e = sum_by-insert_entry f nat_cmp_total m.entries k v order in
      let z : unwrap_or (option_map f (get nat_cmp m k)) 0 ≡ 0 = ap (λ o. unwrap_or (option_map f o) 0) none in
      ap (λ es. sum_by f (values_of es)) is ∙ (omega (arith, e, z))

  pub after_remove : (m n : BTreeMap ℕ X) (k : ℕ) (x : X) → n.entries ≡ remove_entry (is_at (nat_cmp k)) m.entries
      → Some x ≡ get nat_cmp m k → sum_by f (values n) + f x ≡ sum_by f (values m)
  after_remove m n k x is some =
      let e = sum_by-remove_entry f (is_at (nat_cmp k)) m.entries in
      let z : unwrap_or (option_map f (get nat_cmp m k)) 0 ≡ f x = ap (λ o. unwrap_or (option_map f o) 0) (sym some) in
      let same = ap (λ es. sum_by f (values_of es)) is in
      omega (arith, e, z, same)

  pub after_write : (m n : BTreeMap ℕ X) (k : ℕ) (v w : X) → n.entries ≡ set_value (is_at (nat_cmp k)) m.entries w
      → get nat_cmp m k ≡ Some v → f w ≡ f v → sum_by f (values n) ≡ sum_by f (values m)
  after_write m n k v w is some same =
      let e = sum_by-set_value f (is_at (nat_cmp k)) m.entries v w some in
      let moved = ap (λ es. sum_by f (values_of es)) is in
      omega (arith, e, same, moved)

-- what was absent stays so, where another key was taken out
pub gone_stays : {X : Type 0} (b : Bool) (old new : Option X) → new ≡ cond b None old → is_some old ≡ false → is_some new ≡ false
gone_stays true old new is absent = ap is_some is
gone_stays false old new is absent = ap is_some is ∙ absent

-- what is there depends on the keys alone
either : {X : Type 0} (x : X) (o : Option X) (r b : Bool) → is_some o ≡ r → is_some (cond b (Some x) o) ≡ b || r
either x o r true e = refl
either x o r false e = e

is_some_by_keys : {X : Type 0} (es : List (ℕ × X)) (n : ℕ) → is_some (lookup (is_at (nat_cmp n)) es) ≡ list_any (is_at (nat_cmp n)) (keys_of es)
is_some_by_keys [] n = refl
is_some_by_keys (e ∷ es) n = either e.1 _ _ (is_at (nat_cmp n) e.0) (is_some_by_keys es n)

pub same_keys_absent : {X : Type 0} (m l : BTreeMap ℕ X) (n : ℕ) → keys_of l.entries ≡ keys_of m.entries
    → is_some (get nat_cmp m n) ≡ false → is_some (get nat_cmp l n) ≡ false
same_keys_absent m l n same absent =
    is_some_by_keys l.entries n ∙ ap (list_any (is_at (nat_cmp n))) same ∙ sym (is_some_by_keys m.entries n) ∙ absent
