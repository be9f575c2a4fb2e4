-- How many comparisons one path of a catalog's tree is.
use Rattle.std.proofs.Common.{◌≡◌, ℕ, zero, suc, ◌+◌, ◌-◌, ◌*◌, ◌/◌, ◌^◌, ◌<◌, ◌≤◌, ◌⊎◌, inl, inr, List, length, sym, ap, ◌∙◌, subst, arith}
use Rattle.std.proofs.lemmas.Bool.{cases_lt}
use Rattle.std.proofs.Math.Pow.{pow_mono}
use Rattle.std.proofs.Math.Nat.{pow-le-pow_left, mul-le-mul_left}
use Rattle.stabby_tree.specs.Sets.{IsHeightOf}
use Rattle.stabby_tables.specs.Tables.{Table}
use Rattle.stabby_registry.specs.Catalog.{listed}
use Rattle.stabby_registry.specs.Counted.{CountsOnePath}
use Rattle.stabby_registry.proofs.Listing.{length-listed}

-- a tree that can be counted has at most 63 levels below its root
low : (b k n : ℕ) → 2 ≤ b → 2 * b ^ k ≤ n + 1 → n < 2 ^ 63 → k < 63
low b k n wide high small = by (cases_lt k 63)
  where
    by : (k < 63) ⊎ (63 ≤ k) → k < 63
    by (inl lower) = lower
    by (inr deep) =
        let grows : 2 ^ 63 ≤ 2 ^ k = pow_mono deep in
        let wider : 2 ^ k ≤ b ^ k = pow-le-pow_left wide k in
        absurd (omega (arith, grows, wider, high, small))

pub path_bound : (size h n : ℕ) → IsHeightOf size h n → n < 2 ^ 63 → (size - 1) * h ≤ 64 * (size - 1)
path_bound zero h n is small = omega arith
path_bound (suc zero) h n is small = omega arith
path_bound (suc (suc s)) zero n is small = omega arith
path_bound (suc (suc s)) (suc k) n is small =
    let lower : k < 63 = low (suc (suc s) / 2 + 1) k n (omega arith) is small in
    let path : (suc (suc s) - 1) * suc k ≤ (suc (suc s) - 1) * 64 = mul-le-mul_left (suc (suc s) - 1) (omega (arith, lower)) in
    omega (arith, path)

-- a search on one path of a catalog's tree
pub counts_one_path : (size height h : ℕ) (es : List (Table × ℕ)) (front : List Table) (before after : ℕ) → h ≡ height → IsHeightOf size h (length es) → listed es ≡ front → after ≤ before + (size - 1) * height
    → CountsOnePath size front before after
counts_one_path size height h es front before after same high is bound = record {
  height = height;
  is_height = subst (IsHeightOf size height) (sym (length-listed es) ∙ ap length is) (subst (λ k. IsHeightOf size k (length es)) same high);
  bound = bound;
}
