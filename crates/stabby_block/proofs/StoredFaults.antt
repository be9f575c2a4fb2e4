-- What a `RustAlloc` refuses, where the heap below refused.
use Rattle.std.proofs.Common.{◌≡◌, ◌≢◌, ℕ, true, false, true≢false, ◌<◌, ◌≤◌, ◌^◌, Err, IsErrOf, inr, ⊎_elim, refl, ap, arith}
use Rattle.std.proofs.lemmas.Result.{IfErr-at_err}
use Rattle.std.proofs.lemmas.Bool.{cases_lt}
use Rattle.stabby_layout.specs.declared.layout.Layout.{Layout}
use Rattle.stabby_block.specs.declared.block.Block.{Block}
use Rattle.stabby_block.specs.declared.block.BlockFault.{BlockFault}
use Rattle.stabby_block.specs.declared.block.BlockFault.TheVariants.{ZeroSize, Range, OverLimit, Exhausted, Memory}
use Rattle.stabby_block.specs.Blocks.{Due}
use Rattle.stabby_block.specs.Stored.{whole_layout, stored_due}

module _ (due : Due) (l : Layout) (some : 0 < l.size) (fits : (whole_layout l).size < 2 ^ 64)
    (zero_size : due (whole_layout l) ZeroSize → (whole_layout l).size ≡ 0) (g : BlockFault)
    (told : (f : BlockFault) → f ≢ Memory → (g ≡ f → due (whole_layout l) f) × (due (whole_layout l) f → g ≡ f)) where
  refused : (f : BlockFault) → f ≢ Memory → (g ≡ f → stored_due due l f) × (stored_due due l f → g ≡ f)
  refused ZeroSize other = (
    λ e. absurd (let none = zero_size ((told ZeroSize other).0 e) in omega (arith, none, some)),
    λ none. absurd (omega (arith, none, some)),
  )
  refused Range other = (
    λ e. inr (some, fits, (told Range other).0 e),
    λ d. ⊎_elim (λ large. absurd (let past = large.1 in omega (arith, past, fits))) (λ p. (told Range other).1 p.2) d,
  )
  refused (OverLimit w m) other = (λ e. (some, fits, (told (OverLimit w m) other).0 e), λ p. (told (OverLimit w m) other).1 p.2)
  refused Exhausted other = (λ e. (some, fits, (told Exhausted other).0 e), λ p. (told Exhausted other).1 p.2)
  refused Memory other = absurd (other refl)

  -- with a block handed back
  pub refused_with : (b : Block) (f : BlockFault) → f ≢ Memory
      → (IsErrOf {T = Block} {E = Block × BlockFault} (Err (b, g)) (b, f) → stored_due due l f) × (stored_due due l f → IsErrOf {T = Block} {E = Block × BlockFault} (Err (b, g)) (b, f))
  refused_with b f other =
      (λ e. (refused f other).0 (IfErr-at_err (λ p. g ≡ p.1) e refl), λ d. ap (λ h. Err (b, h)) ((refused f other).1 d))

-- below the bound, where the other way is refused
pub below_bound : (n : ℕ) → (2 ^ 64 ≤ n → true ≡ false) → n < 2 ^ 64
below_bound n past = ⊎_elim (λ lt. lt) (λ ge. absurd (true≢false (past ge))) (cases_lt n (2 ^ 64))

-- the fault alone, of a refusal that hands a block back
pub fault_alone : (due : BlockFault → Type 0) (b x : Block) (g : BlockFault) → x ≡ b
    → ((f : BlockFault) → f ≢ Memory → (IsErrOf {T = Block} {E = Block × BlockFault} (Err (x, g)) (b, f) → due f) × (due f → IsErrOf {T = Block} {E = Block × BlockFault} (Err (x, g)) (b, f)))
    → (f : BlockFault) → f ≢ Memory → (g ≡ f → due f) × (due f → g ≡ f)
fault_alone due b x g same told f other =
    (λ e. (told f other).0 (λ i. Err (same i, e i)), λ d. IfErr-at_err (λ p. g ≡ p.1) ((told f other).1 d) refl)
