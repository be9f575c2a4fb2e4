-- At most one fault of a ledger is due at a time, so the one that is answered is the one that is due.
use Rattle.std.proofs.Common.{◌≡◌, ◌<◌, ◌≤◌, ◌+◌, ℕ, Err, IsErrOf, refl, sym, ap, ◌∙◌, arith}
use Rattle.std.proofs.lemmas.Result.{IfErr-at_err}
use Rattle.stabby_layout.specs.declared.layout.Layout.{Layout}
use Rattle.stabby_block.specs.declared.block.BlockFault.{BlockFault}
use Rattle.stabby_block.specs.declared.block.BlockFault.TheVariants.{ZeroSize, Range, OverLimit, Exhausted, Memory}
use Rattle.stabby_block.specs.declared.ledger.Ledger.{Ledger}
use Rattle.stabby_block.specs.Ledgers.{ledger_due, limit_of, used_of}

same_over : (w x l m : ℕ) → w ≡ x → l ≡ m → OverLimit w l ≡ OverLimit x m
same_over w x l m p q = λ i. OverLimit (p i) (q i)

pub one_due : (l : Ledger) (x : Layout) (f g : BlockFault) → ledger_due l x f → ledger_due l x g → f ≡ g
one_due l x ZeroSize ZeroSize d e = refl
one_due l x ZeroSize (OverLimit w m) d e = absurd (let some : 0 < x.size = e.0 in omega (arith, d, some))
one_due l x ZeroSize Exhausted d e = absurd (let some : 0 < x.size = e.0 in omega (arith, d, some))
one_due l x (OverLimit w m) ZeroSize d e = absurd (let some : 0 < x.size = d.0 in omega (arith, e, some))
one_due l x (OverLimit w m) (OverLimit v k) d e = same_over w v m k (d.2 ∙ sym e.2) (d.3 ∙ sym e.3)
one_due l x (OverLimit w m) Exhausted d e = absurd (let over : limit_of l < used_of l + x.size = d.1 in let fits : used_of l + x.size ≤ limit_of l = e.1 in omega (arith, over, fits))
one_due l x Exhausted ZeroSize d e = absurd (let some : 0 < x.size = d.0 in omega (arith, e, some))
one_due l x Exhausted (OverLimit w m) d e = absurd (let over : limit_of l < used_of l + x.size = e.1 in let fits : used_of l + x.size ≤ limit_of l = d.1 in omega (arith, over, fits))
one_due l x Exhausted Exhausted d e = refl
one_due l x Range g d e = absurd d
one_due l x Memory g d e = absurd d
one_due l x ZeroSize Range d e = absurd e
one_due l x ZeroSize Memory d e = absurd e
one_due l x (OverLimit w m) Range d e = absurd e
one_due l x (OverLimit w m) Memory d e = absurd e
one_due l x Exhausted Range d e = absurd e
one_due l x Exhausted Memory d e = absurd e

-- a refusal that is due is answered exactly where it is due
pub answered : {T : Type 0} (l : Ledger) (x : Layout) (g f : BlockFault) → ledger_due l x g
    → (IsErrOf {T = T} (Err g) f → ledger_due l x f) × (ledger_due l x f → IsErrOf {T = T} (Err g) f)
answered l x g f d = (λ e. IfErr-at_err (ledger_due l x) e d, λ d'. ap Err (one_due l x g f d d'))

pub answered_with : {T B : Type 0} (b : B) (l : Ledger) (x : Layout) (g f : BlockFault) → ledger_due l x g
    → (IsErrOf {T = T} {E = B × BlockFault} (Err (b, g)) (b, f) → ledger_due l x f) × (ledger_due l x f → IsErrOf {T = T} {E = B × BlockFault} (Err (b, g)) (b, f))
answered_with b l x g f d = (λ e. IfErr-at_err (λ p. ledger_due l x p.1) e d, λ d'. ap (λ h. Err (b, h)) (one_due l x g f d d'))
