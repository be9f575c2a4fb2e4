-- Numbers of texts in a registry's list.
use Rattle.std.proofs.Common.{◌≡◌, ℕ, List, None, sym, ap, ◌∙◌, subst, ⊎_elim}
use mathlib.Core.List.{IsPrefix}
use Rattle.stabby_tables.specs.Tables.{Table}
use Rattle.stabby_registry.specs.Inserts.{IsNumber}
use Rattle.stabby_registry.specs.Laws.{NumbersStay, CallersAgree}
use Rattle.stabby_registry.proofs.Agreeing.{numbers_stay, callers_agree}
use Rattle.stabby_symbol.specs.Packed.{packed}
use Rattle.stabby_symbol.specs.Unpacked.{unpack_fault}
use Rattle.stabby_symbol.specs.Symbols.{IsText, IsTextFault}
use Rattle.stabby_symbol.specs.Laws.{TextsAgree}
use Rattle.stabby_symbol.specs.declared.unpacking.UnpackFault.{UnpackFault}
use Rattle.stabby_symbol.specs.declared.unpacking.UnpackFault.TheVariants.{Memory}
use Rattle.stabby_symbol.proofs.PackedTexts.{one_text, packed_passes}

no_other_fault : (front later : List Table) (s : List ℕ) (n : ℕ) (fault : UnpackFault) → IsPrefix front later → IsText front s n → IsTextFault later n fault → fault ≡ Memory
no_other_fault front later s n fault p a f = ⊎_elim (λ m. m) (λ x.
    let same : packed s ≡ x.0 = NumbersStay.one_table numbers_stay front later (packed s) x.0 n p (IsText.number a) x.1 in
    let none : unpack_fault x.0 ≡ None = ap unpack_fault (sym same) ∙ packed_passes s (IsText.utf8 a) in
    let some = x.2 in
    cc) f

pub texts_agree : TextsAgree
texts_agree = record {
  numbers = λ one other both s t n m p q once a b. (
    λ e. one_text s t (IsText.utf8 a) (IsText.utf8 b)
        (CallersAgree.different callers_agree one other both (packed s) (packed t) n p q (IsText.number a)
        (subst (λ (k : ℕ). IsNumber other (packed t) k) (sym e) (IsText.number b))),
    λ e. CallersAgree.equal callers_agree one other both (packed s) n m p q once (IsText.number a)
        (subst (λ (u : List ℕ). IsNumber other (packed u) m) (sym e) (IsText.number b)),
  );
  kept = λ front later s t n p a b. one_text s t (IsText.utf8 a) (IsText.utf8 b)
      (NumbersStay.one_table numbers_stay front later (packed s) (packed t) n p (IsText.number a) (IsText.number b));
  no_fault = no_other_fault;
}
