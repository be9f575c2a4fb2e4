use Rattle.std.proofs.Common.{ap, sym, subst}
use Rattle.std.specs.Str.{IsUtf8}
use Rattle.stabby_text.proofs.TextLemmas.{concat_utf8}
use Rattle.stabby_text.proofs.strings.String.try_concat.Goals as goal

pub invariant_of-self-2 : goal.invariant_of-self-2
invariant_of-self-2 g c =
    let e = ap (λ s. s.items) c.in_ok-try_copy_extend.ensures.ok in
    let text = concat_utf8 c.self.inside.bytes.items c.as_bytes.result.now c.self.invariant c.as_bytes.ensures.utf8 in
    subst IsUtf8 (sym e) text
