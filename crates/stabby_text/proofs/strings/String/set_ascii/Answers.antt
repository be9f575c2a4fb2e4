use Rattle.std.proofs.Common.{set, rules, length-set}
use Rattle.stabby_text.proofs.TextLemmas.{set_ascii_utf8, refill_whole}
use Rattle.stabby_text.proofs.strings.String.set_ascii.Goals as goal

pub invariant_of-self : goal.invariant_of-self
invariant_of-self g c =
    let bs = c.self.inside.bytes.items in
    let text = set_ascii_utf8 bs c.args.at c.args.byte c.self.invariant (search rules) (search rules) c.requires.new_ascii in
    rw (c.as_slice_mut.ensures.value, refill_whole bs (set bs c.args.at c.args.byte) (length-set bs c.args.at c.args.byte)) text
