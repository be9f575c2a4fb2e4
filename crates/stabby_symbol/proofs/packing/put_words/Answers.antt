use Rattle.std.proofs.Common.{◌<◌, length, arith}
use Rattle.std.proofs.lemmas.Bool.Decides.{nat_tests}
use Rattle.stabby_symbol.proofs.PackedTexts.{word_put}
use Rattle.stabby_symbol.proofs.packing.put_words.Goals as goal

pub loop-rest-preserved : goal.loop-rest-preserved
loop-rest-preserved c =
    let some : 0 < length c.loop-rest.rest.now = grind (arith, nat_tests) in
    word_put c.loop-rest.out.items c.push.new.self.items _ c.loop-rest.rest.now c.split_at.result.0.now c.split_at.result.1.now c.min.result c.word_of.result
    c.in_ok-push.ensures.items c.word_of.ensures c.split_at.ensures.front c.split_at.ensures.back some c.min.ensures c.loop-rest.invariant
