use Rattle.stabby_block.proofs.PrefixLemmas.{multiple_is_least}
use Rattle.stabby_block.proofs.prefix.skip_past_prefix.Goals as goal

pub returns : goal.returns
returns c =
    let std = c.next_multiple_of.ensures in
    multiple_is_least c.args.align 32 c.next_multiple_of.result c.requires std.lower_bound std.upper_bound std.multiple
