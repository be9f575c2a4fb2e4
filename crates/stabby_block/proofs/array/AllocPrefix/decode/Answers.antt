use Rattle.std.proofs.Common.{◌≡◌, ap, ◌∙◌, rules}
use Rattle.stabby_block.specs.declared.array.AllocPrefix.{AllocPrefix}
use Rattle.stabby_block.specs.ArrayPrefix.{prefix_of}
use Rattle.stabby_block.proofs.PrefixLemmas.{prefix_read_back}
use Rattle.stabby_block.proofs.array.AllocPrefix.decode.Goals as goal

pub returns-clause-undoes : goal.returns-clause-undoes
returns-clause-undoes c prefix fits is =
    let read : AllocPrefix = record {
      strong = c.read_number.result;
      weak = c.read_number-2.result;
      capacity = c.read_number-3.result;
      origin = c.read_number-4.result;
    } in
    let same : read ≡ prefix_of c.args.bytes.now = search rules in
    same ∙ ap prefix_of is ∙ prefix_read_back prefix fits
