use Rattle.std.proofs.Common.{◌≡◌, take}
use Rattle.word_index.specs.Listing.{listing_of}
use Rattle.word_index.proofs.listing.make_listing.Given as goal

abbrev pub invariant-loop-word : goal.invariant-loop-word
invariant-loop-word l = l.out.items ≡ listing_of l.task (take l.word-index l.word-items)
