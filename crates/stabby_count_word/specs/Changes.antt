-- How an exchange changes the counts of a word, and with them the right of its share.
use Rattle.std.specs.Prelude.{◌≡◌, ℕ, ◌+◌, ◌<◌}
use Rattle.stabby_count_word.specs.Kinds.{Kind, one_strong, two_strong, last, one_weak, strong_and_weak, two_weak}
use Rattle.stabby_count_word.specs.Rights.{strong_half, weak_half}

pub data Change : Type 0 where
  -- a strong share becomes two
  clone : Change
  -- a strong share gets a weak one beside it
  downgrade : Change
  -- a weak share becomes two
  clone_weak : Change
  -- a weak share gets a strong one beside it
  upgrade : Change
  -- the one strong share ends where no weak one is there
  end_sole : Change

abbrev pub kind_before : Change → Kind
kind_before clone = one_strong
kind_before downgrade = one_strong
kind_before clone_weak = one_weak
kind_before upgrade = one_weak
kind_before end_sole = one_strong

abbrev pub kind_after : Change → Kind
kind_after clone = two_strong
kind_after downgrade = strong_and_weak
kind_after clone_weak = two_weak
kind_after upgrade = strong_and_weak
kind_after end_sole = last

-- the words between which it changes the counts
abbrev pub MayChange : Change → ℕ → ℕ → Type 0
MayChange clone old new = (0 < strong_half old) × (strong_half old < 4294967295) × (new ≡ old + 4294967296)
MayChange downgrade old new = (weak_half old < 4294967295) × (new ≡ old + 1)
MayChange clone_weak old new = (weak_half old < 4294967295) × (new ≡ old + 1)
MayChange upgrade old new = (0 < strong_half old) × (strong_half old < 4294967295) × (new ≡ old + 4294967296)
MayChange end_sole old new = (old ≡ 4294967297) × (new ≡ 1)
