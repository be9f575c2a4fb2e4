-- What a conversion keeps.
use Rattle.std.specs.Prelude.{◌≡◌}

-- the same pointee beside it, the table is the rest of the one before, and its drop entry is that one's
abbrev pub Keeps : {Table Entry : Type 0} → Type 0 → (Table → Entry) → Table → Table → Type 0
Keeps Pointee drop_entry after before = Pointee × (after ≡ before) × (drop_entry after ≡ drop_entry before)
