-- What a slot holds, and when it is told to be a number.
use Rattle.std.specs.Prelude.{◌≡◌, ◌↔◌, refl, ℕ, codes, Option, Some, None, IsSome, IfSome}
use Rattle.stabby_layout.specs.Report.{without_fields}
use Rattle.stabby_dyn_uses.specs.declared.slot.Content.{Content}
use Rattle.stabby_dyn_uses.specs.declared.slot.Content.TheVariants.{Byte, Number}
use Rattle.stabby_dyn_uses.specs.declared.slot.Slot.{Slot}

-- the id of the type of what is held
abbrev pub content_id : Content → ℕ
content_id (Byte byte) = 1
content_id (Number number) = 4

abbrev pub byte_of : Content → Option ℕ
byte_of (Byte byte) = Some byte
byte_of (Number number) = None

abbrev pub number_of : Content → Option ℕ
number_of (Byte byte) = None
number_of (Number number) = Some number

-- a byte in the place of the byte that is held
abbrev pub put_byte : Content → ℕ → Content
put_byte (Byte old) byte = Byte byte
put_byte (Number number) byte = Number number

-- a number in the place of the number that is held
abbrev pub put_number : Content → ℕ → Content
put_number (Byte byte) number = Byte byte
put_number (Number old) number = Number number

abbrev pub slot_with_byte : Slot → ℕ → Slot
slot_with_byte slot byte = record slot { content = put_byte slot.content byte }

abbrev pub slot_with_number : Slot → ℕ → Slot
slot_with_number slot number = record slot { content = put_number slot.content number }

-- a byte that was put is the byte that is held
pub byte_put : (content : Content) (x y : ℕ) → byte_of content ≡ Some x → byte_of (put_byte content y) ≡ Some y
byte_put (Byte byte) x y e = refl
byte_put (Number number) x y e = cc

-- a number that was put is the number that is held
pub number_put : (content : Content) (x y : ℕ) → number_of content ≡ Some x → number_of (put_number content y) ≡ Some y
number_put (Byte byte) x y e = cc
number_put (Number number) x y e = refl

-- the slot holds a number, and its report is that of numbers
abbrev pub IsNumber : Slot → Type 0
IsNumber slot = (content_id slot.content ≡ 4) × (slot.report ≡ without_fields (codes "u64"))

-- the slot holds a byte, and its report is that of bytes
abbrev pub IsByte : Slot → Type 0
IsByte slot = (content_id slot.content ≡ 1) × (slot.report ≡ without_fields (codes "u8"))

-- what is told of a slot that is asked for a number: some exactly where it is one, and then the number that it holds
pub record TellsNumber (slot : Slot) (answer : Option ℕ) : Type 0 where
  pub some : IsSome answer ↔ IsNumber slot
  pub held : IfSome answer (λ number. number_of slot.content ≡ Some number)

-- the same of a slot that is asked for a byte
pub record TellsByte (slot : Slot) (answer : Option ℕ) : Type 0 where
  pub some : IsSome answer ↔ IsByte slot
  pub held : IfSome answer (λ byte. byte_of slot.content ≡ Some byte)
