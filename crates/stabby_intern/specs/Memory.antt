-- What contracts see of a source and a sink in memory.
use Rattle.std.specs.Prelude.{◌≡◌, ℕ, ◌+◌, ◌-◌, ◌^◌, min, ◌==◌, List, length, ◌⊎◌, IsTrue}
use Rattle.std.specs.List.{list_any}
use Rattle.stabby_intern.specs.declared.memory.MemorySource.{MemorySource}
use Rattle.stabby_intern.specs.declared.memory.MemorySink.{MemorySink}

-- the call with this number is one of those that fail
abbrev pub IsTold : List ℕ → ℕ → Type 0
IsTold fails call = IsTrue (list_any (λ y. y == call) fails)

-- the number of the next call
abbrev pub next_call : ℕ → ℕ
next_call call = min (call + 1) (2 ^ 64 - 1)

-- ---- a source: the most bytes that a call gives, the numbers of the calls that fail, and the number of the next call
abbrev pub chunk_of : MemorySource → ℕ
chunk_of s = s.chunk

abbrev pub failing_of : MemorySource → List ℕ
failing_of s = s.fails.items

abbrev pub calls_of : MemorySource → ℕ
calls_of s = s.calls

-- how many bytes are left
abbrev pub left_in : MemorySource → ℕ
left_in s = length s.bytes.items - s.at

-- ---- a sink: the most bytes in all, the most that a call takes, and the numbers of the calls that fail
pub record Settings : Type 0 where
  pub room : ℕ
  pub chunk : ℕ
  pub fails : List ℕ

abbrev pub settings_of : MemorySink → Settings
settings_of s = record { room = s.room; chunk = s.chunk; fails = s.fails.items }

-- the number of the next call
abbrev pub writes_of : MemorySink → ℕ
writes_of s = s.calls

-- how many bytes it has room for
abbrev pub room_in : MemorySink → ℕ
room_in s = s.room - length s.taken.items

-- a write fails: no room is left, or the call was told to fail
abbrev pub Refuses : MemorySink → Type 0
Refuses s = (room_in s ≡ 0) ⊎ IsTold s.fails.items s.calls

-- how many of so many bytes a write takes
abbrev pub takes : MemorySink → ℕ → ℕ
takes s given = min (min given s.chunk) (room_in s)
