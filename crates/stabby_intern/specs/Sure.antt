-- What contracts see of a source and a sink that never fail.
use Rattle.std.specs.Prelude.{ℕ, ◌-◌, List, length}
use Rattle.stabby_intern.specs.declared.sure.SureSource.{SureSource}
use Rattle.stabby_intern.specs.declared.sure.SureSink.{SureSink}

-- how many bytes a source has left
abbrev pub rest_in : SureSource → ℕ
rest_in s = length s.bytes.items - s.at

-- the bytes that a sink keeps, and the most that it keeps
abbrev pub kept_of : SureSink → List ℕ
kept_of s = s.taken.items

abbrev pub room_of : SureSink → ℕ
room_of s = s.room
