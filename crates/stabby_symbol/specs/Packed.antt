-- A text as a table of words: its length in bytes, and then its bytes, eight a word.
use Rattle.std.specs.Prelude.{ℕ, zero, suc, ◌-◌, List, [], ◌∷◌, ◌++◌, length, take, drop, replicate}
use Rattle.std.specs.Int.{to_le_bytes, from_le_bytes, w64, div_ceil}

-- how many words so many bytes take
abbrev pub words_for : ℕ → ℕ
words_for n = div_ceil n 8

-- at most eight bytes as a word, the first lowest, with zeros after the last
abbrev pub word_of : List ℕ → ℕ
word_of bytes = from_le_bytes w64 (bytes ++ replicate (8 - length bytes) 0)

-- so many words, each of the next eight bytes
abbrev pub words_of : ℕ → List ℕ → List ℕ
words_of zero bytes = []
words_of (suc n) bytes = word_of (take 8 bytes) ∷ words_of n (drop 8 bytes)

-- the length in bytes, and then the bytes
abbrev pub packed : List ℕ → List ℕ
packed text = length text ∷ words_of (words_for (length text)) text

-- the bytes of words
abbrev pub bytes_in : List ℕ → List ℕ
bytes_in [] = []
bytes_in (w ∷ ws) = to_le_bytes w64 w ++ bytes_in ws
