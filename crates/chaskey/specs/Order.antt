-- Four words out of 16 bytes and back, the lowest byte of each word first. Assumes nothing.
use Rattle.std.specs.Prelude.{List, ◌++◌, reverse, ℕ, take, drop}
use Rattle.cipher.specs.Bytes.{highest_first, number_at}
use Rattle.chaskey.specs.declared.Words.{Words}

-- the word of the four bytes from place i on
abbrev pub word_at : ℕ → List ℕ → ℕ
word_at i bytes = number_at 4 0 (reverse (take 4 (drop i bytes)))

abbrev pub words_of : List ℕ → Words
words_of bytes = record { v0 = word_at 0 bytes; v1 = word_at 4 bytes; v2 = word_at 8 bytes; v3 = word_at 12 bytes }

abbrev pub lowest_first : ℕ → List ℕ
lowest_first v = reverse (highest_first 4 v)

abbrev pub bytes_of : Words → List ℕ
bytes_of v = lowest_first v.v0 ++ (lowest_first v.v1 ++ (lowest_first v.v2 ++ lowest_first v.v3))
