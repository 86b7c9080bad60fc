-- The MAC Chaskey-12, on numbers of 128 bits whose first byte is the lowest. Assumes nothing.
use Rattle.std.specs.Prelude.{ℕ, zero, suc, ◌+◌, ◌-◌, ◌*◌, ◌/◌, ◌%◌, ◌^◌, Bool, cond, List, reverse, length, ◌==◌, nat_lt, slice_index}
use Rattle.cipher.specs.declared.Block.{Block}
use Rattle.cipher.specs.Bytes.{highest_first}
use Rattle.cipher.specs.Pairs.{key_of, block_of}
use Rattle.cipher.specs.Words.{◌⊕◌}
use Rattle.chaskey.specs.declared.Words.{Words}
use Rattle.chaskey.specs.Chaskey.{permuted, chaskey}

-- the product with x, as polynomials over the bits modulo x ^ 128 + x ^ 7 + x ^ 2 + x + 1
abbrev pub doubled : ℕ → ℕ
doubled a = (a * 2 % 2 ^ 128) ⊕ (a / 2 ^ 127 * 0x87)

-- the words of a number, the lowest first
abbrev pub word : ℕ → ℕ → ℕ
word n place = n / 2 ^ place % 2 ^ 32

abbrev pub words_of : ℕ → Words
words_of n = record { v0 = word n 0; v1 = word n 32; v2 = word n 64; v3 = word n 96 }

abbrev pub number_of : Words → ℕ
number_of v = v.v0 + v.v1 * 2 ^ 32 + v.v2 * 2 ^ 64 + v.v3 * 2 ^ 96

unfoldable pub permuted_number : ℕ → ℕ
permuted_number n = number_of (permuted (words_of n))

-- a message and, behind it, a byte 1 and zeros
abbrev pub byte_at : List ℕ → ℕ → ℕ
byte_at message i = cond (nat_lt i (length message)) (slice_index message i) (cond (i == length message) 1 0)

-- the word of the four bytes from place i on, the first of them the lowest
abbrev pub word_at : List ℕ → ℕ → ℕ
word_at message i =
    byte_at message i
    + byte_at message (i + 1) * 2 ^ 8
    + byte_at message (i + 2) * 2 ^ 16
    + byte_at message (i + 3) * 2 ^ 24

unfoldable pub block_at : List ℕ → ℕ → ℕ
block_at message i = number_of record {
  v0 = word_at message i;
  v1 = word_at message (i + 4);
  v2 = word_at message (i + 8);
  v3 = word_at message (i + 12);
}

-- the state after n blocks
abbrev pub after : ℕ → List ℕ → ℕ → ℕ
after key message zero = key
after key message (suc n) = permuted_number (after key message n ⊕ block_at message (16 * n))

-- the key of the last block: doubled once where the block is whole, twice where it is filled up
abbrev pub subkey_of : ℕ → Bool → ℕ
subkey_of key whole = cond whole (doubled key) (doubled (doubled key))

abbrev pub lowest_first : ℕ → List ℕ
lowest_first n = reverse (highest_first 16 n)

-- n blocks stand before the last, which goes through the cipher
abbrev pub last_of : ℕ → List ℕ → ℕ → Block
last_of key message n =
    chaskey
    (key_of (lowest_first (subkey_of key (length message == 16 * n + 16))))
    (block_of (lowest_first (after key message n ⊕ block_at message (16 * n))))

unfoldable pub mac_of : ℕ → List ℕ → Block
mac_of key message = last_of key message ((length message - 1) / 16)
