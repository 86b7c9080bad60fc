-- The cipher Chaskey: the key, twelve rounds, and the key again. Assumes nothing.
use Rattle.std.specs.Prelude.{ℕ, zero, suc, ◌+◌, ◌%◌, ◌^◌}
use Rattle.cipher.specs.declared.Block.{Block}
use Rattle.cipher.specs.declared.Key.{Key}
use Rattle.cipher.specs.Pairs.{key_bytes, block_bytes, block_of}
use Rattle.cipher.specs.Words.{◌⊕◌, left}
use Rattle.chaskey.specs.declared.Words.{Words}
use Rattle.chaskey.specs.Order.{words_of, bytes_of}

-- mixing two words x and y: x becomes their sum, modulo 2 ^ 32, and y, rotated, takes that sum in
abbrev pub plus : ℕ → ℕ → ℕ
plus x y = (x + y) % 2 ^ 32

abbrev pub mixed : ℕ → ℕ → ℕ → ℕ
mixed k x y = left k y ⊕ plus x y

-- one half of a round mixes v0 with v1 and v2 with v3, and rotates v0; the other mixes v0 with v3 and v2 with v1, and
-- rotates v2
abbrev pub first_half : Words → Words
first_half v = record {
  v0 = left 16 (plus v.v0 v.v1);
  v1 = mixed 5 v.v0 v.v1;
  v2 = plus v.v2 v.v3;
  v3 = mixed 8 v.v2 v.v3;
}

abbrev pub second_half : Words → Words
second_half v = record {
  v0 = plus v.v0 v.v3;
  v1 = mixed 7 v.v2 v.v1;
  v2 = left 16 (plus v.v2 v.v1);
  v3 = mixed 13 v.v0 v.v3;
}

unfoldable pub round_of : Words → Words
round_of v = second_half (first_half v)

abbrev pub rounds_of : ℕ → Words → Words
rounds_of zero v = v
rounds_of (suc n) v = round_of (rounds_of n v)

unfoldable pub permuted : Words → Words
permuted v = rounds_of 12 v

abbrev pub keyed : Words → Words → Words
keyed k v = record { v0 = v.v0 ⊕ k.v0; v1 = v.v1 ⊕ k.v1; v2 = v.v2 ⊕ k.v2; v3 = v.v3 ⊕ k.v3 }

abbrev pub enciphered_of : Words → Words → Words
enciphered_of k v = keyed k (permuted (keyed k v))

unfoldable pub chaskey : Key → Block → Block
chaskey k b = block_of (bytes_of (enciphered_of (words_of (key_bytes k)) (words_of (block_bytes b))))
