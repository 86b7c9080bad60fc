-- Words of 32 bits, as ciphers work on them. Assumes nothing.
use Rattle.std.specs.Prelude.{ℕ, ◌-◌, ◌*◌, ◌/◌, ◌%◌, ◌^◌}
use Rattle.std.specs.Int.Bits.{bit_or, bit_xor}

infixl 60 ◌⊕◌
-- the bits in which two words differ
abbrev pub ◌⊕◌ : ℕ → ℕ → ℕ
x ⊕ y = bit_xor x y

-- a word rotated by k places: what leaves it at one end comes in at the other
abbrev pub left : ℕ → ℕ → ℕ
left k x = bit_or ((x * 2 ^ k) % 2 ^ 32) (x / 2 ^ (32 - k))

abbrev pub right : ℕ → ℕ → ℕ
right k x = bit_or (x / 2 ^ k) ((x * 2 ^ (32 - k)) % 2 ^ 32)
