-- z times an element. Assumes nothing.
use Rattle.std.specs.Prelude.{◌≡◌, ℕ, ◌+◌, ◌*◌, ◌/◌, ◌%◌, ◌^◌, ◌<◌}
use Rattle.std.proofs.Common.{ap, ap₂, ◌∙◌, zero-add, mod-lt, arith, lit<}
use Rattle.std.specs.Int.Bits.{bit_xor, xor_zero_r, xor_self}
use Rattle.std.proofs.lemmas.Nat.{xor_lt, xor_block}
use Rattle.b63.specs.Binary.{by_z, modulus}
use Rattle.b63.specs.Xor.{Additive, in_order, double_plus}
use Rattle.b63.specs.Bit.{bits_plus, bit_lt, xor_bit}

pub by_z_plus : Additive by_z
unfolding by_z
by_z_plus a b =
    ap₂ bit_xor (double_plus a b)
    (ap (λ (d : ℕ). d * modulus) (xor_bit a b 62) ∙ bits_plus (a / 2 ^ 62) (b / 2 ^ 62) modulus)
    ∙ simp in_order

-- short of the top coefficient, z only moves the others
pub by_z_short : (a : ℕ) → a < 2 ^ 62 → by_z a ≡ a * 2
unfolding by_z
by_z_short a h =
    let none : (a / 2 ^ 62 % 2) * modulus ≡ 0 = omega arith in
    ap (bit_xor (a * 2)) none ∙ xor_zero_r (a * 2)

-- what comes to z^63 falls away against the modulus's own z^63
pub by_z_lt : (a : ℕ) → a < 2 ^ 63 → by_z a < 2 ^ 63
unfolding by_z
by_z_lt a h =
    let t : ℕ = a / 2 ^ 62 % 2 in
    let m : ℕ = a * 2 % 2 ^ 63 in
    let low : m < 2 ^ 63 = mod-lt (a * 2) (lit< tt) in
    let three : t * 3 < 2 ^ 63 = bit_lt (a / 2 ^ 62) 3 (2 ^ 63) (lit< tt) in
    let parts : a * 2 ≡ t * 2 ^ 63 + m = omega arith in
    let modulus_parts : t * modulus ≡ t * 2 ^ 63 + t * 3 = omega arith in
    let folded = xor_block 63 t t m (t * 3) low three in
    rw (parts, modulus_parts, folded, xor_self t, zero-add) (xor_lt 63 m (t * 3) low three)
