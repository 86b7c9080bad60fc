-- A power of z times an element. Assumes nothing.
use Rattle.std.proofs.Common.{◌≡◌, refl, sym, ap, ap₂, ◌∙◌, ℕ, zero, suc, ◌+◌, ◌-◌, ◌*◌, ◌/◌, ◌%◌, ◌^◌, ◌≤◌, ◌<◌, zero-add, suc-add, mul-one, mul_assoc, mod-lt, pow-suc, arith, bit_xor, pow_pos, pow_mono, shr_lt}
use Rattle.std.proofs.Math.Nat.{pow-succ'}
use Rattle.std.specs.Int.Bits.{xor_shifted}
use Rattle.std.proofs.Math.Pow.{split}
use Rattle.b63.specs.Binary.{by_z, by_z_power}
use Rattle.b63.specs.Xor.{Additive, in_order}
use Rattle.b63.specs.Rows.{past_factor, rows_up}
use Rattle.b63.specs.ByZ.{by_z_plus, by_z_short}
use Rattle.b63.specs.Product.{times_plus, times_one}

pub power_plus : (j : ℕ) → Additive (by_z_power j)
unfolding by_z_power
power_plus zero x y = refl
power_plus (suc j) x y = ap (by_z_power j) (by_z_plus x y) ∙ power_plus j (by_z x) (by_z y)

pub power_by_z : (j x : ℕ) → by_z_power j (by_z x) ≡ by_z (by_z_power j x)
unfolding by_z_power
power_by_z zero x = refl
power_by_z (suc j) x = power_by_z j (by_z x)

power_add : (j k x : ℕ) → by_z_power (j + k) x ≡ by_z_power k (by_z_power j x)
unfolding by_z_power
power_add zero k x = ap (λ (n : ℕ). by_z_power n x) (zero-add k)
power_add (suc j) k x = ap (λ (n : ℕ). by_z_power n x) (suc-add j k) ∙ power_add j k (by_z x)

-- short of the top, a power of z only moves the coefficients
power_short : (i j a : ℕ) → i + j ≡ 63 → a < 2 ^ i → by_z_power j a ≡ a * 2 ^ j
unfolding by_z_power
power_short i zero a all h = sym (mul-one a)
power_short i (suc j) a all h =
    let few : i ≤ 62 = omega arith in
    let most = pow_mono few in
    let room = pow-suc 2 i in
    ap (by_z_power j) (by_z_short a (omega arith))
    ∙ power_short (suc i) j (a * 2) (omega arith) (omega arith)
    ∙ mul_assoc a 2 (2 ^ j)
    ∙ ap (λ (n : ℕ). a * n) (sym (pow-succ' 2 j))

-- z^63 is z + 1
power_63 : (a : ℕ) → a < 2 ^ 63 → by_z_power 63 a ≡ bit_xor a (by_z a)
unfolding by_z_power by_z
power_63 a h =
    ap (by_z_power 63) (sym (times_one a h))
    ∙ past_factor by_z by_z_plus (by_z_power 63) (power_plus 63) (power_by_z 63) 63 a 1
    ∙ times_plus a 1 (by_z 1)
    ∙ ap₂ bit_xor (times_one a h) (rows_up by_z by_z_plus 63 a 1 ∙ ap by_z (times_one a h))

-- the j highest coefficients come to z^63 and above, so to z + 1 times as much at the bottom
pub power_parts : (j x : ℕ) → j < 63 → x < 2 ^ 63
    → by_z_power j x ≡ bit_xor (bit_xor ((x % 2 ^ (63 - j)) * 2 ^ j) (x / 2 ^ (63 - j))) (x / 2 ^ (63 - j) * 2)
power_parts j x few h =
    let i : ℕ = 63 - j in
    let top : ℕ = x / 2 ^ i in
    let low : ℕ = x % 2 ^ i in
    let all : i + j ≡ 63 = omega arith in
    let all_too : j + i ≡ 63 = omega arith in
    let low_lt : low < 2 ^ i = mod-lt x (pow_pos i) in
    let top_lt : top < 2 ^ j = shr_lt j i (rw all_too h) in
    let most : j ≤ 62 = omega arith in
    let short : top < 2 ^ 62 = omega (arith, pow_mono most) in
    let whole : bit_xor (top * 2 ^ i) low ≡ x = xor_shifted top i low low_lt ∙ split x i in
    let over : by_z_power j (top * 2 ^ i) ≡ bit_xor top (by_z top) =
    ap (by_z_power j) (sym (power_short j i top all_too top_lt))
    ∙ sym (power_add i j top)
    ∙ ap (λ (n : ℕ). by_z_power n top) all
    ∙ power_63 top (omega arith) in
    ap (by_z_power j) (sym whole)
    ∙ power_plus j (top * 2 ^ i) low
    ∙ ap₂ bit_xor (over ∙ ap (bit_xor top) (by_z_short top short)) (power_short i j low all low_lt)
    ∙ (simp in_order)
