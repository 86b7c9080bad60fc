-- A product from the highest coefficients down, four at a time: one turn. Assumes nothing.
use Rattle.std.proofs.Common.{◌≡◌, sym, ap, ap₂, ◌∙◌, ℕ, ◌+◌, ◌-◌, ◌*◌, ◌/◌, ◌%◌, ◌^◌, ◌≤◌, ◌<◌, arith, bit_xor, shr-shr}
use Rattle.b63.specs.Binary.{by_z, by_z_power, rows}
use Rattle.b63.proofs.Window.{rows_push, window_more}

first_row : (a b : ℕ) → rows by_z 1 a b ≡ (a / 2 ^ 0 % 2) * b
unfolding rows by_z_power
first_row a b = rows_push 0 a b

-- the rows of the four lowest coefficients of a, from b and z, z^2 and z^3 times b
pub four_rows : (a b : ℕ) {bz bz2 bz3 r0 r1 r2 r3 : ℕ}
    → bz ≡ by_z_power 1 b → bz2 ≡ by_z_power 2 b → bz3 ≡ by_z_power 3 b
    → r0 ≡ (a / 2 ^ 0 % 2) * b → r1 ≡ (a / 2 ^ 1 % 2) * bz → r2 ≡ (a / 2 ^ 2 % 2) * bz2 → r3 ≡ (a / 2 ^ 3 % 2) * bz3
    → bit_xor (bit_xor (bit_xor r0 r1) r2) r3 ≡ rows by_z 4 a b
four_rows a b is1 is2 is3 e0 e1 e2 e3 = cc (rows_push 3 a b, rows_push 2 a b, rows_push 1 a b, first_row a b)

-- from the coefficients of x from z^(4 * i) up, to those from four places lower up
pub four_more : (i x y : ℕ) {r raised fours : ℕ} → 0 < i → i ≤ 16
    → r ≡ rows by_z (64 - 4 * i) (x / 2 ^ (4 * i)) y
    → raised ≡ by_z_power 4 r → fours ≡ rows by_z 4 (x / 2 ^ (4 * (i - 1))) y
    → bit_xor raised fours ≡ rows by_z (64 - 4 * (i - 1)) (x / 2 ^ (4 * (i - 1))) y
four_more i x y some few above by_four next =
    let k : ℕ = 64 - 4 * i in
    let from : ℕ = 4 * (i - 1) in
    let there : 4 * i ≡ from + 4 = omega arith in
    let more : 4 + k ≡ 64 - from = omega arith in
    let up : x / 2 ^ (4 * i) ≡ x / 2 ^ from / 2 ^ 4 = ap (λ (n : ℕ). x / 2 ^ n) there ∙ sym (shr-shr x from 4) in
    ap₂ bit_xor (by_four ∙ ap (by_z_power 4) (above ∙ ap (λ (u : ℕ). rows by_z k u y) up)) next
    ∙ window_more 4 k (x / 2 ^ from) y
    ∙ ap (λ (n : ℕ). rows by_z n (x / 2 ^ from) y) more
