-- The rows of some coefficients, and of those above them. Assumes nothing.
use Rattle.std.proofs.Common.{◌≡◌, sym, ap, ap₂, ◌∙◌, ℕ, zero, suc, ◌+◌, ◌*◌, ◌/◌, ◌%◌, ◌^◌, ◌<◌, zero-add, suc-add, zero-mul, div-one, add-one, one-add, bit_xor, shr-shr}
use Rattle.std.proofs.lemmas.Nat.{xor_comm}
use Rattle.std.proofs.Math.Nat.{div-eq_of_lt}
use Rattle.std.specs.Int.Bits.{xor_zero_r, xor_assoc}
use Rattle.b63.specs.Binary.{by_z, by_z_power, rows}
use Rattle.b63.specs.Rows.{past_factor}
use Rattle.b63.specs.ByZ.{by_z_plus}
use Rattle.b63.proofs.Power.{power_plus, power_by_z}

-- the j lowest coefficients of a, and the k above them
rows_add : (j k a b : ℕ) → rows by_z (j + k) a b ≡ bit_xor (rows by_z j a b) (rows by_z k (a / 2 ^ j) (by_z_power j b))
unfolding rows by_z_power
rows_add zero k a b = ap₂ (λ (n u : ℕ). rows by_z n u b) (zero-add k) (sym (div-one a))
rows_add (suc j) k a b =
    let up : a / 2 / 2 ^ j ≡ a / 2 ^ suc j = shr-shr a 1 j ∙ ap (λ (n : ℕ). a / 2 ^ n) (one-add j) in
    ap (λ (n : ℕ). rows by_z n a b) (suc-add j k)
    ∙ ap (bit_xor ((a % 2) * b)) (rows_add j k (a / 2) (by_z b))
    ∙ sym (xor_assoc ((a % 2) * b) (rows by_z j (a / 2) (by_z b)) (rows by_z k (a / 2 / 2 ^ j) (by_z_power j (by_z b))))
    ∙ ap (λ (u : ℕ). bit_xor (rows by_z (suc j) a b) (rows by_z k u (by_z_power (suc j) b))) up

-- one more row, of the next coefficient up
pub rows_push : (j a b : ℕ) → rows by_z (suc j) a b ≡ bit_xor (rows by_z j a b) ((a / 2 ^ j % 2) * by_z_power j b)
unfolding rows
rows_push j a b =
    ap (λ (n : ℕ). rows by_z n a b) (sym (add-one j))
    ∙ rows_add j 1 a b
    ∙ ap (bit_xor (rows by_z j a b)) (xor_zero_r ((a / 2 ^ j % 2) * by_z_power j b))

-- a has no coefficient from z^k up
pub rows_spare : (k a b : ℕ) → a < 2 ^ k → rows by_z (suc k) a b ≡ rows by_z k a b
rows_spare k a b h = rows_push k a b ∙ simp (div-eq_of_lt h, zero-mul, xor_zero_r)

-- one turn: z^j times what the coefficients above give, and the next j of them
pub window_more : (j k a b : ℕ)
    → bit_xor (by_z_power j (rows by_z k (a / 2 ^ j) b)) (rows by_z j a b) ≡ rows by_z (j + k) a b
window_more j k a b =
    xor_comm (by_z_power j (rows by_z k (a / 2 ^ j) b)) (rows by_z j a b)
    ∙ ap (bit_xor (rows by_z j a b)) (past_factor by_z by_z_plus (by_z_power j) (power_plus j) (power_by_z j) k (a / 2 ^ j) b)
    ∙ sym (rows_add j k a b)
