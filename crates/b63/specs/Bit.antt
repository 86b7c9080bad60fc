-- A coefficient, the remainder of a number by two, times a number. Assumes nothing.
use Rattle.std.specs.Prelude.{◌≡◌, ℕ, zero, suc, ◌*◌, ◌/◌, ◌%◌, ◌^◌, ◌<◌}
use Rattle.std.proofs.Common.{ap, ◌∙◌, zero-mul, one-mul, mod-lt, arith, lit<}
use Rattle.std.specs.Int.Bits.{bit_xor, xor_zero_r, xor_self}
use Rattle.std.proofs.lemmas.Nat.{xor_shr, xor_mod}
use Rattle.b63.specs.Xor.{Additive, keeps_zero}

-- a coefficient is 0 or 1
pub by_bit : (P : ℕ → Type 0) → P 0 → P 1 → (n : ℕ) → P (n % 2)
by_bit P none one n = go (n % 2) (mod-lt n (lit< tt))
  where
    go : (d : ℕ) → d < 2 → P d
    go zero h = none
    go (suc zero) h = one
    go (suc (suc d)) h = absurd (omega arith)

pub bit_plus : (n : ℕ) → Additive (λ x. (n % 2) * x)
bit_plus n x y = by_bit (λ d. d * bit_xor x y ≡ bit_xor (d * x) (d * y)) (simp zero-mul) (simp one-mul) n

pub past_bit : (F : ℕ → ℕ) → Additive F → (n v : ℕ) → F ((n % 2) * v) ≡ (n % 2) * F v
past_bit F plus n v = by_bit (λ d. F (d * v) ≡ d * F v) (simp (zero-mul, keeps_zero F plus)) (simp one-mul) n

pub bits_plus : (m n v : ℕ) → bit_xor (m % 2) (n % 2) * v ≡ bit_xor ((m % 2) * v) ((n % 2) * v)
bits_plus m n v =
    by_bit (λ d. bit_xor d (n % 2) * v ≡ bit_xor (d * v) ((n % 2) * v))
    (simp zero-mul)
    (by_bit (λ e. bit_xor 1 e * v ≡ bit_xor (1 * v) (e * v)) (simp (zero-mul, xor_zero_r)) (simp (zero-mul, xor_self)) n)
    m

pub bit_lt : (n x m : ℕ) → x < m → (n % 2) * x < m
bit_lt n x m h = by_bit (λ d. d * x < m) (simp zero-mul (omega arith)) (simp one-mul h) n

pub xor_bit : (a b k : ℕ) → bit_xor a b / 2 ^ k % 2 ≡ bit_xor (a / 2 ^ k % 2) (b / 2 ^ k % 2)
xor_bit a b k = ap (λ (x : ℕ). x % 2) (xor_shr a b k) ∙ xor_mod (a / 2 ^ k) (b / 2 ^ k) 1
