-- The product of two elements is what the modulus leaves of the product of the polynomials. Assumes nothing.
use Rattle.std.proofs.Common.{◌≡◌, refl, sym, ap, ap₂, ◌∙◌, ℕ, zero, suc, ◌+◌, ◌*◌, ◌/◌, ◌%◌, ◌^◌, ◌<◌, arith, bit_xor}
use Rattle.b63.specs.Binary.{by_z, rows, times63, modulus, Remainder}
use Rattle.b63.specs.Xor.{in_order, double_plus}
use Rattle.b63.specs.Rows.{rows_suc}
use Rattle.b63.specs.ByZ.{by_z_plus}
use Rattle.b63.specs.Product.{rows_lt}

abbrev school : ℕ → ℕ → ℕ → ℕ
school k a b = rows (λ x. x * 2) k a b

school_suc : (k a b : ℕ) → school (suc k) a b ≡ bit_xor ((a % 2) * b) (school k (a / 2) b * 2)
school_suc = rows_suc (λ x. x * 2) double_plus

-- a quotient with one coefficient more, the lowest
quotient_suc : (k q n : ℕ)
    → school (suc k) (q * 2 + n % 2) modulus ≡ bit_xor ((n % 2) * modulus) (school k q modulus * 2)
quotient_suc k q n =
    let last : (q * 2 + n % 2) % 2 ≡ n % 2 = omega arith in
    let rest : (q * 2 + n % 2) / 2 ≡ q = omega arith in
    school_suc k (q * 2 + n % 2) modulus
    ∙ ap₂ (λ (u v : ℕ). bit_xor (u * modulus) (school k v modulus * 2)) last rest

-- twice r is z times r, and the modulus where a coefficient came to z^63
twice : (p s r : ℕ)
    → bit_xor p (bit_xor s r * 2) ≡ bit_xor (bit_xor ((r / 2 ^ 62 % 2) * modulus) (s * 2)) (bit_xor p (by_z r))
unfolding by_z
twice p s r = ap (bit_xor p) (double_plus s r) ∙ simp in_order

away : (k a b : ℕ) → (q : ℕ) × (school k a b ≡ bit_xor (school k q modulus) (rows by_z k a b))
away zero a b = (0, unfold rows in refl)
away (suc k) a b =
    let (q, is) = away k (a / 2) b in
    let r : ℕ = rows by_z k (a / 2) b in
    let sum = ap₂ bit_xor (quotient_suc k q (r / 2 ^ 62)) (rows_suc by_z by_z_plus k a b) in (
      q * 2 + r / 2 ^ 62 % 2,
      school_suc k a b
          ∙ ap (λ (u : ℕ). bit_xor ((a % 2) * b) (u * 2)) is
          ∙ twice ((a % 2) * b) (school k q modulus) r
          ∙ sym sum,
    )

pub remainder63 : (a b : ℕ) → b < 2 ^ 63 → Remainder a b (times63 a b)
remainder63 a b h = let (q, is) = away 63 a b in record { below = rows_lt 63 a b h; quotient = q; is = is }
