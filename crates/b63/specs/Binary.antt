-- B63: polynomials in z over the field of two elements, modulo z^63 + z + 1. Bit i of a number is the coefficient of
-- z^i. Assumes nothing.
use Rattle.std.specs.Prelude.{◌≡◌, ℕ, zero, suc, ◌+◌, ◌*◌, ◌/◌, ◌%◌, ◌^◌, ◌<◌}
use Rattle.std.specs.Int.Bits.{bit_xor}
use Rattle.field.specs.Model.{Model}

-- the element that a working number means: its low 63 bits
abbrev pub means63 : ℕ → ℕ
means63 x = x % 2 ^ 63

-- coefficients are added modulo 2
abbrev pub plus : ℕ → ℕ → ℕ
plus a b = bit_xor a b

-- z^63 + z + 1
abbrev pub modulus : ℕ
modulus = 2 ^ 63 + 2 + 1

-- z times an element: each coefficient moves up one place, and where one comes to z^63 the modulus is taken away
unfoldable pub by_z : ℕ → ℕ
by_z a = plus (a * 2) ((a / 2 ^ 62 % 2) * modulus)

-- z^j times an element
unfoldable pub by_z_power : ℕ → ℕ → ℕ
by_z_power zero a = a
by_z_power (suc j) a = by_z_power j (by_z a)

-- a product by rows, where `up` takes a number times z: for each of the k lowest coefficients of a, from the constant
-- one up, the coefficient times b, and then z times b in place of b
unfoldable pub rows : (ℕ → ℕ) → ℕ → ℕ → ℕ → ℕ
rows up zero a b = 0
rows up (suc k) a b = plus ((a % 2) * b) (rows up k (a / 2) (up b))

abbrev pub times63 : ℕ → ℕ → ℕ
times63 a b = rows by_z 63 a b

abbrev pub b63 : Model
b63 = record {
  size = 2 ^ 63;
  means = means63;
  plus = plus;
  times = times63;
  -- each element is its own negative
  neg = λ a. a;
}

-- the product of the polynomials themselves, of which a has at most 63 coefficients
abbrev pub schoolbook : ℕ → ℕ → ℕ
schoolbook a b = rows (λ x. x * 2) 63 a b

-- r is what the modulus leaves of a times b: its degree is below 63, and the product is r and a multiple of the modulus
pub record Remainder (a b r : ℕ) : Type 0 where
  pub below : r < 2 ^ 63
  pub quotient : ℕ
  pub is : schoolbook a b ≡ plus (schoolbook quotient modulus) r
