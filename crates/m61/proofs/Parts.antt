-- A product in parts, and a sum in which one number stands for another that means the same. Assumes nothing.
use Rattle.std.proofs.Common.{◌≡◌, ℕ, ◌+◌, ◌*◌, ◌%◌, sym, ap, ◌∙◌, mul_assoc, add-mul, mul-add, mul_right_comm, arith}
use Rattle.std.proofs.Math.Nat.{mul-mul-mul_comm}
use Rattle.m61.specs.Mersenne.{prime, means61}
use Rattle.field.proofs.Modular.{mod_plus_mod}

-- the product of two numbers in parts of base k
pub parts_product : (a b c d k : ℕ) → (a * k + b) * (c * k + d) ≡ a * c * (k * k) + (a * d + b * c) * k + b * d
parts_product a b c d k =
    let e1 = add-mul (a * k) b (c * k + d) in
    let e2 = mul-add (a * k) (c * k) d in
    let e3 = mul-add b (c * k) d in
    let e4 = mul-mul-mul_comm a k c k in
    let e5 = mul_right_comm a k d in
    let e6 = mul_assoc b c k in
    let e7 = add-mul (a * d) (b * c) k in
    omega arith

-- in a sum, a number may stand for another that means the same
pub plus_same : (a b c : ℕ) → means61 b ≡ means61 c → means61 (a + b) ≡ means61 (a + c)
plus_same a b c same =
    sym (mod_plus_mod prime a b)
    ∙ ap (λ (u : ℕ). (a % prime + u) % prime) same
    ∙ mod_plus_mod prime a c
