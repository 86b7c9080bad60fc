use Rattle.std.proofs.Common.{◌≡◌, sym, ap, ap₂, ◌∙◌, ℕ, ◌+◌, ◌-◌, ◌*◌, ◌/◌, ◌%◌, ◌^◌, add-zero, arith, bit_and, bit_xor}
use Rattle.std.proofs.lemmas.Nat.{and_mask, shr_le, shl-shr, mod-pow-add}
use Rattle.std.proofs.Math.Nat.{mul-mod_left}
use Rattle.std.proofs.Math.Pow.{mod-mod-pow}
use Rattle.b63.proofs.Power.{power_parts}
use Rattle.b63.proofs.by_power.Goals as goal

-- the shift drops the j highest of 63 coefficients
moved : (i j x : ℕ) → i + j ≡ 63 → bit_and (x * 2 ^ j % 2 ^ 64) (2 ^ 63 - 1) ≡ (x % 2 ^ i) * 2 ^ j
moved i j x all =
    and_mask (x * 2 ^ j % 2 ^ 64) 63
    ∙ mod-mod-pow (x * 2 ^ j) 1 63
    ∙ ap (λ (n : ℕ). x * 2 ^ j % 2 ^ n) (sym all)
    ∙ mod-pow-add (x * 2 ^ j) i j
    ∙ ap₂ (λ (u v : ℕ). (u % 2 ^ i) * 2 ^ j + v) (shl-shr x j) (mul-mod_left x (2 ^ j))
    ∙ add-zero ((x % 2 ^ i) * 2 ^ j)

pub returns : goal.returns
returns c =
    let j : ℕ = c.args.j in
    let x : ℕ = c.args.x in
    let top : ℕ = x / 2 ^ (63 - j) in
    let twice : top * 2 % 2 ^ 64 ≡ top * 2 = omega (arith, shr_le x (63 - j)) in
    ap₂ (λ (u v : ℕ). bit_xor (bit_xor u top) v) (moved (63 - j) j x (omega arith)) twice
    ∙ sym (power_parts j x c.requires.0 c.requires.1)
