use Rattle.std.proofs.Common.{◌≡◌, sym, ap, ◌∙◌, ℕ, ◌+◌, ◌-◌, ◌*◌, ◌/◌, ◌%◌, ◌^◌, zero-mul, one-mul, mod-eq_of_lt, arith, bit_and}
use Rattle.std.proofs.lemmas.Nat.{and_comm, and_mask}
use Rattle.b63.specs.Bit.{by_bit}
use Rattle.b63.proofs.row.Goals as goal

pub returns : goal.returns
returns c =
    let q : ℕ = c.args.x / 2 ^ c.args.i in
    let y : ℕ = c.args.y in
    let masked : ℕ → ℕ = λ d. bit_and ((0 + (2 ^ 64 - d)) % 2 ^ 64) y in
    ap masked (and_mask q 1)
    ∙ by_bit (λ d. masked d ≡ d * y)
    (sym (zero-mul y))
    (and_comm (2 ^ 64 - 1) y ∙ and_mask y 64 ∙ mod-eq_of_lt (omega arith) ∙ sym (one-mul y))
    q
