use Rattle.std.proofs.Common.{ℕ, ◌+◌, ◌-◌, ◌*◌, ◌^◌, ◌≤◌, sym, ap, ◌∙◌, ap₂, arith}
use Rattle.std.proofs.lemmas.Nat.{mul-le}
use Rattle.field.proofs.Modular.{mod_mul_mod}
use Rattle.m61.specs.Mersenne.{prime, m61, means61}
use Rattle.m61.proofs.Parts.{parts_product, plus_same}
use Rattle.m61.proofs.wide_product.Goals as goal

-- a high limb is at most 2 ^ 29, and a low one below 2 ^ 32
cross : (high low : ℕ) → high ≤ 2 ^ 29 → low ≤ 2 ^ 32 - 1 → high * low ≤ 2 ^ 61 - 2 ^ 29
cross high low h l = mul-le high low (2 ^ 29) (2 ^ 32 - 1) h l

pub invariant_of-result : goal.invariant_of-result
invariant_of-result c =
    let ac = mul-le c.from-a.result.high c.from-c.result.high (2 ^ 29) (2 ^ 29) (omega arith) (omega arith) in
    let ad = cross c.from-a.result.high c.from-c.result.low (omega arith) (omega arith) in
    let cb = cross c.from-c.result.high c.from-a.result.low (omega arith) (omega arith) in
    (omega arith, omega arith, omega arith, omega arith)

pub returns : goal.returns
returns c =
    let a : ℕ = c.from-a.result.high in
    let b : ℕ = c.from-a.result.low in
    let u : ℕ = c.from-c.result.high in
    let v : ℕ = c.from-c.result.low in
    let top : ℕ = a * u * 2 ^ 64 + (a * v + b * u) * 2 ^ 32 in
    ap means61 (omega arith)
    ∙ plus_same top c.fold-3.result.value (b * v) (c.fold-3.ensures ∙ ap means61 c.multiply-4.ensures)
    ∙ ap means61 (sym (parts_product a b u v (2 ^ 32)) ∙ ap₂ (λ (x y : ℕ). x * y) c.from-a.ensures c.from-c.ensures)
    ∙ sym (mod_mul_mod prime c.fold.result.value c.fold-2.result.value)
    ∙ ap₂ m61.times c.fold.ensures c.fold-2.ensures
