use Rattle.std.proofs.Common.{◌≡◌, ℕ, ◌+◌, ◌*◌, ◌%◌, ◌^◌, ◌<◌, ◌≤◌, length, ap, ◌∙◌, arith, pow_mono}
use Rattle.std.proofs.lemmas.Nat.{shl_whole}
use Rattle.std.proofs.lemmas.List.{take_all}
use Rattle.hash.specs.Texts.{number}
use Rattle.hash.proofs.Numbers.{number_more, number_below}
use Rattle.hash.proofs.block_number.Goals as goal

-- the byte at place i, shifted to its place; nothing is lost, and the sum stays below the next place
shifted : (n b i : ℕ) → n < 2 ^ (8 * i) → b < 256 → i < 7
    → ((b * 2 ^ (8 * i)) % 2 ^ 64 ≡ b * 2 ^ (8 * i)) × (n + b * 2 ^ (8 * i) < 2 ^ (8 * (i + 1)))
shifted n b i below byte few = (shl_whole b 8 (8 * i) 64 byte (omega arith), number_below n b i byte below)

fits : (n i : ℕ) → i ≤ 7 → n < 2 ^ (8 * i) → n < 2 ^ 56
fits n i few below =
    let most : 8 * i ≤ 56 = omega arith in
    let p = pow_mono most in
    omega arith

pub loop-i-preserved : goal.loop-i-preserved
loop-i-preserved c =
    let i : ℕ = c.loop-i.i in
    let s = shifted c.loop-i.number c.from.result i c.loop-i.invariant.1 (omega (arith, c.type_inv.block i)) (omega arith) in
    let place : ℕ = 2 ^ (8 * i) in
    let more = number_more c.args.block.now i c.loop-i-test.true in
    let worth = ap (λ (b : ℕ). b * place) c.from.ensures in
    (omega arith, omega arith)

pub returns : goal.returns
returns c =
    let all : length c.args.block.now ≤ c.loop-i.i = omega arith in
    record {
      value = c.loop-i.invariant.0 ∙ ap number (take_all c.loop-i.i c.args.block.now all);
      small = fits c.loop-i.number c.loop-i.i (omega arith) c.loop-i.invariant.1;
    }
