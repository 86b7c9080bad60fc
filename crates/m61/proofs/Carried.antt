-- The carry of one more than a folded number takes the prime away where it has to. Assumes nothing.
use Rattle.std.proofs.Common.{◌≡◌, ℕ, ◌+◌, ◌/◌, ◌^◌, ◌≤◌, bit_and, arith}
use Rattle.std.proofs.lemmas.Nat.{and_mask}
use Rattle.m61.specs.Mersenne.{prime, means61}

pub carried : (y : ℕ) → y ≤ 2 ^ 61 + 6 → bit_and (y + (y + 1) / 2 ^ 61) prime ≡ means61 y
carried y h = let low = and_mask (y + (y + 1) / 2 ^ 61) 61 in omega arith
