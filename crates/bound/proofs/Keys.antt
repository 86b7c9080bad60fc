-- Numbers in a row as the keys that subkeys are taken from. Assumes nothing.
use Rattle.std.proofs.Common.{ℕ, zero, suc, ◌+◌, ◌<◌, ◌≤◌, ◌≢◌, inl, inr, arith}
use Rattle.std.proofs.Math.Decide.{ℕ_discrete}
use Rattle.std.specs.List.{range_with_len, AllByRecursion}
use Rattle.std.proofs.ByRecursion.{All-weaker}
use Rattle.bound.specs.Counting.{Distinct}
use Rattle.bound.proofs.Members.{Member}

pub counting_within : (a n : ℕ) → AllByRecursion (λ k. (a ≤ k) × (k < a + n)) (range_with_len a n)
counting_within a zero = tt
counting_within a (suc n) = (
  (omega arith, omega arith),
  All-weaker (λ k. (a + 1 ≤ k) × (k < a + 1 + n)) (λ k. (a ≤ k) × (k < a + suc n)) (λ k h. (omega arith, omega arith))
      (range_with_len (a + 1) n) (counting_within (a + 1) n),
)

pub counting_distinct : (a n : ℕ) → Distinct (range_with_len a n)
counting_distinct a zero = tt
counting_distinct a (suc n) = (
  All-weaker (λ k. (a + 1 ≤ k) × (k < a + 1 + n)) (λ k. a ≢ k) (λ k h e. omega arith)
      (range_with_len (a + 1) n) (counting_within (a + 1) n),
  counting_distinct (a + 1) n,
)

pub counting_member : (a n k : ℕ) → a ≤ k → k < a + n → Member (range_with_len a n) k
counting_member a zero k low high = absurd (omega arith)
counting_member a (suc n) k low high =
    elim (ℕ_discrete k a) [ yes e ↦ inl e | no ne ↦ inr (counting_member (a + 1) n k (omega arith) (omega arith)) ]
