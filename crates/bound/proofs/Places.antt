-- Rings by the subkey at one place: what is bounded for the others fixed is bounded over all rings. Assumes nothing.
use Rattle.std.proofs.Common.{◌≡◌, ℕ, zero, suc, ◌+◌, ◌*◌, ◌^◌, ◌≤◌, List, ◌∷◌, length, sym, ap, ◌∙◌, subst, ap₂, zero-mul, arith}
use Rattle.std.specs.List.{AllByRecursion}
use Rattle.bound.proofs.Sums.{sum, sum_same, sum_add, sum_scale, sum_le, sum_swap}
use Rattle.bound.proofs.Rings.{rings, rings_all, sum_step, sum_rings_const}
use Rattle.bound.proofs.Put.{put}

module _ (keys : List ℕ) where
  -- a sum over all rings, with the subkey at place c taken last
  sum_put : (f : List ℕ → ℕ) (c n : ℕ) → c ≤ n →
      sum f (rings keys (suc n)) ≡ sum (λ r. sum (λ k. f (put c k r)) keys) (rings keys n)
  unfolding put
  sum_put f zero n h = sum_step keys f n ∙ sum_swap (λ k r. f (k ∷ r)) keys (rings keys n)
  sum_put f (suc c) zero h = absurd (omega arith)
  sum_put f (suc c) (suc n) h =
      sum_step keys f (suc n)
      ∙ sum_same _ _ keys (λ x. sum_put (λ r. f (x ∷ r)) c n (omega arith))
      ∙ sym (sum_step keys (λ r. sum (λ k. f (put (suc c) k r)) keys) n)

  -- With the other subkeys r fixed, f sums over the subkey at place c to d at most, and for each that w counts to as
  -- much more as there are keys.
  pub place_bound : (P : ℕ → Type 0) → AllByRecursion P keys → (c n d : ℕ) → c ≤ n → (f w : List ℕ → ℕ) →
      ((r : List ℕ) → length r ≡ n → AllByRecursion P r → sum (λ k. f (put c k r)) keys ≤ d + w r * length keys) →
      sum f (rings keys (suc n)) ≤ d * length keys ^ n + sum w (rings keys n) * length keys
  place_bound P all c n d h f w each =
      rw (sum_put f c n h) (subst (λ s. sum (λ r. sum (λ k. f (put c k r)) keys) (rings keys n) ≤ s) total below)
    where
      below : sum (λ r. sum (λ k. f (put c k r)) keys) (rings keys n) ≤ sum (λ r. d + w r * length keys) (rings keys n)
      below =
          sum_le (λ r. (length r ≡ n) × AllByRecursion P r) _ _ (λ r p. each r p.0 p.1)
          (rings keys n) (rings_all keys P all n)

      total : sum (λ r. d + w r * length keys) (rings keys n) ≡ d * length keys ^ n + sum w (rings keys n) * length keys
      total =
          sum_add (λ r. d) (λ r. w r * length keys) (rings keys n)
          ∙ ap₂ ◌+◌ (sum_rings_const keys d n) (sum_scale w (length keys) (rings keys n))

  -- the same where w counts none
  pub place_bound_even : (P : ℕ → Type 0) → AllByRecursion P keys → (c n d : ℕ) → c ≤ n → (f : List ℕ → ℕ) →
      ((r : List ℕ) → length r ≡ n → AllByRecursion P r → sum (λ k. f (put c k r)) keys ≤ d) →
      sum f (rings keys (suc n)) ≤ d * length keys ^ n
  place_bound_even P all c n d h f each =
      omega (arith, place_bound P all c n d h f (λ r. 0) (λ r l p. omega (arith, each r l p)), none)
    where
      none : sum (λ r. 0) (rings keys n) * length keys ≡ 0
      none = ap (λ s. s * length keys) (sum_rings_const keys 0 n ∙ zero-mul _) ∙ zero-mul (length keys)
