-- How many subkeys are zero, in one ring and over all rings. Assumes nothing.
use Rattle.std.proofs.Common.{◌≡◌, ℕ, zero, suc, ◌+◌, ◌*◌, ◌^◌, ◌≤◌, Bool, true, false, eqb, ◌≢◌, List, [], ◌∷◌, length, sym, refl, ap, ◌∙◌, ap₂, zero-le, mul-le-mul_right, pow-suc, arith}
use Rattle.std.specs.List.{AllByRecursion}
use Rattle.std.proofs.ByRecursion.{All-weaker}
use Rattle.std.proofs.lemmas.Bool.{eqb-true, eq-eqb, ne_eqb}
use Rattle.bound.specs.Counting.{Distinct}
use Rattle.bound.proofs.Sums.{sum, sum_same, sum_add, sum_scale, sum_const, one_if}
use Rattle.bound.proofs.Rings.{rings, sum_step, sum_rings_const}

abbrev pub zeros : List ℕ → ℕ
zeros r = sum (λ k. one_if (eqb k 0)) r

pub no_zero : (r : List ℕ) → zeros r ≡ 0 → AllByRecursion (λ k. k ≢ 0) r
no_zero [] none = tt
no_zero (k ∷ r) none = (nonzero, no_zero r (omega arith))
  where
    nonzero : k ≢ 0
    nonzero z = let one : one_if (eqb k 0) ≡ 1 = ap one_if (eq-eqb k 0 z) in omega arith

zeros_none : (r : List ℕ) → AllByRecursion (λ k. k ≢ 0) r → zeros r ≡ 0
zeros_none [] nonzero = refl
zeros_none (k ∷ r) nonzero =
    let none : one_if (eqb k 0) ≡ 0 = ap one_if (ne_eqb k 0 nonzero.0) in
    omega (arith, zeros_none r nonzero.1)

-- of different keys one at most is zero
zeros_once : (keys : List ℕ) → Distinct keys → zeros keys ≤ 1
zeros_once [] distinct = zero-le
zeros_once (k ∷ keys) distinct = go (eqb k 0) refl (zeros_once keys distinct.1)
  where
    go : (t : Bool) → eqb k 0 ≡ t → zeros keys ≤ 1 → one_if t + zeros keys ≤ 1
    go true e once =
        let k≡0 = eqb-true k 0 e in
        let others = All-weaker (λ x. k ≢ x) (λ x. x ≢ 0) (λ x ne z. ne (k≡0 ∙ sym z)) keys distinct.0 in
        omega (arith, zeros_none keys others)
    go false e once = omega arith

module _ (keys : List ℕ) (distinct : Distinct keys) where
  -- one in as many subkeys as there are keys is zero at most
  pub zeros_bound : (n : ℕ) → sum zeros (rings keys n) * length keys ≤ n * length keys ^ n
  unfolding rings
  zeros_bound zero = omega arith
  zeros_bound (suc n) =
      let once = mul-le-mul_right K (mul-le-mul_right p (zeros_once keys distinct)) in
      rw (step, pow-suc K n) (omega (arith, once, mul-le-mul_right K (zeros_bound n)))
    where
      K : ℕ
      K = length keys

      p : ℕ
      p = K ^ n

      S : ℕ
      S = sum zeros (rings keys n)

      first : (k : ℕ) → sum (λ r. zeros (k ∷ r)) (rings keys n) ≡ one_if (eqb k 0) * p + S
      first k =
          sum_add (λ r. one_if (eqb k 0)) zeros (rings keys n)
          ∙ ap (λ s. s + S) (sum_rings_const keys (one_if (eqb k 0)) n)

      step : sum zeros (rings keys (suc n)) ≡ zeros keys * p + S * K
      step =
          sum_step keys zeros n
          ∙ sum_same _ _ keys first
          ∙ sum_add (λ k. one_if (eqb k 0) * p) (λ k. S) keys
          ∙ ap₂ ◌+◌ (sum_scale (λ k. one_if (eqb k 0)) p keys) (sum_const S keys)
