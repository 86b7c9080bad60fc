-- The rule by which blocks and their subkeys make a number, and one chunk of it as a polynomial. Assumes nothing.
use Rattle.std.proofs.Common.{◌≡◌, ℕ, zero, suc, ◌+◌, ◌<◌, List, [], ◌∷◌, length, sym, refl, ap, ◌∙◌, ap₂, add-zero, add-suc, arith}
use Rattle.bound.proofs.Domain.{Domain, zero_plus, times_zero}
use Rattle.bound.proofs.Roots.{eval}

module _ {E : Type 0} {𝟘 𝟙 : E} {◌⊕◌ ◌⊗◌ : E → E → E} {⊖ : E → E} (D : Domain E 𝟘 𝟙 ◌⊕◌ ◌⊗◌ ⊖) where
  infixl 60 ◌⊕◌
  infixl 70 ◌⊗◌
  -- x after the first n blocks, where block j is b j and the subkey that serves it is κ j
  unfoldable pub run : (ℕ → E) → (ℕ → E) → ℕ → E
  run b κ zero = 𝟘
  run b κ (suc n) = (run b κ n ⊕ b n) ⊗ κ n

  pub run_same : (b b' κ κ' : ℕ → E) (n : ℕ) → ((j : ℕ) → j < n → b j ≡ b' j) → ((j : ℕ) → j < n → κ j ≡ κ' j) →
      run b κ n ≡ run b' κ' n
  unfolding run
  run_same b b' κ κ' zero eb eκ = refl
  run_same b b' κ κ' (suc n) eb eκ =
      let before = run_same b b' κ κ' n (λ j h. eb j (omega arith)) (λ j h. eκ j (omega arith)) in
      ap₂ ◌⊗◌ (ap₂ ◌⊕◌ before (eb n (omega arith))) (eκ n (omega arith))

  -- A chunk of i blocks from block s on, entered with X, is a polynomial in its subkey: its constant coefficient
  unfoldable pub low : E → ℕ → E
  low X zero = X
  low X (suc i) = 𝟘

  -- and its other coefficients.
  unfoldable pub high : (ℕ → E) → E → ℕ → ℕ → List E
  high b X s zero = []
  high b X s (suc i) = (low X i ⊕ b (s + i)) ∷ high b X s i

  pub high_length : (b : ℕ → E) (X : E) (s i : ℕ) → length (high b X s i) ≡ i
  unfolding high
  high_length b X s zero = refl
  high_length b X s (suc i) = ap suc (high_length b X s i)

  chunk_step : (k l v P : E) → (l ⊕ k ⊗ P ⊕ v) ⊗ k ≡ 𝟘 ⊕ k ⊗ (l ⊕ v ⊕ k ⊗ P)
  chunk_step k l v P = D.times_comm _ k ∙ ap (λ w. k ⊗ w) sorted ∙ sym (zero_plus D _)
    where
      sorted : l ⊕ k ⊗ P ⊕ v ≡ l ⊕ v ⊕ k ⊗ P
      sorted = simp (D.plus_assoc, D.plus_comm)

  pub run_chunk : (b κ : ℕ → E) (X k : E) (s i : ℕ) → run b κ s ≡ X → ((j : ℕ) → j < i → κ (s + j) ≡ k) →
      run b κ (s + i) ≡ low X i ⊕ k ⊗ eval D (high b X s i) k
  unfolding run low high eval
  run_chunk b κ X k s zero start within =
      ap (run b κ) (add-zero s) ∙ start ∙ sym (ap (λ w. X ⊕ w) (times_zero D k) ∙ D.plus_zero X)
  run_chunk b κ X k s (suc i) start within =
      let before = run_chunk b κ X k s i start (λ j h. within j (omega arith)) in
      ap (run b κ) (add-suc s i)
      ∙ ap₂ (λ x y. (x ⊕ b (s + i)) ⊗ y) before (within i (omega arith))
      ∙ chunk_step k (low X i) (b (s + i)) (eval D (high b X s i) k)
