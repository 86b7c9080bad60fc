-- What the blocks behind a chunk make of it: a multiple, and something added. Assumes nothing.
use Rattle.std.proofs.Common.{◌≡◌, ℕ, zero, suc, ◌+◌, ◌<◌, ◌≢◌, sym, ap, ◌∙◌, ap₂, inl, inr, add-zero, add-suc, arith}
use Rattle.bound.proofs.Domain.{Domain, zero_plus, plus_times}
use Rattle.bound.proofs.Horner.{run}

module _ {E : Type 0} {𝟘 𝟙 : E} {◌⊕◌ ◌⊗◌ : E → E → E} {⊖ : E → E} (D : Domain E 𝟘 𝟙 ◌⊕◌ ◌⊗◌ ⊖) where
  infixl 60 ◌⊕◌
  infixl 70 ◌⊗◌
  -- The l blocks from block e on make of any x a multiple of x, by this factor,
  unfoldable pub factor : (ℕ → E) → ℕ → ℕ → E
  factor κ e zero = 𝟙
  factor κ e (suc l) = factor κ e l ⊗ κ (e + l)

  -- and add this.
  unfoldable pub addend : (ℕ → E) → (ℕ → E) → ℕ → ℕ → E
  addend b κ e zero = 𝟘
  addend b κ e (suc l) = (addend b κ e l ⊕ b (e + l)) ⊗ κ (e + l)

  behind_step : (A F x v k : E) → (A ⊕ F ⊗ x ⊕ v) ⊗ k ≡ (A ⊕ v) ⊗ k ⊕ F ⊗ k ⊗ x
  behind_step A F x v k = simp (plus_times D, D.plus_assoc, D.plus_comm, D.times_assoc, D.times_comm)

  pub run_behind : (b κ κ' : ℕ → E) (e l : ℕ) → ((j : ℕ) → j < l → κ (e + j) ≡ κ' (e + j)) →
      run D b κ (e + l) ≡ addend b κ' e l ⊕ factor κ' e l ⊗ run D b κ e
  unfolding run factor addend
  run_behind b κ κ' e zero same =
      ap (run D b κ) (add-zero e) ∙ sym (zero_plus D _ ∙ D.times_comm 𝟙 _ ∙ D.times_one _)
  run_behind b κ κ' e (suc l) same =
      let before = run_behind b κ κ' e l (λ j h. same j (omega arith)) in
      ap (run D b κ) (add-suc e l)
      ∙ ap₂ (λ x y. (x ⊕ b (e + l)) ⊗ y) before (same l (omega arith))
      ∙ behind_step (addend b κ' e l) (factor κ' e l) (run D b κ e) (b (e + l)) (κ' (e + l))

  pub factor_nonzero : 𝟙 ≢ 𝟘 → (κ : ℕ → E) (e l : ℕ) → ((j : ℕ) → j < l → κ (e + j) ≢ 𝟘) → factor κ e l ≢ 𝟘
  unfolding factor
  factor_nonzero one κ e zero nonzero z = one z
  factor_nonzero one κ e (suc l) nonzero z =
      elim (D.zero_factor _ _ z) [
        | inl f ↦ factor_nonzero one κ e l (λ j h. nonzero j (omega arith)) f
        | inr k ↦ nonzero l (omega arith) k
      ]
