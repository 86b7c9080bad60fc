-- The hash as a polynomial in the subkey of one chunk, and what its coefficients tell. Assumes nothing.
use Rattle.std.proofs.Common.{◌≡◌, ℕ, zero, suc, ◌+◌, ◌<◌, ◌≢◌, List, [], ◌∷◌, length, sym, refl, ap, ◌∙◌, subst, inl, inr, arith}
use Rattle.std.proofs.Math.Decide.{ℕ_discrete}
use Rattle.bound.proofs.Domain.{Domain, plus_left_comm, times_left_comm, zero_plus, times_zero}
use Rattle.bound.proofs.Domain.{plus_cancel, minus_zero, times_cancel}
use Rattle.bound.proofs.Roots.{eval, Zeros}
use Rattle.bound.proofs.Differences.{minus}
use Rattle.bound.proofs.Horner.{run, run_same, low, high, high_length, run_chunk}
use Rattle.bound.proofs.Behind.{factor, addend, run_behind, factor_nonzero}

module _ {E : Type 0} {𝟘 𝟙 : E} {◌⊕◌ ◌⊗◌ : E → E → E} {⊖ : E → E} (D : Domain E 𝟘 𝟙 ◌⊕◌ ◌⊗◌ ⊖) where
  infixl 60 ◌⊕◌
  infixl 70 ◌⊗◌
  scale : E → List E → List E
  scale w [] = []
  scale w (c ∷ cs) = w ⊗ c ∷ scale w cs

  eval_scale : (w x : E) (cs : List E) → eval D (scale w cs) x ≡ w ⊗ eval D cs x
  unfolding eval scale
  eval_scale w x [] = sym (times_zero D w)
  eval_scale w x (c ∷ cs) =
      ap (λ v. w ⊗ c ⊕ x ⊗ v) (eval_scale w x cs)
      ∙ ap (λ v. w ⊗ c ⊕ v) (times_left_comm D x w (eval D cs x))
      ∙ sym (D.times_plus w c (x ⊗ eval D cs x))

  scale_length : (w : E) (cs : List E) → length (scale w cs) ≡ length cs
  unfolding scale
  scale_length w [] = refl
  scale_length w (c ∷ cs) = ap suc (scale_length w cs)

  -- κ has the subkey k for the i blocks from block s on, and is as κ' before them and for the l blocks behind them
  pub record DiffersAt (κ κ' : ℕ → E) (k : E) (s i l : ℕ) : Type 0 where
    pub before : (j : ℕ) → j < s → κ j ≡ κ' j
    pub within : (j : ℕ) → j < i → κ (s + j) ≡ k
    pub behind : (j : ℕ) → j < l → κ (s + i + j) ≡ κ' (s + i + j)

  -- s blocks that make X, a chunk of i blocks, l blocks behind it, and v added: the coefficients in the chunk's subkey
  pub constant : (b κ : ℕ → E) (X v : E) (s i l : ℕ) → E
  constant b κ X v s i l = addend D b κ (s + i) l ⊕ factor D κ (s + i) l ⊗ low D X i ⊕ v

  pub others : (b κ : ℕ → E) (X : E) (s i l : ℕ) → List E
  others b κ X s i l = scale (factor D κ (s + i) l) (high D b X s i)

  pub others_length : (b κ : ℕ → E) (X : E) (s i l : ℕ) → length (others b κ X s i l) ≡ i
  unfolding others
  others_length b κ X s i l = scale_length (factor D κ (s + i) l) (high D b X s i) ∙ high_length D b X s i

  polynomial_step : (A F l k P v : E) → A ⊕ F ⊗ (l ⊕ k ⊗ P) ⊕ v ≡ A ⊕ F ⊗ l ⊕ v ⊕ k ⊗ (F ⊗ P)
  polynomial_step A F l k P v =
      simp (D.times_plus, D.plus_assoc, D.plus_comm, plus_left_comm D, times_left_comm D)

  pub run_polynomial : (b κ κ' : ℕ → E) (X k v : E) (s i l : ℕ) → run D b κ' s ≡ X → DiffersAt κ κ' k s i l →
      run D b κ (s + i + l) ⊕ v ≡ eval D (constant b κ' X v s i l ∷ others b κ' X s i l) k
  unfolding constant others eval
  run_polynomial b κ κ' X k v s i l start at =
      ap (λ w. w ⊕ v) (run_behind D b κ κ' (s + i) l at.behind)
      ∙ ap (λ w. A ⊕ F ⊗ w ⊕ v) (run_chunk D b κ X k s i entered at.within)
      ∙ polynomial_step A F (low D X i) k (eval D (high D b X s i) k) v
      ∙ ap (λ w. A ⊕ F ⊗ low D X i ⊕ v ⊕ k ⊗ w) (sym (eval_scale F k (high D b X s i)))
    where
      A : E
      A = addend D b κ' (s + i) l

      F : E
      F = factor D κ' (s + i) l

      entered : run D b κ s ≡ X
      entered = run_same D b b κ κ' s (λ j h. refl) at.before ∙ start

  -- with no block behind the chunk, the constant coefficient is what is added last
  pub last_constant : (b κ : ℕ → E) (X v : E) (s i : ℕ) → constant b κ X v s (suc i) 0 ≡ v
  unfolding constant addend factor low
  last_constant b κ X v s i =
      ap (λ w. 𝟘 ⊕ w ⊕ v) (times_zero D 𝟙) ∙ ap (λ w. w ⊕ v) (D.plus_zero 𝟘) ∙ zero_plus D v

  same_high : (b b' : ℕ → E) (F X : E) (s i : ℕ) → F ≢ 𝟘 →
      Zeros D (minus D (scale F (high D b X s i)) (scale F (high D b' X s i))) →
      (j : ℕ) → j < i → b (s + j) ≡ b' (s + j)
  unfolding minus scale high
  same_high b b' F X s zero F≢0 z j h = absurd (omega arith)
  same_high b b' F X s (suc i) F≢0 z j h =
      elim (ℕ_discrete j i) [
        | yes e ↦ subst (λ n. b (s + n) ≡ b' (s + n)) (sym e) top
        | no ne ↦ same_high b b' F X s i F≢0 z.1 j (omega arith)
      ]
    where
      top : b (s + i) ≡ b' (s + i)
      top =
          elim (times_cancel D F _ _ (minus_zero D _ _ z.0)) [
            | inl f ↦ absurd (F≢0 f)
            | inr e ↦ plus_cancel D (low D X i) _ _ e
          ]

  -- with no zero subkey behind the chunk, the same coefficients come from the same blocks
  pub same_blocks : 𝟙 ≢ 𝟘 → (b b' κ : ℕ → E) (X : E) (s i l : ℕ) → ((j : ℕ) → j < l → κ (s + i + j) ≢ 𝟘) →
      Zeros D (minus D (others b κ X s i l) (others b' κ X s i l)) → (j : ℕ) → j < i → b (s + j) ≡ b' (s + j)
  unfolding others
  same_blocks one b b' κ X s i l nonzero =
      same_high b b' (factor D κ (s + i) l) X s i (factor_nonzero D one κ (s + i) l nonzero)
