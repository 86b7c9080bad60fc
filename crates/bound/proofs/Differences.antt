-- Two polynomials over a domain that agree at more places than their degree are the same. Assumes nothing.
use Rattle.std.proofs.Common.{◌≡◌, ℕ, zero, suc, ◌≤◌, List, [], ◌∷◌, length, sym, ap, ◌∙◌, arith}
use Rattle.std.specs.List.{AllByRecursion}
use Rattle.std.proofs.ByRecursion.{All-weaker}
use Rattle.bound.specs.Counting.{Distinct}
use Rattle.bound.proofs.Domain.{Domain, plus_left_comm, zero_plus, plus_cancel, times_zero}
use Rattle.bound.proofs.Roots.{eval, Zeros, zeros_from_roots}

module _ {E : Type 0} {𝟘 𝟙 : E} {◌⊕◌ ◌⊗◌ : E → E → E} {⊖ : E → E} (D : Domain E 𝟘 𝟙 ◌⊕◌ ◌⊗◌ ⊖) where
  infixl 60 ◌⊕◌
  infixl 70 ◌⊗◌
  -- the coefficients of the difference; those that a shorter list lacks count as zero
  unfoldable pub minus : List E → List E → List E
  minus [] [] = []
  minus [] (q ∷ qs) = (𝟘 ⊕ ⊖ q) ∷ minus [] qs
  minus (p ∷ ps) [] = p ∷ ps
  minus (p ∷ ps) (q ∷ qs) = (p ⊕ ⊖ q) ∷ minus ps qs

  minus_length : (n : ℕ) (ps qs : List E) → length ps ≤ n → length qs ≤ n → length (minus ps qs) ≤ n
  unfolding minus
  minus_length n [] [] hp hq = hp
  minus_length n [] (q ∷ qs) hp hq = omega (arith, minus_length (length qs) [] qs (omega arith) (omega arith))
  minus_length n (p ∷ ps) [] hp hq = hp
  minus_length zero (p ∷ ps) (q ∷ qs) hp hq = absurd (omega arith)
  minus_length (suc n) (p ∷ ps) (q ∷ qs) hp hq = omega (arith, minus_length n ps qs (omega arith) (omega arith))

  minus_step : (x p q P Q M : E) → M ⊕ Q ≡ P → p ⊕ ⊖ q ⊕ x ⊗ M ⊕ (q ⊕ x ⊗ Q) ≡ p ⊕ x ⊗ P
  minus_step x p q P Q M e =
      sorted ∙ ap (λ w. p ⊕ x ⊗ (M ⊕ Q) ⊕ w) (D.plus_neg q) ∙ D.plus_zero _ ∙ ap (λ w. p ⊕ x ⊗ w) e
    where
      sorted : p ⊕ ⊖ q ⊕ x ⊗ M ⊕ (q ⊕ x ⊗ Q) ≡ p ⊕ x ⊗ (M ⊕ Q) ⊕ (q ⊕ ⊖ q)
      sorted = simp (D.times_plus, D.plus_assoc, D.plus_comm, plus_left_comm D)

  eval_minus : (x : E) (ps qs : List E) → eval D (minus ps qs) x ⊕ eval D qs x ≡ eval D ps x
  unfolding minus eval
  eval_minus x [] [] = D.plus_zero 𝟘
  eval_minus x [] (q ∷ qs) =
      minus_step x 𝟘 q 𝟘 (eval D qs x) (eval D (minus [] qs) x) (eval_minus x [] qs)
      ∙ zero_plus D (x ⊗ 𝟘)
      ∙ times_zero D x
  eval_minus x (p ∷ ps) [] = D.plus_zero _
  eval_minus x (p ∷ ps) (q ∷ qs) =
      minus_step x p q (eval D ps x) (eval D qs x) (eval D (minus ps qs) x) (eval_minus x ps qs)

  root_of_minus : (ps qs : List E) (x : E) → eval D ps x ≡ eval D qs x → eval D (minus ps qs) x ≡ 𝟘
  root_of_minus ps qs x e =
      plus_cancel D (eval D qs x) (eval D (minus ps qs) x) 𝟘
      (D.plus_comm _ _ ∙ eval_minus x ps qs ∙ e ∙ sym (D.plus_zero (eval D qs x)))

  pub same_coefficients : (xs ps qs : List E) → Distinct xs → AllByRecursion (λ x. eval D ps x ≡ eval D qs x) xs →
      length ps ≤ length xs → length qs ≤ length xs → Zeros D (minus ps qs)
  same_coefficients xs ps qs distinct agree hp hq =
      zeros_from_roots D xs (minus ps qs) distinct
      (All-weaker (λ x. eval D ps x ≡ eval D qs x) (λ x. eval D (minus ps qs) x ≡ 𝟘) (root_of_minus ps qs) xs agree)
      (minus_length (length xs) ps qs hp hq)
