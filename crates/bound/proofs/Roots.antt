-- A nonzero polynomial over a domain has no more roots than its degree. Assumes nothing.
use Rattle.std.proofs.Common.{◌≡◌, suc, ◌≤◌, ◌≢◌, List, [], ◌∷◌, length, sym, refl, ap, ◌∙◌, inl, inr, arith}
use Rattle.std.specs.List.{AllByRecursion}
use Rattle.bound.specs.Counting.{Distinct}
use Rattle.bound.proofs.Domain.{Domain, plus_left_comm, times_left_comm, plus_cancel, times_zero, times_cancel}

module _ {E : Type 0} {𝟘 𝟙 : E} {◌⊕◌ ◌⊗◌ : E → E → E} {⊖ : E → E} (D : Domain E 𝟘 𝟙 ◌⊕◌ ◌⊗◌ ⊖) where
  infixl 60 ◌⊕◌
  infixl 70 ◌⊗◌
  -- a polynomial's value, by its coefficients, of which the constant one comes first
  unfoldable pub eval : List E → E → E
  eval [] x = 𝟘
  eval (c ∷ cs) x = c ⊕ x ⊗ eval cs x

  abbrev pub Zeros : List E → Type 0
  Zeros cs = AllByRecursion (λ c. c ≡ 𝟘) cs

  -- the quotient of x p(x) - r p(r) by x - r, where p is the polynomial of the coefficients cs
  quotient : E → List E → List E
  quotient r [] = []
  quotient r (c ∷ cs) = eval (c ∷ cs) r ∷ quotient r cs

  quotient_length : (r : E) (cs : List E) → length (quotient r cs) ≡ length cs
  unfolding quotient
  quotient_length r [] = refl
  quotient_length r (c ∷ cs) = ap suc (quotient_length r cs)

  quotient_step : (r x c A B Q : E) → x ⊗ A ⊕ r ⊗ Q ≡ r ⊗ B ⊕ x ⊗ Q →
      x ⊗ (c ⊕ x ⊗ A) ⊕ r ⊗ (c ⊕ r ⊗ B ⊕ x ⊗ Q) ≡ r ⊗ (c ⊕ r ⊗ B) ⊕ x ⊗ (c ⊕ r ⊗ B ⊕ x ⊗ Q)
  quotient_step r x c A B Q e = left ∙ ap (λ w. common ⊕ x ⊗ w) e ∙ sym right
    where
      common : E
      common = x ⊗ c ⊕ r ⊗ c ⊕ r ⊗ (r ⊗ B)

      left : x ⊗ (c ⊕ x ⊗ A) ⊕ r ⊗ (c ⊕ r ⊗ B ⊕ x ⊗ Q) ≡ common ⊕ x ⊗ (x ⊗ A ⊕ r ⊗ Q)
      left = simp (D.times_plus, D.plus_assoc, D.plus_comm, plus_left_comm D, times_left_comm D)

      right : r ⊗ (c ⊕ r ⊗ B) ⊕ x ⊗ (c ⊕ r ⊗ B ⊕ x ⊗ Q) ≡ common ⊕ x ⊗ (r ⊗ B ⊕ x ⊗ Q)
      right = simp (D.times_plus, D.plus_assoc, D.plus_comm, plus_left_comm D, times_left_comm D)

  divided : (r x : E) (cs : List E) →
      x ⊗ eval cs x ⊕ r ⊗ eval (quotient r cs) x ≡ r ⊗ eval cs r ⊕ x ⊗ eval (quotient r cs) x
  unfolding eval quotient
  divided r x [] = simp (times_zero D)
  divided r x (c ∷ cs) =
      quotient_step r x c (eval cs x) (eval cs r) (eval (quotient r cs) x) (divided r x cs)

  another_root : (r x c : E) (cs : List E) → eval (c ∷ cs) r ≡ 𝟘 → eval (c ∷ cs) x ≡ 𝟘 → r ≢ x →
      eval (quotient r cs) x ≡ 𝟘
  unfolding eval
  another_root r x c cs at_r at_x r≢x =
      elim (times_cancel D Q r x (D.times_comm Q r ∙ products ∙ D.times_comm x Q)) [
        | inl zero-there ↦ zero-there
        | inr e ↦ absurd (r≢x e)
      ]
    where
      Q : E
      Q = eval (quotient r cs) x

      values : r ⊗ eval cs r ≡ x ⊗ eval cs x
      values = plus_cancel D c (r ⊗ eval cs r) (x ⊗ eval cs x) (at_r ∙ sym at_x)

      products : r ⊗ Q ≡ x ⊗ Q
      products = plus_cancel D (r ⊗ eval cs r) (r ⊗ Q) (x ⊗ Q) (ap (λ w. w ⊕ r ⊗ Q) values ∙ divided r x cs)

  other_roots : (r c : E) (cs : List E) → eval (c ∷ cs) r ≡ 𝟘 → (xs : List E) → AllByRecursion (λ x. r ≢ x) xs →
      AllByRecursion (λ x. eval (c ∷ cs) x ≡ 𝟘) xs → AllByRecursion (λ x. eval (quotient r cs) x ≡ 𝟘) xs
  other_roots r c cs at_r [] others roots = tt
  other_roots r c cs at_r (x ∷ xs) others roots =
      (another_root r x c cs at_r roots.0 others.0, other_roots r c cs at_r xs others.1 roots.1)

  -- the constant coefficient is all that is left where the others are zero
  only_constant : (r c : E) (cs : List E) → eval cs r ≡ 𝟘 → eval (c ∷ cs) r ≡ c
  unfolding eval
  only_constant r c cs z = ap (λ w. c ⊕ r ⊗ w) z ∙ ap (λ w. c ⊕ w) (times_zero D r) ∙ D.plus_zero c

  eval_zeros : (r : E) (cs : List E) → Zeros cs → eval cs r ≡ 𝟘
  unfolding eval
  eval_zeros r [] z = refl
  eval_zeros r (c ∷ cs) z = only_constant r c cs (eval_zeros r cs z.1) ∙ z.0

  zeros_from_quotient : (r : E) (cs : List E) → Zeros (quotient r cs) → Zeros cs
  unfolding quotient
  zeros_from_quotient r [] z = tt
  zeros_from_quotient r (c ∷ cs) z =
      let zs = zeros_from_quotient r cs z.1 in
      (sym (only_constant r c cs (eval_zeros r cs zs)) ∙ z.0, zs)

  -- as many different roots as coefficients: then the coefficients are zero
  pub zeros_from_roots : (xs cs : List E) → Distinct xs → AllByRecursion (λ x. eval cs x ≡ 𝟘) xs → length cs ≤ length xs →
      Zeros cs
  zeros_from_roots xs [] distinct roots many = tt
  zeros_from_roots [] (c ∷ cs) distinct roots many = absurd (omega arith)
  zeros_from_roots (r ∷ xs) (c ∷ cs) distinct roots many =
      let others = other_roots r c cs roots.0 xs distinct.0 roots.1 in
      let room : length (quotient r cs) ≤ length xs = omega (arith, quotient_length r cs) in
      let zs = zeros_from_quotient r cs (zeros_from_roots xs (quotient r cs) distinct.1 others room) in
      (sym (only_constant r c cs (eval_zeros r cs zs)) ∙ roots.0, zs)
