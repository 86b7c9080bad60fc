-- A commutative ring in which only a zero factor makes a zero product, and what follows from its laws. Assumes nothing.
use Rattle.std.proofs.Common.{◌≡◌, ◌⊎◌, sym, ap, ◌∙◌, inl, inr}

pub record Domain (E : Type 0) (𝟘 𝟙 : E) (◌⊕◌ ◌⊗◌ : E → E → E) (⊖ : E → E) : Type 0 where
  pub plus_assoc : (x y z : E) → ◌⊕◌ (◌⊕◌ x y) z ≡ ◌⊕◌ x (◌⊕◌ y z)
  pub plus_comm : (x y : E) → ◌⊕◌ x y ≡ ◌⊕◌ y x
  pub plus_zero : (x : E) → ◌⊕◌ x 𝟘 ≡ x
  pub plus_neg : (x : E) → ◌⊕◌ x (⊖ x) ≡ 𝟘
  pub times_assoc : (x y z : E) → ◌⊗◌ (◌⊗◌ x y) z ≡ ◌⊗◌ x (◌⊗◌ y z)
  pub times_comm : (x y : E) → ◌⊗◌ x y ≡ ◌⊗◌ y x
  pub times_one : (x : E) → ◌⊗◌ x 𝟙 ≡ x
  pub times_plus : (x y z : E) → ◌⊗◌ x (◌⊕◌ y z) ≡ ◌⊕◌ (◌⊗◌ x y) (◌⊗◌ x z)
  pub zero_factor : (x y : E) → ◌⊗◌ x y ≡ 𝟘 → (x ≡ 𝟘) ⊎ (y ≡ 𝟘)

module _ {E : Type 0} {𝟘 𝟙 : E} {◌⊕◌ ◌⊗◌ : E → E → E} {⊖ : E → E} (D : Domain E 𝟘 𝟙 ◌⊕◌ ◌⊗◌ ⊖) where
  infixl 60 ◌⊕◌
  infixl 70 ◌⊗◌
  pub plus_left_comm : (x y z : E) → x ⊕ (y ⊕ z) ≡ y ⊕ (x ⊕ z)
  plus_left_comm x y z = sym (D.plus_assoc x y z) ∙ ap (λ w. w ⊕ z) (D.plus_comm x y) ∙ D.plus_assoc y x z

  pub times_left_comm : (x y z : E) → x ⊗ (y ⊗ z) ≡ y ⊗ (x ⊗ z)
  times_left_comm x y z = sym (D.times_assoc x y z) ∙ ap (λ w. w ⊗ z) (D.times_comm x y) ∙ D.times_assoc y x z

  pub zero_plus : (x : E) → 𝟘 ⊕ x ≡ x
  zero_plus x = D.plus_comm 𝟘 x ∙ D.plus_zero x

  pub plus_cancel : (x y z : E) → x ⊕ y ≡ x ⊕ z → y ≡ z
  plus_cancel x y z e = back y ∙ ap (λ w. ⊖ x ⊕ w) e ∙ sym (back z)
    where
      back : (w : E) → w ≡ ⊖ x ⊕ (x ⊕ w)
      back w =
          sym (zero_plus w)
          ∙ ap (λ v. v ⊕ w) (sym (D.plus_neg x) ∙ D.plus_comm x (⊖ x))
          ∙ D.plus_assoc (⊖ x) x w

  pub minus_zero : (x y : E) → x ⊕ ⊖ y ≡ 𝟘 → x ≡ y
  minus_zero x y e =
      plus_cancel (⊖ y) x y (D.plus_comm (⊖ y) x ∙ e ∙ sym (D.plus_neg y) ∙ D.plus_comm y (⊖ y))

  pub times_zero : (x : E) → x ⊗ 𝟘 ≡ 𝟘
  times_zero x =
      plus_cancel (x ⊗ 𝟘) (x ⊗ 𝟘) 𝟘
      (sym (D.times_plus x 𝟘 𝟘) ∙ ap (λ w. x ⊗ w) (D.plus_zero 𝟘) ∙ sym (D.plus_zero (x ⊗ 𝟘)))

  pub plus_times : (x y z : E) → (x ⊕ y) ⊗ z ≡ x ⊗ z ⊕ y ⊗ z
  plus_times x y z =
      D.times_comm (x ⊕ y) z
      ∙ D.times_plus z x y
      ∙ ap (λ w. w ⊕ z ⊗ y) (D.times_comm z x)
      ∙ ap (λ w. x ⊗ z ⊕ w) (D.times_comm z y)

  pub times_cancel : (w x y : E) → w ⊗ x ≡ w ⊗ y → (w ≡ 𝟘) ⊎ (x ≡ y)
  times_cancel w x y e =
      elim (D.zero_factor w (x ⊕ ⊖ y) difference) [ inl z ↦ inl z | inr z ↦ inr (minus_zero x y z) ]
    where
      difference : w ⊗ (x ⊕ ⊖ y) ≡ 𝟘
      difference =
          D.times_plus w x (⊖ y)
          ∙ ap (λ v. v ⊕ w ⊗ ⊖ y) e
          ∙ sym (D.times_plus w y (⊖ y))
          ∙ ap (λ v. w ⊗ v) (D.plus_neg y)
          ∙ times_zero w
