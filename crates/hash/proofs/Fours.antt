-- Four steps with one subkey are one sum of four products with the subkey's powers. Assumes nothing.
use Rattle.std.proofs.Common.{◌≡◌, ℕ, ◌^◌, ◌<◌, List, [], ◌∷◌, length, get_or, sym, ap, ◌∙◌, ap₂, arith}
use Rattle.field.specs.Model.{Model}
use Rattle.field.specs.Laws.{Element, FieldLaws}
use Rattle.field.specs.WeightedSums.{weighted_sum}
use Rattle.field.proofs.Elements.{El, same, plus, times}
use Rattle.hash.specs.Texts.{block, block_count}
use Rattle.hash.specs.Steps.{group_blocks, group_bytes, stepped, through, Powers}

module _ {E : Type 0} (◌⊕◌ ◌⊗◌ : E → E → E) where
  infixl 60 ◌⊕◌
  infixl 70 ◌⊗◌
  multiplied_out : ((x y k : E) → (x ⊕ y) ⊗ k ≡ x ⊗ k ⊕ y ⊗ k) → ((x y z : E) → x ⊗ y ⊗ z ≡ x ⊗ (y ⊗ z))
      → ((x y z : E) → x ⊕ y ⊕ z ≡ x ⊕ (y ⊕ z)) → (a b c d k : E)
      → (((a ⊗ k ⊕ b) ⊗ k ⊕ c) ⊗ k ⊕ d) ⊗ k
      ≡ (a ⊗ (k ⊗ k ⊗ k ⊗ k) ⊕ b ⊗ (k ⊗ k ⊗ k)) ⊕ (c ⊗ (k ⊗ k) ⊕ d ⊗ k)
  multiplied_out spread group regroup a b c d k = simp (spread, group, regroup)

module _ {m : Model} (F : FieldLaws m) where
  spread : (x y k : El m) → times F (plus F x y) k ≡ plus F (times F x k) (times F y k)
  spread x y k =
      same m _ _ (F.times_comm _ _ (plus F x y).1 k.1
      ∙ F.times_plus _ _ _ k.1 x.1 y.1
      ∙ ap₂ m.plus (F.times_comm _ _ k.1 x.1) (F.times_comm _ _ k.1 y.1))

  group : (x y z : El m) → times F (times F x y) z ≡ times F x (times F y z)
  group x y z = same m _ _ (F.times_assoc _ _ _ x.1 y.1 z.1)

  regroup : (x y z : El m) → plus F (plus F x y) z ≡ plus F x (plus F y z)
  regroup x y z = same m _ _ (F.plus_assoc _ _ _ x.1 y.1 z.1)

  pub four_steps : (a b c d k : El m)
      → times F (plus F (times F (plus F (times F (plus F (times F a k) b) k) c) k) d) k
      ≡ plus F (plus F (times F a (times F (times F (times F k k) k) k)) (times F b (times F (times F k k) k)))
      (plus F (times F c (times F k k)) (times F d k))
  four_steps a b c d k = multiplied_out (plus F) (times F) spread group regroup a b c d k

  -- a number below every field's order is its own element
  pub small : (b : ℕ) → b < 2 ^ 56 → Element m b
  small b below = omega (arith, F.many)

  -- the step of the code, in the words of the calls that it makes
  pub group_step : (bytes weights : List ℕ) (x s r b c d e : ℕ) → length bytes ≡ group_bytes → Powers m weights
      → b ≡ block bytes 0 → c ≡ block bytes 1 → d ≡ block bytes 2 → e ≡ block bytes 3
      → b < 2 ^ 56 → c < 2 ^ 56 → d < 2 ^ 56 → e < 2 ^ 56
      → m.means s ≡ m.plus (m.means x) (m.means b)
      → m.means r ≡ weighted_sum m (s ∷ c ∷ d ∷ e ∷ []) weights
      → m.means r ≡ through m (m.means (get_or weights 3 0)) (m.means x) bytes
  group_step bytes weights x s r b c d e long powers is_b is_c is_d is_e sb sc sd se is_s is_r =
      let k : El m = (m.means (get_or weights 3 0), F.means_below (get_or weights 3 0)) in
      let own : (n : ℕ) → n < 2 ^ 56 → m.means n ≡ n = λ n h. F.means_own n (small n h) in
      let start : El m = plus F (m.means x, F.means_below x) (b, small b sb) in
      let second = powers.second in
      let third = powers.third ∙ ap (λ (p : ℕ). m.times p k.0) second in
      let fourth = powers.fourth ∙ ap (λ (p : ℕ). m.times p k.0) third in
      let count : block_count bytes ≡ group_blocks = omega arith in
      is_r
      ∙ ap₂ m.plus
      (ap₂ m.plus
      (ap₂ m.times (is_s ∙ ap (m.plus (m.means x)) (own b sb)) fourth)
      (ap₂ m.times (own c sc) third))
      (ap₂ m.plus
      (ap₂ m.times (own d sd) second)
      (ap (λ (n : ℕ). m.times n k.0) (own e se)))
      ∙ sym (ap (λ (y : El m). y.0) (four_steps start (c, small c sc) (d, small d sd) (e, small e se) k))
      ∙ ap₂ (λ (u v : ℕ). m.times (m.plus u v) k.0)
      (ap₂ (λ (u v : ℕ). m.times (m.plus u v) k.0)
      (ap₂ (λ (u v : ℕ). m.times (m.plus u v) k.0)
      (ap (λ (v : ℕ). m.times (m.plus (m.means x) v) k.0) is_b) is_c) is_d) is_e
      ∙ ap (stepped m k.0 (m.means x) bytes) (sym count)
