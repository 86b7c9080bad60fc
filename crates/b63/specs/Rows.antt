-- A product by rows, where what takes a number times z keeps sums. Assumes nothing.
use Rattle.std.specs.Prelude.{◌≡◌}
use Rattle.std.proofs.Math.Path.{refl, ap, ap₂}
use Rattle.std.proofs.Common.{sym, ◌∙◌, ℕ, zero, suc, ◌*◌, ◌/◌, ◌%◌}
use Rattle.std.specs.Int.Bits.{bit_xor}
use Rattle.b63.specs.Binary.{rows}
use Rattle.b63.specs.Xor.{Additive, in_order, keeps_zero}
use Rattle.b63.specs.Bit.{bit_plus, past_bit}

module _ (up : ℕ → ℕ) (up_plus : Additive up) where
  -- what keeps sums and comes past z comes past a factor
  pub past_factor : (F : ℕ → ℕ) → Additive F → ((x : ℕ) → F (up x) ≡ up (F x))
      → (k a b : ℕ) → F (rows up k a b) ≡ rows up k a (F b)
  unfolding rows
  past_factor F plus past zero a b = keeps_zero F plus
  past_factor F plus past (suc k) a b =
      plus ((a % 2) * b) (rows up k (a / 2) (up b))
      ∙ ap₂ bit_xor (past_bit F plus a b)
      (past_factor F plus past k (a / 2) (up b) ∙ ap (rows up k (a / 2)) (past b))

  pub rows_plus : (k a : ℕ) → Additive (rows up k a)
  unfolding rows
  rows_plus zero a x y = refl
  rows_plus (suc k) a x y =
      ap₂ bit_xor (bit_plus a x y) (ap (rows up k (a / 2)) (up_plus x y) ∙ rows_plus k (a / 2) (up x) (up y))
      ∙ simp in_order

  pub rows_up : (k a b : ℕ) → rows up k a (up b) ≡ up (rows up k a b)
  rows_up k a b = sym (past_factor up up_plus (λ x. refl) k a b)

  -- the constant coefficient's row, and z times the product of the others
  pub rows_suc : (k a b : ℕ) → rows up (suc k) a b ≡ bit_xor ((a % 2) * b) (up (rows up k (a / 2) b))
  unfolding rows
  rows_suc k a b = ap (bit_xor ((a % 2) * b)) (rows_up k (a / 2) b)
