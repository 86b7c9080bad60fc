-- A finite field, by what its operations do to the elements' numbers. Assumes nothing.
use Rattle.std.specs.Prelude.{ℕ}

pub record Model : Type 0 where
  -- how many elements there are; they are the numbers below it, zero is 0 and one is 1
  pub size : ℕ
  -- the element that a working number means
  pub means : ℕ → ℕ
  pub plus : ℕ → ℕ → ℕ
  pub times : ℕ → ℕ → ℕ
  pub neg : ℕ → ℕ
