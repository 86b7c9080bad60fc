-- A sum of four products: of numbers and weights, place by place. Assumes nothing.
use Rattle.std.specs.Prelude.{List, ℕ, get_or}
use Rattle.field.specs.Model.{Model}

module _ (m : Model) (numbers weights : List ℕ) where
  -- the product at place i, of what the two working numbers there mean
  abbrev pub product_at : ℕ → ℕ
  product_at i = m.times (m.means (get_or numbers i 0)) (m.means (get_or weights i 0))

  abbrev pub weighted_sum : ℕ
  weighted_sum = m.plus (m.plus (product_at 0) (product_at 1)) (m.plus (product_at 2) (product_at 3))
