-- The hash's steps through bytes that one subkey serves. Assumes nothing.
use Rattle.std.specs.Prelude.{◌≡◌, ℕ, zero, suc, ◌*◌, List, slice_index}
use Rattle.field.specs.Model.{Model}
use Rattle.hash.specs.Texts.{block_bytes, block, block_count}

-- blocks that are worked in together
abbrev pub group_blocks : ℕ
group_blocks = 4

abbrev pub group_bytes : ℕ
group_bytes = block_bytes * group_blocks

module _ (m : Model) (k : ℕ) where
  -- where x comes to with the first n blocks
  abbrev pub stepped : ℕ → List ℕ → ℕ → ℕ
  stepped x bytes zero = x
  stepped x bytes (suc n) = m.times (m.plus (stepped x bytes n) (block bytes n)) k

  -- and with all of them
  abbrev pub through : ℕ → List ℕ → ℕ
  through x bytes = stepped x bytes (block_count bytes)

-- four working numbers mean the fourth power of the last, its third, its second and itself
pub record Powers (m : Model) (weights : List ℕ) : Type 0 where
  pub second : m.means (slice_index weights 2) ≡ m.times (m.means (slice_index weights 3)) (m.means (slice_index weights 3))
  pub third : m.means (slice_index weights 1) ≡ m.times (m.means (slice_index weights 2)) (m.means (slice_index weights 3))
  pub fourth : m.means (slice_index weights 0) ≡ m.times (m.means (slice_index weights 1)) (m.means (slice_index weights 3))
