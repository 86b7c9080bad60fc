-- A text's hash rests on as many subkeys as the text has chunks. Assumes nothing.
use Rattle.std.proofs.Common.{◌≡◌, ℕ, zero, suc, ◌<◌, ◌≤◌, List, length, get_or, refl, ap, ap₂, arith}
use Rattle.field.specs.Model.{Model}
use Rattle.hash.specs.Texts.{block, block_count, chunk_count, chunk_of}
use Rattle.hash.specs.Hash.{after, hash_of}

module _ (m : Model) (a b text : List ℕ) (alike : (c : ℕ) → c < chunk_count text → get_or a c 0 ≡ get_or b c 0) where
  after_same : (i : ℕ) → i ≤ block_count text → after m a text i ≡ after m b text i
  after_same zero few = refl
  after_same (suc i) few =
      ap₂ (λ (x k : ℕ). m.times (m.plus x (block text i)) k) (after_same i (omega arith)) (alike (chunk_of i) (omega arith))

  pub same_hash : hash_of m a text ≡ hash_of m b text
  same_hash = ap (λ (x : ℕ). m.plus x (length text)) (after_same (block_count text) (omega arith))
