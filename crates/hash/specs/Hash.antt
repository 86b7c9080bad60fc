-- The hash of a text under a ring of subkeys, over any field. Assumes nothing.
use Rattle.std.specs.Prelude.{ℕ, zero, suc, Bool, false, ◌||◌, List, [], ◌∷◌, ◌++◌, map, length, nat_le, nat_lt, slice_index}
use Rattle.refusal.specs.Outcomes.{Cause, ◌when◌, Outcome, gives, decided}
use Rattle.field.specs.Model.{Model}
use Rattle.hash.specs.Texts.{longest_text, block_count, chunk_count, block, chunk_of}

-- A ring is a list of subkeys, of which subkey c serves chunk c.
abbrev pub subkey : List ℕ → ℕ → ℕ
subkey ring i = slice_index ring (chunk_of i)

-- x after the first i blocks: it starts at zero, and each block makes it (x + block) times the block's subkey
abbrev pub after : Model → List ℕ → List ℕ → ℕ → ℕ
after m ring text zero = 0
after m ring text (suc i) = m.times (m.plus (after m ring text i) (block text i)) (subkey ring i)

-- last, the text's length in bytes is added
abbrev pub hash_of : Model → List ℕ → List ℕ → ℕ
hash_of m ring text = m.plus (after m ring text (block_count text)) (length text)

-- some number of the list is n or above
abbrev pub some_from : ℕ → List ℕ → Bool
some_from n [] = false
some_from n (k ∷ ks) = nat_le n k || some_from n ks

-- why a text is not hashed, where a ring of so many places is provided
abbrev pub text_causes : List ℕ → ℕ → List Cause
text_causes text places =
    9 when nat_lt longest_text (length text)
    ∷ 10 when nat_lt places (chunk_count text)
    ∷ []

abbrev pub hash_causes : Model → List ℕ → List ℕ → List Cause
hash_causes m ring text = text_causes text (length ring) ++ 13 when some_from m.size ring ∷ []

abbrev pub hash_outcome : Model → List ℕ → List ℕ → Outcome ℕ
hash_outcome m ring text = decided (hash_causes m ring text) (gives (hash_of m ring text))

-- the same under a ring of working numbers, of which none is too large: each stands for the element that it means
abbrev pub working_outcome : Model → List ℕ → List ℕ → Outcome ℕ
working_outcome m ring text =
    decided (text_causes text (length ring)) (gives (hash_of m (map m.means ring) text))
