-- Worked examples of the hash. Assumes nothing.
use Rattle.std.specs.Prelude.{◌≡◌, ℕ, ◌-◌, ◌^◌, Bool, false, List, [], ◌∷◌, ◌==◌}
use Rattle.std.specs.List.{AllByRecursion}
use Rattle.refusal.specs.Outcomes.{Outcome, gives, refuses}
use Rattle.field.specs.Model.{Model}
use Rattle.m61.specs.Mersenne.{m61}
use Rattle.b63.specs.Binary.{b63}
use Rattle.hash.specs.Hash.{hash_outcome}

pub record Row : Type 0 where
  pub field : Model
  pub ring : List ℕ
  pub text : List ℕ
  pub hash : ℕ

abbrev row : Model → List ℕ → List ℕ → ℕ → Row
row m ring text hash = record { field = m; ring = ring; text = text; hash = hash }

abbrev pub rows : List Row
rows =
    row m61 [] [] 0
    ∷ row m61 (2 ∷ []) (1 ∷ []) 3
    ∷ row m61 (9 ∷ []) (0 ∷ []) 1
    -- the product is the prime less the length, so the sum lands on the prime
    ∷ row m61 ((2 ^ 61 - 2) ∷ []) (1 ∷ []) 0
    -- two blocks: (1 * 3 + 2) * 3 + 8
    ∷ row m61 (3 ∷ []) (1 ∷ 0 ∷ 0 ∷ 0 ∷ 0 ∷ 0 ∷ 0 ∷ 2 ∷ []) 23
    -- the same without carries: (1 * 3 + 2) * 3 is 3, and 8 is added to it
    ∷ row b63 (3 ∷ []) (1 ∷ 0 ∷ 0 ∷ 0 ∷ 0 ∷ 0 ∷ 0 ∷ 2 ∷ []) 11
    -- z * z^62 is z + 1, and 1 is added to it
    ∷ row b63 ((2 ^ 62) ∷ []) (2 ∷ []) 2
    -- 4 * 2 ^ 60 is 2 ^ 62, which means 2
    ∷ row m61 ((2 ^ 60) ∷ []) (4 ∷ []) 3
    -- the second byte counts 256
    ∷ row m61 (1 ∷ []) (0 ∷ 1 ∷ []) 258
    ∷ []

-- the definition gives a row's hash
abbrev pub Holds : Row → Type 0
Holds r = hash_outcome r.field r.ring r.text ≡ gives r.hash

abbrev pub RowsHold : Type 0
RowsHold = AllByRecursion Holds rows

-- whether an outcome is this value
abbrev pub is_value : ℕ → Outcome ℕ → Bool
is_value n (gives h) = h == n
is_value n (refuses k) = false
