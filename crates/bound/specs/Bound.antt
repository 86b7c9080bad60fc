-- How seldom two different texts share a hash, over any field. Assumes nothing.
use Rattle.std.specs.Prelude.{◌≡◌, ℕ, ◌+◌, ◌-◌, ◌*◌, ◌^◌, ◌<◌, ◌≤◌, max, cond, ◌≢◌, ◌⊎◌, List, [], ◌∷◌, length, ◌==◌}
use Rattle.std.specs.List.{AllByRecursion}
use Rattle.field.specs.Model.{Model}
use Rattle.field.specs.Laws.{Element}
use Rattle.hash.specs.Texts.{longest_text, chunk_count}
use Rattle.hash.specs.Hash.{hash_of}
use Rattle.bound.specs.Counting.{AtMost, Exactly}

-- the premise: only a zero factor makes a zero product
abbrev pub OnlyZeroMakesZero : Model → Type 0
OnlyZeroMakesZero m = (a b : ℕ) → Element m a → Element m b → m.times a b ≡ 0 → (a ≡ 0) ⊎ (b ≡ 0)

abbrev pub Text : List ℕ → Type 0
Text text = (length text ≤ longest_text) × AllByRecursion (λ byte. byte < 256) text

-- a ring of c subkeys
abbrev pub Ring : Model → ℕ → List ℕ → Type 0
Ring m c ring = (length ring ≡ c) × AllByRecursion (Element m) ring

-- C, the chunks of the longer of two texts
abbrev pub chunks : List ℕ → List ℕ → ℕ
chunks a b = max (chunk_count a) (chunk_count b)

-- a ring of C subkeys under which the two texts have the same hash
abbrev pub Shares : Model → List ℕ → List ℕ → List ℕ → Type 0
Shares m a b ring = Ring m (chunks a b) ring × (hash_of m ring a ≡ hash_of m ring b)

-- what is said of any two different texts
abbrev pub OfDifferentTexts : (List ℕ → List ℕ → Type 0) → Type 0
OfDifferentTexts P = (a b : List ℕ) → Text a → Text b → a ≢ b → P a b

-- With N elements in the field, there are N ^ C rings of C subkeys, and two different texts share a hash under few.
-- No division is needed to read it: at most k * N ^ (C - 1) of N ^ C rings are at most k in N.
pub record CollisionBound (m : Model) : Type 0 where
  pub rings : (c : ℕ) → Exactly (m.size ^ c) (Ring m c)
  pub few : OfDifferentTexts (λ a b. AtMost ((2048 + chunks a b) * m.size ^ (chunks a b - 1)) (Shares m a b))
  pub few_in_one_chunk : OfDifferentTexts (λ a b. chunks a b ≡ 1 → AtMost 1024 (Shares m a b))
  -- a text has at most eight chunks, so the first bound stands without the chunks beside 2048
  pub fewer : OfDifferentTexts (λ a b. AtMost (2048 * m.size ^ (chunks a b - 1)) (Shares m a b))
  -- and of the rings without a zero subkey
  pub fewer_without_zero : OfDifferentTexts (λ a b.
      AtMost (2048 * (m.size - 1) ^ (chunks a b - 1)) (λ ring. Shares m a b ring × AllByRecursion (λ k. k ≢ 0) ring))
  -- some texts do share a hash under some ring: the empty text and the byte 1, under the negative of one
  pub not_none : Shares m [] (1 ∷ []) (m.neg 1 ∷ [])

-- in how many of N rings at most two different texts share a hash, where the longer has c chunks
abbrev pub share : ℕ → ℕ
share c = cond (c == 1) 1024 (2048 + c)

-- under the premise, if the two texts differ, at most k in N rings give them the same hash
abbrev pub ShareAtMost : Model → ℕ → List ℕ → List ℕ → Type 0
ShareAtMost m k a b =
    OnlyZeroMakesZero m → Text a → Text b → a ≢ b → AtMost (k * m.size ^ (chunks a b - 1)) (Shares m a b)
