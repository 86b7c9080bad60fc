-- What is known of a seal above this crate: over one field and one cipher, and without either in sight. Assumes nothing.
use Rattle.std.specs.Prelude.{◌≡◌, ℕ, Bool, ◌⊎◌, List, [], ◌∷◌, length, ◌==◌, nat_lt}
use Rattle.refusal.specs.Outcomes.{Cause, ◌when◌, Outcome, gives, decided}
use Rattle.cipher.specs.declared.Block.{Block}
use Rattle.cipher.specs.declared.Key.{Key}

pub record Sealing : Type 0 where
  -- the most bytes that a text may have, and how many subkeys it takes
  pub longest : ℕ
  pub chunks : List ℕ → ℕ
  -- the cipher's answer to a block under a key
  pub answer : Key → Block → Block
  -- the hash of a text under the subkeys of a key
  pub hash : Key → List ℕ → ℕ
  -- of a key, a draw and a text: the block that the seal is read from, all blocks that making the seal asks the
  -- cipher for, in order, and the seal
  pub own_block : Key → ℕ → List ℕ → Block
  pub blocks : Key → ℕ → List ℕ → List Block
  pub seal : Key → ℕ → List ℕ → ℕ

abbrev pub Among : {X : Type 0} → X → List X → Type 0
Among x [] = ⊥
Among x (y ∷ ys) = (x ≡ y) ⊎ Among x ys

pub record SealingLaws (S : Sealing) : Type 0 where
  -- a seal is the first number of the cipher's answer to the seal's own block
  pub seal_answer : (k : Key) (d : ℕ) (x : List ℕ) → S.seal k d x ≡ (S.answer k (S.own_block k d x)).first
  -- own blocks are alike only where draw and hash are
  pub own_alike : (k : Key) (d e : ℕ) (x y : List ℕ) → S.own_block k d x ≡ S.own_block k e y
      → (d ≡ e) × (S.hash k x ≡ S.hash k y)
  -- no subkey's block is ever a seal's own: an own block that a seal asks for is that seal's own
  pub own_apart : (k : Key) (d e : ℕ) (x y : List ℕ) → Among (S.own_block k d x) (S.blocks k e y)
      → S.own_block k d x ≡ S.own_block k e y

-- why a text is not sealed, where a ring list of so many places is lent
abbrev pub text_causes : Sealing → List ℕ → ℕ → List Cause
text_causes S text places =
    9 when nat_lt S.longest (length text)
    ∷ 10 when nat_lt places (S.chunks text)
    ∷ []

abbrev pub seal_outcome : Sealing → Key → ℕ → List ℕ → ℕ → Outcome ℕ
seal_outcome S key draw text places = decided (text_causes S text places) (gives (S.seal key draw text))

-- whether a seal is the text's
abbrev pub check_outcome : Sealing → Key → ℕ → List ℕ → ℕ → ℕ → Outcome Bool
check_outcome S key draw text seal places =
    decided (text_causes S text places) (gives (seal == S.seal key draw text))
