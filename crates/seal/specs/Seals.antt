-- The seal of a text under a key and a draw, over any field and any cipher. Assumes nothing.
use Rattle.std.specs.Prelude.{◌≡◌, ℕ, ◌+◌, ◌^◌, ◌<◌, List, [], ◌∷◌, ◌++◌, map, slice_index}
use Rattle.std.specs.List.{range_with_len}
use Rattle.field.specs.Model.{Model}
use Rattle.hash.specs.Texts.{longest_text, chunk_count}
use Rattle.hash.specs.Hash.{hash_of}
use Rattle.cipher.specs.declared.Block.{Block}
use Rattle.cipher.specs.declared.Key.{Key}
use Rattle.seal.specs.Sealing.{Sealing}

-- f 0, f 1, .. up to n of them
abbrev pub from_zero : {X : Type 0} → (ℕ → X) → ℕ → List X
from_zero f n = map f (range_with_len 0 n)

-- the block that subkey c is read from
abbrev pub subkey_block : ℕ → Block
subkey_block c = record { first = 0; second = c }

module _ (m : Model) (f : Key → Block → Block) where
  -- subkey c of a key: the element meant by the first number of the cipher's answer
  abbrev pub subkey : Key → ℕ → ℕ
  subkey key c = m.means (f key (subkey_block c)).first

  -- the first n subkeys of a key
  abbrev pub ring : Key → ℕ → List ℕ
  ring key n = from_zero (subkey key) n

  -- the first n places of a ring list are the first n subkeys of a key
  abbrev pub Subkeys : Key → ℕ → List ℕ → Type 0
  Subkeys key n places = (c : ℕ) → c < n → slice_index places c ≡ subkey key c

  abbrev pub hash_under : Key → List ℕ → ℕ
  hash_under key text = hash_of m (ring key (chunk_count text)) text

  abbrev pub own_block : Key → ℕ → List ℕ → Block
  own_block key draw text = record { first = 2 ^ 63 + hash_under key text; second = draw }

  -- in the order in which they are asked for
  abbrev pub blocks : Key → ℕ → List ℕ → List Block
  blocks key draw text = from_zero subkey_block (chunk_count text) ++ own_block key draw text ∷ []

  abbrev pub the_seal_of : Key → ℕ → List ℕ → ℕ
  the_seal_of key draw text = (f key (own_block key draw text)).first

  abbrev pub sealing : Sealing
  sealing = record {
    longest = longest_text;
    chunks = chunk_count;
    answer = f;
    hash = hash_under;
    own_block = own_block;
    blocks = blocks;
    seal = the_seal_of;
  }
