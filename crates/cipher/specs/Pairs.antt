-- A key or a block as 16 bytes: its first number and then its second, highest byte first. Assumes nothing.
use Rattle.std.specs.Prelude.{List, ℕ}
use Rattle.cipher.specs.declared.Block.{Block}
use Rattle.cipher.specs.declared.Key.{Key}
use Rattle.cipher.specs.Bytes.{number_at, pair_bytes}

abbrev pub key_bytes : Key → List ℕ
key_bytes k = pair_bytes k.first k.second

abbrev pub key_of : List ℕ → Key
key_of bytes = record { first = number_at 8 0 bytes; second = number_at 8 8 bytes }

abbrev pub block_bytes : Block → List ℕ
block_bytes b = pair_bytes b.first b.second

abbrev pub block_of : List ℕ → Block
block_of bytes = record { first = number_at 8 0 bytes; second = number_at 8 8 bytes }
