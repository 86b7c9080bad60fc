-- A cipher asked with numbers of 16 bytes, highest byte first. Assumes nothing.
use Rattle.std.specs.Prelude.{ℕ}
use Rattle.cipher.specs.declared.Block.{Block}
use Rattle.cipher.specs.declared.Key.{Key}
use Rattle.cipher.specs.Bytes.{highest_first, number_at}
use Rattle.cipher.specs.Pairs.{key_of, block_of, block_bytes}

abbrev pub asked_of : (Key → Block → Block) → ℕ → ℕ → ℕ
asked_of f key block =
    number_at 16 0 (block_bytes (f (key_of (highest_first 16 key)) (block_of (highest_first 16 block))))
