-- A text, as the hash cuts it: blocks of seven bytes, and chunks of 1024 blocks. Assumes nothing.
use Rattle.std.specs.Prelude.{ℕ, ◌+◌, ◌-◌, ◌*◌, ◌/◌, List, length, take, drop}
pub use Rattle.byte_rows.specs.Limits.{longest_text}
pub use Rattle.byte_rows.specs.Numbers.{number}

abbrev pub block_bytes : ℕ
block_bytes = 7

abbrev pub chunk_blocks : ℕ
chunk_blocks = 1024

-- how many groups of k the n things make, of which the last may be smaller
abbrev pub groups : ℕ → ℕ → ℕ
groups n k = (n + (k - 1)) / k

abbrev pub block_count : List ℕ → ℕ
block_count text = groups (length text) block_bytes

abbrev pub chunk_count : List ℕ → ℕ
chunk_count text = groups (block_count text) chunk_blocks

-- the number of block i; what the last block lacks counts as zero bytes
abbrev pub block : List ℕ → ℕ → ℕ
block text i = number (take block_bytes (drop (block_bytes * i) text))

-- the chunk that block i is in
abbrev pub chunk_of : ℕ → ℕ
chunk_of i = i / chunk_blocks
