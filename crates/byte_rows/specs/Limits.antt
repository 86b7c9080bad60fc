-- How long a text may be. Assumes nothing.
use Rattle.std.specs.Prelude.{ℕ}

-- the most bytes of a text: eight chunks of 1024 blocks of seven
abbrev pub longest_text : ℕ
longest_text = 57344
