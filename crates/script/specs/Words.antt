-- The words of a line: they end at spaces. Assumes nothing.
use Rattle.std.specs.Prelude.{ℕ, Bool, List, length, ◌==◌, nat_lt}
use Rattle.std.specs.List.{position_or_len, before_first, after_first}
use Rattle.std.specs.Str.{trim_start}

-- without the white space in front
abbrev pub skipped : List ℕ → List ℕ
skipped s = trim_start s

-- whether the byte c is there, what stands before the first c, and what behind it
abbrev pub has : ℕ → List ℕ → Bool
has c s = nat_lt (position_or_len (λ x. x == c) s) (length s)

abbrev pub before : ℕ → List ℕ → List ℕ
before c s = before_first (λ x. x == c) s

abbrev pub behind : ℕ → List ℕ → List ℕ
behind c s = after_first (λ x. x == c) s

abbrev pub is_empty : List ℕ → Bool
is_empty s = length s == 0

-- the first word, and what follows the space behind it
abbrev pub word : List ℕ → List ℕ
word s = before 32 (skipped s)

abbrev pub after_word : List ℕ → List ℕ
after_word s = behind 32 (skipped s)
