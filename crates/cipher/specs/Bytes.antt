-- Numbers as bytes, highest byte first. Assumes nothing.
use Rattle.std.specs.Prelude.{List, [], ◌∷◌, ◌++◌, ℕ, zero, suc, ◌+◌, ◌*◌, ◌/◌, ◌%◌, ◌^◌, get_or}

-- the lowest n bytes of x, the highest of them first
abbrev pub highest_first : ℕ → ℕ → List ℕ
highest_first zero x = []
highest_first (suc n) x = (x / 256 ^ n % 256) ∷ highest_first n x

-- the number of the n bytes from place i on, the first of them the highest
abbrev pub number_at : ℕ → ℕ → List ℕ → ℕ
number_at zero i bytes = 0
number_at (suc n) i bytes = get_or bytes i 0 * 256 ^ n + number_at n (i + 1) bytes

-- two numbers of 64 bits, the first in front
abbrev pub pair_bytes : ℕ → ℕ → List ℕ
pair_bytes first second = highest_first 8 first ++ highest_first 8 second
