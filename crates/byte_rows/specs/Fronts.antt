-- A number of n bytes at the front of a row of bytes. Assumes nothing.
use Rattle.std.specs.Prelude.{ℕ, cond, List, length, take, drop, Some, None, Option, nat_lt}
use Rattle.std.specs.Borrow.{Bor}
use Rattle.byte_rows.specs.Numbers.{number}

-- the number and what follows it, unless fewer than n bytes are there
abbrev pub front : ℕ → List ℕ → Option (ℕ × List ℕ)
front n bytes = cond (nat_lt (length bytes) n) None (Some (number (take n bytes), drop n bytes))

-- what the code answers, its number taken as a whole one and its reference read
abbrev pub read : {X : Type 0} → (X → ℕ) → Option (X × Bor (List ℕ)) → Option (ℕ × List ℕ)
read value None = None
read value (Some x) = Some (value x.0, x.1.now)
