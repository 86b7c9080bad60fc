-- The digits of hexadecimal texts, as ASCII codes. Assumes nothing.
use Rattle.std.specs.Prelude.{ℕ, ◌+◌, ◌-◌, ◌*◌, cond, ◌&&◌, List, [], ◌∷◌, Some, None, Option, nat_le}

-- 0 to 9, then a to f in either case
abbrev pub digit_value : ℕ → Option ℕ
digit_value code =
    cond (nat_le 48 code && nat_le code 57) (Some (code - 48))
    (cond (nat_le 97 code && nat_le code 102) (Some (code - 87))
    (cond (nat_le 65 code && nat_le code 70) (Some (code - 55)) None))

-- a byte of two digits, the high one first
abbrev pub joined : Option ℕ → Option ℕ → Option ℕ
joined None low = None
joined (Some a) None = None
joined (Some a) (Some b) = Some (16 * a + b)

abbrev pub pair_value : ℕ → ℕ → Option ℕ
pair_value high low = joined (digit_value high) (digit_value low)

abbrev pub put_first : Option ℕ → Option (List ℕ) → Option (List ℕ)
put_first None bytes = None
put_first (Some b) None = None
put_first (Some b) (Some bs) = Some (b ∷ bs)

-- the bytes that pairs of digits stand for; none where something else is there
abbrev pub pairs : List ℕ → Option (List ℕ)
pairs [] = Some []
pairs (high ∷ []) = None
pairs (high ∷ low ∷ rest) = put_first (pair_value high low) (pairs rest)
