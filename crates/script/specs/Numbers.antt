-- The numbers that words write, in a radix. Assumes nothing.
use Rattle.std.specs.Prelude.{ℕ, ◌^◌, Bool, true, cond, not, ◌&&◌, List, [], ◌∷◌, length, Some, None, Option, ◌==◌, nat_lt, slice_index}
use Rattle.std.specs.Str.Parse.{digits_value, without_leading_plus}
use Rattle.std.specs.Char.{digit_value}
use Rattle.cipher.specs.declared.Key.{Key}
use Rattle.cipher.specs.Bytes.{highest_first}
use Rattle.cipher.specs.Pairs.{key_of}

abbrev pub when : {A : Type 0} → Bool → A → Option A
when test x = cond test (Some x) None

-- digits of the radix and nothing else
abbrev pub all_digits : ℕ → List ℕ → Bool
all_digits radix [] = true
all_digits radix (c ∷ cs) = nat_lt (digit_value c) radix && all_digits radix cs

-- one digit or more, that write a number of k bits
abbrev pub writes_number : ℕ → ℕ → List ℕ → Bool
writes_number k radix ds = (nat_lt 0 (length ds) && all_digits radix ds) && nat_lt (digits_value radix ds) (2 ^ k)

-- the number of k bits that a word writes; a plus may stand in front
unfoldable pub number : ℕ → ℕ → List ℕ → Option ℕ
number k radix w = when (writes_number k radix (without_leading_plus w)) (digits_value radix (without_leading_plus w))

-- just n hexadecimal digits
abbrev pub exact : ℕ → List ℕ → Bool
exact n w = length w == n && not (slice_index w 0 == 43)

-- a seal's number, of 16 digits
unfoldable pub the_seal_of : List ℕ → Option ℕ
the_seal_of w = cond (exact 16 w) (number 64 16 w) None

-- the key whose bytes are those of a number, the highest first
abbrev pub as_key : Option ℕ → Option Key
as_key None = None
as_key (Some n) = Some (key_of (highest_first 16 n))

-- a key, of 32 digits
unfoldable pub key_named : List ℕ → Option Key
key_named w = cond (exact 32 w) (as_key (number 128 16 w)) None
