-- What the code reads of a row of subkeys. Assumes nothing.
use Rattle.std.specs.Prelude.{ℕ, ◌*◌, cond, List, length, drop, Some, None, Option, nat_lt}

-- what follows n subkeys, unless they are cut short
abbrev pub subkeys_read : ℕ → List ℕ → Option (List ℕ)
subkeys_read n bytes = cond (nat_lt (length bytes) (8 * n)) None (Some (drop (8 * n) bytes))
