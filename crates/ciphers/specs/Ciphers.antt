-- The ciphers, and the numbers and words that name them: 0 is Noekeon, and 1 is the Chaskey cipher. Assumes nothing.
use Rattle.std.specs.Prelude.{ℕ, cond, List, Some, None, codes, Option, ◌==◌}
use Rattle.std.specs.Str.{bytes_eq}
use Rattle.refusal.specs.Outcomes.{Outcome, gives, refuses}
use Rattle.cipher.specs.declared.Block.{Block}
use Rattle.cipher.specs.declared.Key.{Key}
use Rattle.noekeon.specs.Noekeon.{noekeon}
use Rattle.chaskey.specs.Chaskey.{chaskey}
use Rattle.ciphers.specs.declared.CipherName.{CipherName}
use Rattle.ciphers.specs.declared.CipherName.TheVariants.{Noekeon, Chaskey}

-- the function that a cipher is
abbrev pub function_of : CipherName → Key → Block → Block
function_of Noekeon = noekeon
function_of Chaskey = chaskey

-- the cipher, or the refusal of a number that names none
abbrev pub cipher_named : ℕ → Outcome CipherName
cipher_named number = cond (number == 0) (gives Noekeon) (cond (number == 1) (gives Chaskey) (refuses 15))

abbrev pub cipher_spelled : List ℕ → Option CipherName
cipher_spelled word =
    cond (bytes_eq word (codes "noekeon")) (Some Noekeon) (cond (bytes_eq word (codes "chaskey")) (Some Chaskey) None)
