-- The words for each reason. Assumes nothing.
use Rattle.std.specs.Prelude.{ℕ, List, codes}
use Rattle.script.specs.declared.reason.Reason.{Reason}
use Rattle.script.specs.declared.reason.Reason.TheVariants as is

abbrev pub words_of : Reason → List ℕ
words_of is.UnknownWord = codes "its first word is no call's name"
words_of is.WordMissing = codes "a word is missing"
words_of is.WordsTooMany = codes "there are words too many"
words_of is.NotAField = codes "a field is m61 or b63"
words_of is.NotACipher = codes "a cipher is noekeon or chaskey"
words_of is.NotARing = codes "a ring has 0 to 64 places"
words_of is.NotAGrave = codes "a grave is a number up to 65535"
words_of is.NotADraw = codes "a draw is a number"
words_of is.NotAKey = codes "a key has 32 hexadecimal digits"
words_of is.NotASeal = codes "a seal has 16 hexadecimal digits"
words_of is.NotAText = codes "a text is pairs of hexadecimal digits, - or quoted"
