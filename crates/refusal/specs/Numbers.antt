-- The number of each refusal, and how a refusal is printed. Assumes nothing.
use Rattle.std.specs.Prelude.{ℕ, ◌+◌, ◌/◌, ◌%◌, List, [], ◌∷◌, ◌++◌, codes}
use Rattle.refusal.specs.declared.Refusal.{Refusal}
use Rattle.refusal.specs.declared.Refusal.TheVariants.{
  GraveOutOfRange,
  GraveNotFree,
  KeyUsed,
  GraveFreeOrClosed,
  GraveLocked,
  FourDrawsHeld,
  DrawsExhausted,
  DrawNotHeld,
  TextTooLong,
  RingTooShort,
  DrawNotHandedOut,
  SealWrong,
  SubkeyTooLarge,
  RecordCutShort,
  Undefined,
  BufferTooShort,
}

abbrev pub number_of : Refusal → ℕ
number_of GraveOutOfRange = 1
number_of GraveNotFree = 2
number_of KeyUsed = 3
number_of GraveFreeOrClosed = 4
number_of GraveLocked = 5
number_of FourDrawsHeld = 6
number_of DrawsExhausted = 7
number_of DrawNotHeld = 8
number_of TextTooLong = 9
number_of RingTooShort = 10
number_of DrawNotHandedOut = 11
number_of SealWrong = 12
number_of SubkeyTooLarge = 13
number_of RecordCutShort = 14
number_of Undefined = 15
number_of BufferTooShort = 16

-- the bytes of a digit
abbrev pub digit : ℕ → List ℕ
digit d = (48 + d) ∷ []

-- "refused " and two decimal digits
abbrev pub refused_line : ℕ → List ℕ
refused_line n = codes "refused " ++ (digit (n / 10) ++ digit (n % 10))

abbrev pub printed : Refusal → List ℕ
printed r = refused_line (number_of r)
