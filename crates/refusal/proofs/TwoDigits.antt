-- A number below a hundred, printed in two places, is its two digits. Assumes nothing.
use Rattle.std.proofs.Common.{◌≡◌, ℕ, ◌-◌, ◌/◌, ◌%◌, ◌^◌, ◌<◌, ◌++◌, [], false, decimal, arith, lit<, ⊎_elim}
use Rattle.std.specs.Fmt.{char_count, padded_integral, format_spec, styled_decimal}
use Rattle.std.proofs.lemmas.Bool.{cases_lt}
use Rattle.std.proofs.lemmas.Fmt.{decimal_digit, decimal_step}
use Rattle.refusal.specs.declared.Refusal.{Refusal}
use Rattle.refusal.specs.declared.Refusal.TheVariants.{
  GraveOutOfRange,
  GraveNotFree,
  KeyUsed,
  GraveFreeOrClosed,
  GraveLocked,
  FourDrawsHeld,
  DrawsExhausted,
  DrawNotHeld,
  TextTooLong,
  RingTooShort,
  DrawNotHandedOut,
  SealWrong,
  SubkeyTooLarge,
  RecordCutShort,
  Undefined,
  BufferTooShort,
}
use Rattle.refusal.specs.Numbers.{number_of, digit}

below_hundred : (r : Refusal) → number_of r < 100
below_hundred GraveOutOfRange = lit< tt
below_hundred GraveNotFree = lit< tt
below_hundred KeyUsed = lit< tt
below_hundred GraveFreeOrClosed = lit< tt
below_hundred GraveLocked = lit< tt
below_hundred FourDrawsHeld = lit< tt
below_hundred DrawsExhausted = lit< tt
below_hundred DrawNotHeld = lit< tt
below_hundred TextTooLong = lit< tt
below_hundred RingTooShort = lit< tt
below_hundred DrawNotHandedOut = lit< tt
below_hundred SealWrong = lit< tt
below_hundred SubkeyTooLarge = lit< tt
below_hundred RecordCutShort = lit< tt
below_hundred Undefined = lit< tt
below_hundred BufferTooShort = lit< tt

in_two_places : (n : ℕ) → n < 100
    → padded_integral (format_spec 32 0 4 2 (2 ^ 64 - 1)) false [] (decimal n) ≡ digit (n / 10) ++ digit (n % 10)
unfolding padded_integral char_count
in_two_places n few = ⊎_elim
    (λ one. let tens : n / 10 ≡ 0 = omega arith in let ones : n % 10 ≡ n = omega arith in
    rw (decimal_digit n one, tens, ones))
    (λ two. rw (decimal_step n two (omega arith), decimal_digit (n / 10) (omega arith)))
    (cases_lt n 10)

pub two_digits : (r : Refusal) (n : ℕ) → n ≡ number_of r
    → styled_decimal (format_spec 32 0 4 2 (2 ^ 64 - 1)) n ≡ digit (number_of r / 10) ++ digit (number_of r % 10)
two_digits r n is = rw is (in_two_places (number_of r) (below_hundred r))
