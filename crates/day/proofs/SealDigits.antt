-- A seal is printed in 16 places, with zeros in front. Assumes nothing.
use Rattle.std.proofs.Common.{◌≡◌, ℕ, ◌-◌, ◌^◌, ◌++◌, [], false, length, replicate, ap, append-nil, arith}
use Rattle.std.specs.Fmt.{char_count, digits, format_spec, padded_integral}
use Rattle.day.specs.Printing.{seal_digits}

pub in_sixteen_places : (s : ℕ)
    → padded_integral (format_spec 32 0 4 16 (2 ^ 64 - 1)) false [] (digits 16 false s) ≡ seal_digits s
unfolding padded_integral char_count
in_sixteen_places s =
    let ds = digits 16 false s in
    let places : 16 - length ds - 0 - 0 ≡ 16 - length ds = omega arith in
    simp append-nil (ap (λ k. replicate k 48 ++ ds) places)
