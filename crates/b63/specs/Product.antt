-- The product of two elements. Assumes nothing.
use Rattle.std.specs.Prelude.{◌≡◌, ℕ, zero, suc, ◌*◌, ◌/◌, ◌%◌, ◌^◌, ◌≤◌, ◌<◌}
use Rattle.std.proofs.Common.{sym, ap, ap₂, ◌∙◌, mul-one, mod-lt, mod-eq_of_lt, add-one, arith, lit<, lit≤, pow_pos, pow_mono}
use Rattle.std.proofs.Math.Nat.{mod-one}
use Rattle.std.specs.Int.Bits.{bit_xor, xor_shifted}
use Rattle.std.proofs.lemmas.Nat.{xor_comm, xor_lt, mod-pow-add}
use Rattle.b63.specs.Binary.{by_z, rows, times63}
use Rattle.b63.specs.Bit.{bit_lt}
use Rattle.b63.specs.Rows.{past_factor, rows_plus, rows_up, rows_suc}
use Rattle.b63.specs.ByZ.{by_z_plus, by_z_short, by_z_lt}

pub rows_lt : (k a b : ℕ) → b < 2 ^ 63 → rows by_z k a b < 2 ^ 63
unfolding rows
rows_lt zero a b h = lit< tt
rows_lt (suc k) a b h =
    xor_lt 63 ((a % 2) * b) (rows by_z k (a / 2) (by_z b))
    (bit_lt a b (2 ^ 63) h) (rows_lt k (a / 2) (by_z b) (by_z_lt b h))

rows_by_one : (k a : ℕ) → k ≤ 63 → rows by_z k a 1 ≡ a % 2 ^ k
unfolding rows
rows_by_one zero a h = sym (mod-one a)
rows_by_one (suc k) a h =
    let r : ℕ = a / 2 % 2 ^ k in
    let few : k ≤ 62 = omega arith in
    let more = pow_mono few in
    let small : r < 2 ^ 62 = omega (arith, mod-lt (a / 2) (pow_pos k)) in
    rows_suc by_z by_z_plus k a 1
    ∙ ap₂ bit_xor (mul-one (a % 2)) (ap by_z (rows_by_one k (a / 2) (omega arith)) ∙ by_z_short r small)
    ∙ xor_comm (a % 2) (r * 2)
    ∙ xor_shifted r 1 (a % 2) (mod-lt a (lit< tt))
    ∙ sym (mod-pow-add a k 1)
    ∙ ap (λ (j : ℕ). a % 2 ^ j) (add-one k)

pub times_plus : (a b c : ℕ) → times63 a (bit_xor b c) ≡ bit_xor (times63 a b) (times63 a c)
times_plus a = rows_plus by_z by_z_plus 63 a

-- a factor comes past another product
pub times_left : (a b c : ℕ) → times63 a (times63 b c) ≡ times63 b (times63 a c)
times_left a b c = past_factor by_z by_z_plus (times63 a) (times_plus a) (rows_up by_z by_z_plus 63 a) 63 b c

pub times_one : (a : ℕ) → a < 2 ^ 63 → times63 a 1 ≡ a
times_one a h = rows_by_one 63 a (lit≤ tt) ∙ mod-eq_of_lt h

pub times_comm : (a b : ℕ) → a < 2 ^ 63 → b < 2 ^ 63 → times63 a b ≡ times63 b a
times_comm a b ha hb =
    sym (ap (times63 a) (times_one b hb)) ∙ times_left a b 1 ∙ ap (times63 b) (times_one a ha)

pub times_assoc : (a b c : ℕ) → a < 2 ^ 63 → b < 2 ^ 63 → c < 2 ^ 63
    → times63 (times63 a b) c ≡ times63 a (times63 b c)
times_assoc a b c ha hb hc =
    times_comm (times63 a b) c (rows_lt 63 a b hb) hc
    ∙ times_left c a b
    ∙ ap (times63 a) (times_comm c b hc hb)
