-- The exclusive or, which adds polynomials, and the maps that keep sums. Assumes nothing.
use Rattle.std.specs.Prelude.{◌≡◌, ℕ, ◌*◌}
use Rattle.std.proofs.Common.{sym, ap, ◌∙◌, add-zero, lit<}
use Rattle.std.specs.Int.Bits.{bit_xor, xor_zero_l, xor_zero_r, xor_self, xor_assoc}
use Rattle.std.proofs.lemmas.Nat.{xor_comm, xor_block}

pub xor_left : (a b c : ℕ) → bit_xor a (bit_xor b c) ≡ bit_xor b (bit_xor a c)
xor_left a b c = sym (xor_assoc a b c) ∙ ap (λ (u : ℕ). bit_xor u c) (xor_comm a b) ∙ xor_assoc b a c

pub xor_cancel : (a b : ℕ) → bit_xor a (bit_xor a b) ≡ b
xor_cancel a b = sym (xor_assoc a a b) ∙ ap (λ (u : ℕ). bit_xor u b) (xor_self a)

-- brings a sum of several into one order, and drops what stands in it twice
pub ruleset in_order = (xor_self, xor_cancel, xor_zero_l, xor_zero_r, xor_assoc, xor_comm, xor_left)

-- what keeps sums
abbrev pub Additive : (ℕ → ℕ) → Type 0
Additive F = (x y : ℕ) → F (bit_xor x y) ≡ bit_xor (F x) (F y)

pub keeps_zero : (F : ℕ → ℕ) → Additive F → F 0 ≡ 0
keeps_zero F plus = plus 0 0 ∙ xor_self (F 0)

pub double_plus : Additive (λ x. x * 2)
double_plus x y = sym (simp add-zero at (xor_block 1 x y 0 0 (lit< tt) (lit< tt)))
