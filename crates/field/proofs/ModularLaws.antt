-- Counting modulo n keeps the laws of a field, if n lies within the bounds on a field's size. Assumes nothing.
use mathlib.Core.Path.{ap, ◌∙◌}
use Prim.Native.Nat.{ℕ, ◌+◌, ◌-◌, ◌*◌, ◌%◌, ◌^◌, ◌<◌, ◌≤◌}
use native.Mathlib.Nat.{mul_comm, add_comm, add-zero, mul-one, mod-lt, mod-eq_of_lt}
use native.Mathlib.Omega.{arith}
use Rattle.field.specs.Laws.{FieldLaws}
use Rattle.field.specs.Modular.{modulo}
use Rattle.field.proofs.Modular.{mod_plus_assoc, mod_times_assoc, mod_times_plus, mod_neg}

module _ (n : ℕ) (many : 2 ^ 56 < n) (few : n ≤ 2 ^ 63) where
  reduced : (x : ℕ) → x % n < n
  reduced x = mod-lt x (omega arith)

  pub modulo_laws : FieldLaws (modulo n)
  modulo_laws = record {
    many = many;
    few = few;
    means_below = reduced;
    means_own = λ a h. mod-eq_of_lt h;
    plus_below = λ a b ha hb. reduced (a + b);
    plus_comm = λ a b ha hb. ap (λ (x : ℕ). x % n) (add_comm a b);
    plus_assoc = λ a b c ha hb hc. mod_plus_assoc n a b c;
    plus_zero = λ a h. ap (λ (x : ℕ). x % n) (add-zero a) ∙ mod-eq_of_lt h;
    neg_below = λ a h. reduced (n - a);
    plus_neg = λ a h. mod_neg n a h;
    times_below = λ a b ha hb. reduced (a * b);
    times_comm = λ a b ha hb. ap (λ (x : ℕ). x % n) (mul_comm a b);
    times_assoc = λ a b c ha hb hc. mod_times_assoc n a b c;
    times_one = λ a h. ap (λ (x : ℕ). x % n) (mul-one a) ∙ mod-eq_of_lt h;
    times_plus = λ a b c ha hb hc. mod_times_plus n a b c;
  }
