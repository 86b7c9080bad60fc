-- What a model must keep to be a field that the hash can use. Assumes nothing.
-- That only a zero factor makes a zero product is not among these laws.
use Rattle.std.specs.Prelude.{◌≡◌, ℕ, ◌^◌, ◌≤◌, ◌<◌}
use Rattle.field.specs.Model.{Model}

abbrev pub Element : Model → ℕ → Type 0
Element m a = a < m.size

pub record FieldLaws (m : Model) : Type 0 where
  -- a block of seven bytes is an element's own number, and an element fits 63 bits
  pub many : 2 ^ 56 < m.size
  pub few : m.size ≤ 2 ^ 63
  -- every number means an element, and an element's own number means that element
  pub means_below : (x : ℕ) → Element m (m.means x)
  pub means_own : (a : ℕ) → Element m a → m.means a ≡ a
  pub plus_below : (a b : ℕ) → Element m a → Element m b → Element m (m.plus a b)
  pub plus_comm : (a b : ℕ) → Element m a → Element m b → m.plus a b ≡ m.plus b a
  pub plus_assoc : (a b c : ℕ) → Element m a → Element m b → Element m c → m.plus (m.plus a b) c ≡ m.plus a (m.plus b c)
  pub plus_zero : (a : ℕ) → Element m a → m.plus a 0 ≡ a
  pub neg_below : (a : ℕ) → Element m a → Element m (m.neg a)
  pub plus_neg : (a : ℕ) → Element m a → m.plus a (m.neg a) ≡ 0
  pub times_below : (a b : ℕ) → Element m a → Element m b → Element m (m.times a b)
  pub times_comm : (a b : ℕ) → Element m a → Element m b → m.times a b ≡ m.times b a
  pub times_assoc : (a b c : ℕ) → Element m a → Element m b → Element m c → m.times (m.times a b) c ≡ m.times a (m.times b c)
  pub times_one : (a : ℕ) → Element m a → m.times a 1 ≡ a
  pub times_plus : (a b c : ℕ) → Element m a → Element m b → Element m c → m.times a (m.plus b c) ≡ m.plus (m.times a b) (m.times a c)
