-- A field's elements as a type of their own, so that its laws have no side conditions. Assumes nothing.
use mathlib.Core.Path.{◌≡◌}
use mathlib.Core.HLevel.{Σ_prop_path}
use Prim.Native.Nat.{ℕ, suc}
use native.Mathlib.Bridge.{le_prop}
use native.Mathlib.Omega.{arith}
use Rattle.field.specs.Model.{Model}
use Rattle.field.specs.Laws.{Element, FieldLaws}

abbrev pub El : Model → Type 0
El m = (x : ℕ) × Element m x

pub same : (m : Model) (x y : El m) → x.0 ≡ y.0 → x ≡ y
same m x y e = Σ_prop_path (λ (k : ℕ). le_prop {n = suc k} {m = m.size}) {u = x} {v = y} e

module _ {m : Model} (F : FieldLaws m) where
  -- the element that a number means
  unfoldable pub el : ℕ → El m
  el x = (m.means x, F.means_below x)

  pub el_own : (x : ℕ) → Element m x → (el x).0 ≡ x
  unfolding el
  el_own x h = F.means_own x h

  pub el_of : (x : El m) → el x.0 ≡ x
  el_of x = same m (el x.0) x (el_own x.0 x.1)

  abbrev pub 𝟘 : El m
  𝟘 = (0, omega (arith, F.many))

  abbrev pub 𝟙 : El m
  𝟙 = (1, omega (arith, F.many))

  abbrev pub plus : El m → El m → El m
  plus x y = (m.plus x.0 y.0, F.plus_below x.0 y.0 x.1 y.1)

  abbrev pub times : El m → El m → El m
  times x y = (m.times x.0 y.0, F.times_below x.0 y.0 x.1 y.1)

  abbrev pub neg : El m → El m
  neg x = (m.neg x.0, F.neg_below x.0 x.1)
