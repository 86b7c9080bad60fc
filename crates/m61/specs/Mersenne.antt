-- M61: the whole numbers modulo the prime 2 ^ 61 - 1. Assumes nothing.
use Rattle.std.specs.Prelude.{ℕ, ◌-◌, ◌^◌}
use Rattle.field.specs.Model.{Model}
use Rattle.field.specs.Modular.{modulo}

abbrev pub prime : ℕ
prime = 2 ^ 61 - 1

abbrev pub m61 : Model
m61 = modulo prime

-- the element that a working number means
abbrev pub means61 : ℕ → ℕ
means61 x = m61.means x
