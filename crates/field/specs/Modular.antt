-- Counting modulo n, as a model of a field. Assumes nothing.
use Rattle.std.specs.Prelude.{ℕ, ◌+◌, ◌-◌, ◌*◌, ◌%◌}
use Rattle.field.specs.Model.{Model}

abbrev pub modulo : ℕ → Model
modulo n = record {
  size = n;
  means = λ x. x % n;
  plus = λ a b. (a + b) % n;
  times = λ a b. (a * b) % n;
  neg = λ a. (n - a) % n;
}
