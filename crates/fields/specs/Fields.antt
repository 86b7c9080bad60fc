-- The field that a number names: 0 is M61, and 1 is B63. Assumes nothing.
use Rattle.std.specs.Prelude.{ℕ, cond, List, Some, None, Option, ◌==◌}
use Rattle.refusal.specs.Outcomes.{Outcome, refuses}
use Rattle.field.specs.Model.{Model}
use Rattle.m61.specs.Mersenne.{m61}
use Rattle.b63.specs.Binary.{b63}
use Rattle.hash.specs.Hash.{hash_outcome}

abbrev pub field_called : ℕ → Option Model
field_called number = cond (number == 0) (Some m61) (cond (number == 1) (Some b63) None)

-- the hash over a field, if there is one
abbrev pub hash_over_field : Option Model → List ℕ → List ℕ → Outcome ℕ
hash_over_field None ks bytes = refuses 15
hash_over_field (Some m) ks bytes = hash_outcome m ks bytes
