-- The name that a number stands for is of the field that the number is of. Assumes nothing.
use Rattle.std.proofs.Common.{◌≡◌, ℕ, Bool, true, false, cond, ◌==◌, Some, None, refl}
use Rattle.refusal.specs.Outcomes.{gives, refuses}
use Rattle.m61.specs.Mersenne.{m61}
use Rattle.b63.specs.Binary.{b63}
use Rattle.fields.specs.declared.FieldName.{FieldName}
use Rattle.fields.specs.declared.FieldName.TheVariants.{M61, B63}
use Rattle.fields.specs.Fields.{field_called}
use Rattle.fields.specs.Names.{model_of, field_named}

by_tests : (zero one : Bool) (f : FieldName)
    → gives f ≡ cond zero (gives M61) (cond one (gives B63) (refuses 15))
    → cond zero (Some m61) (cond one (Some b63) None) ≡ Some (model_of f)
by_tests true one M61 is = refl
by_tests true one B63 is = cc
by_tests false true M61 is = cc
by_tests false true B63 is = refl
by_tests false false f is = cc

pub called : (n : ℕ) (f : FieldName) → gives f ≡ field_named n → field_called n ≡ Some (model_of f)
called n f is = by_tests (n == 0) (n == 1) f is

by_tests_not : (zero one : Bool) (w : ℕ)
    → refuses w ≡ cond zero (gives M61) (cond one (gives B63) (refuses 15))
    → (cond zero (Some m61) (cond one (Some b63) None) ≡ None) × (w ≡ 15)
by_tests_not true one w is = cc
by_tests_not false true w is = cc
by_tests_not false false w is = (refl, cc)

pub uncalled : (n w : ℕ) → refuses w ≡ field_named n → (field_called n ≡ None) × (w ≡ 15)
uncalled n w is = by_tests_not (n == 0) (n == 1) w is
