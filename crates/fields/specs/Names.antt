-- The model that each name of the code stands for, and the numbers and words that stand for the name. Assumes nothing.
use Rattle.std.specs.Prelude.{ℕ, cond, List, Some, None, codes, Option, ◌==◌}
use Rattle.std.specs.Str.{bytes_eq}
use Rattle.refusal.specs.Outcomes.{Outcome, gives, refuses}
use Rattle.field.specs.Model.{Model}
use Rattle.m61.specs.Mersenne.{m61}
use Rattle.b63.specs.Binary.{b63}
use Rattle.fields.specs.declared.FieldName.{FieldName}
use Rattle.fields.specs.declared.FieldName.TheVariants.{M61, B63}

abbrev pub model_of : FieldName → Model
model_of M61 = m61
model_of B63 = b63

-- the name that a number stands for, or the refusal of one that stands for none
abbrev pub field_named : ℕ → Outcome FieldName
field_named number = cond (number == 0) (gives M61) (cond (number == 1) (gives B63) (refuses 15))

abbrev pub field_spelled : List ℕ → Option FieldName
field_spelled word = cond (bytes_eq word (codes "m61")) (Some M61) (cond (bytes_eq word (codes "b63")) (Some B63) None)
