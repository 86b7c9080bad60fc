-- The kinds of records, each with its number: 1 is the sealed sheet, and 2 asks for a hash. Assumes nothing.
use Rattle.std.specs.Prelude.{ℕ, cond, Some, None, Option, ◌==◌}
use Rattle.record.specs.declared.Kind.{Kind}
use Rattle.record.specs.declared.Kind.TheVariants.{SealedSheet, HashRequest}

abbrev pub number_of : Kind → ℕ
number_of SealedSheet = 1
number_of HashRequest = 2

-- the kind that a number stands for, if it stands for one
abbrev pub kind_named : ℕ → Option Kind
kind_named number = cond (number == 1) (Some SealedSheet) (cond (number == 2) (Some HashRequest) None)
