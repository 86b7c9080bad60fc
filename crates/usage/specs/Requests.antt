-- What the first argument of a program asks for, where the program has none. Assumes nothing.
use Rattle.std.specs.Prelude.{ℕ, Bool, true, false, cond, List, Some, None, codes, Option}
use Rattle.std.specs.Str.{bytes_eq}
use Rattle.usage.specs.declared.Request.{Request}
use Rattle.usage.specs.declared.Request.TheVariants.{Run, Help, NotUnderstood}

abbrev pub requested : Option (List ℕ) → Request
requested None = Run
requested (Some argument) = cond (bytes_eq argument (codes "--help")) Help NotUnderstood

-- what was asked for, where the answer is whether to run; what is not understood has no answer
abbrev pub told_by : Bool → Request
told_by true = Run
told_by false = Help
