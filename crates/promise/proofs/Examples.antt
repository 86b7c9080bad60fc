-- The examples, by computing; and that any calls make a run. Assumes nothing.
use Rattle.std.proofs.Common.{List, [], ◌∷◌, refl}
use Rattle.seal.specs.Sealing.{Sealing}
use Rattle.promise.specs.History.{Call}
use Rattle.promise.specs.Register.{Reached, fresh, next_call}
use Rattle.promise.specs.Runs.{left_by, heard}
use Rattle.promise.specs.Examples.{Examples}

pub examples : Examples
examples = record {
  sealed = refl;
  passes = refl;
  supersedes = refl;
  one_sheet = refl;
  wrong_seal = refl;
  wrong_draw = refl;
  bears_three = refl;
  locks = refl;
  clears = refl;
  locks_one = refl;
  closes = refl;
  keeps_its_key = refl;
  holds_four = refl;
  voids_one = refl;
}

pub any_calls : (S : Sealing) (cs : List Call) → Reached S (heard S cs) (left_by S cs)
any_calls S [] = fresh
any_calls S (c ∷ cs) = next_call (any_calls S cs) c
