-- What is counted: the rings under which two texts have the same hash, or one text a given hash. Assumes nothing.
use Rattle.std.proofs.Common.{ℕ, eqb, List}
use Rattle.field.specs.Model.{Model}
use Rattle.hash.specs.Hash.{hash_of}
use Rattle.bound.proofs.Sums.{one_if}

abbrev pub meets : Model → List ℕ → List ℕ → List ℕ → ℕ
meets m a b ring = one_if (eqb (hash_of m ring a) (hash_of m ring b))

abbrev pub equals : Model → List ℕ → ℕ → List ℕ → ℕ
equals m text v ring = one_if (eqb (hash_of m ring text) v)
