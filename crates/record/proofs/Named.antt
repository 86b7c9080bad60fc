-- A number that stands for a kind is the kind's number. Assumes nothing.
use Rattle.std.proofs.Common.{◌≡◌, ℕ, Some, arith}
use Rattle.std.proofs.lemmas.Bool.Decides.{nat_tests}
use Rattle.record.specs.declared.Kind.{Kind}
use Rattle.record.specs.Kinds.{number_of, kind_named}

pub named : (n : ℕ) (k : Kind) → Some k ≡ kind_named n → n ≡ number_of k
named n k is = grind (arith, nat_tests)
