use Rattle.std.proofs.Common.{◌≡◌}
use Rattle.chaskey.specs.Chaskey.{rounds_of}
use Rattle.chaskey.proofs.permute.Given as goal

abbrev pub invariant-loop : goal.invariant-loop
invariant-loop l = l.v ≡ rounds_of l.counter l.initial.v
