use Rattle.std.proofs.Common.{◌≡◌, length, vec_items}
use Rattle.script.specs.Digits.{pairs}
use Rattle.script.proofs.Paired.{and_then}
use Rattle.script.proofs.hex.hex_bytes.Given as goal

-- the bytes so far, and those of the digits that are left
abbrev pub invariant-loop-rest : goal.invariant-loop-rest
invariant-loop-rest l = pairs l.digits ≡ and_then (vec_items l.bytes) (pairs l.rest)

abbrev pub decreases-loop-rest : goal.decreases-loop-rest
decreases-loop-rest l = length l.rest
