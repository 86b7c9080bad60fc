use Rattle.std.proofs.Common.{◌≡◌, ◌*◌, ◌^◌, ◌<◌, take}
use Rattle.hash.specs.Texts.{number}
use Rattle.hash.proofs.block_number.Given as goal

abbrev pub invariant-loop-i : goal.invariant-loop-i
invariant-loop-i l = (l.number ≡ number (take l.i l.block)) × (l.number < 2 ^ (8 * l.i))
