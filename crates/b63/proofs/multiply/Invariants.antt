use Rattle.std.proofs.Common.{◌≡◌, ◌-◌, ◌*◌, ◌/◌, ◌^◌}
use Rattle.b63.specs.Binary.{by_z, rows}
use Rattle.b63.proofs.multiply.Given as goal

-- the coefficients of x from z^(4 * i) up are done
abbrev pub invariant-loop-i : goal.invariant-loop-i
invariant-loop-i l = l.r ≡ rows by_z (64 - 4 * l.i) (l.x / 2 ^ (4 * l.i)) l.y
