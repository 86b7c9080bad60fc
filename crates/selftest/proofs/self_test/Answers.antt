use Rattle.std.proofs.Common.{◌&&◌, refl, ap₂}
use Rattle.b63.specs.Binary.{by_z, rows}
use Rattle.selftest.specs.Rows.{RowsHold}
use Rattle.selftest.proofs.self_test.Goals as goal

rows_hold : RowsHold
unfolding by_z rows
rows_hold = (refl, (refl, (refl, (refl, (refl, (refl, (refl, (refl, (refl, tt)))))))))

pub returns : goal.returns
returns c = record { passes = ap₂ ◌&&◌ c.m61_agrees.ensures c.b63_agrees.ensures; rows = rows_hold }
