use Rattle.std.proofs.Common.{◌&&◌, ap₂}
use Rattle.b63.specs.Binary.{by_z, rows}
use Rattle.selftest.proofs.b63_agrees.Goals as goal

pub returns : goal.returns
unfolding by_z rows
returns c = ap₂ ◌&&◌ c.agrees.ensures c.agrees-2.ensures
