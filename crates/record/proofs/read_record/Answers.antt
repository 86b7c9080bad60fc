use Rattle.std.proofs.Common.{arith, ltb-false}
use Rattle.record.proofs.Framed.{framed}
use Rattle.record.proofs.read_record.Goals as goal

pub returns : goal.returns
returns c =
    framed c.args.input.now c.from_le_bytes-kind.result c.from_le_bytes-length.result _ _
    (omega (arith, ltb-false)) (omega arith) (omega arith) (omega arith) (omega arith)
    c.split_at.ensures.front c.split_at.ensures.back
