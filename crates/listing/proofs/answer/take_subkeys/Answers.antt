use Rattle.std.proofs.Common.{arith}
use Rattle.byte_rows.proofs.Fronts.{front_some}
use Rattle.listing.proofs.Subkeys.{turned}
use Rattle.listing.proofs.answer.take_subkeys.Goals as goal

pub loop-place-preserved : goal.loop-place-preserved
loop-place-preserved c =
    turned c.in_ok-subkey.subkey c.in_ok-subkey.more.now c.loop-place.invariant (omega arith)
    (front_some 8 c.loop-place.rest.now c.in_ok-subkey.more.now c.in_ok-subkey.subkey c.in_ok-subkey.ensures)
