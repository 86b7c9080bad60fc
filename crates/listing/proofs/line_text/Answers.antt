use Rattle.std.proofs.Common.{arith}
use Rattle.listing.proofs.Hex.{sixteen_places}
use Rattle.listing.proofs.line_text.Goals as goal

pub returns-in-Ok : goal.returns-in-Ok
returns-in-Ok c =
    let digits = sixteen_places c.in-Ok.hash (omega arith) in
    rw c.in-Ok.is (simp (c.laid_out.ensures, c.in_radix.ensures, digits) at c.format.ensures.ok)
