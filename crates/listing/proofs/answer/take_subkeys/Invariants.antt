use Rattle.listing.proofs.Subkeys.{Sofar}
use Rattle.listing.proofs.answer.take_subkeys.Given as goal

abbrev pub invariant-loop-place : goal.invariant-loop-place
invariant-loop-place l = Sofar l.bytes l.place-index l.ring l.rest
