use Rattle.std.proofs.Common.{◌≡◌, ◌++◌, length, string_bytes}
use Rattle.listing.specs.Lines.{listing_of}
use Rattle.listing.proofs.listing.Given as goal

-- what is written, with the listing of the rest, is the whole listing
abbrev pub invariant-loop-rest : goal.invariant-loop-rest
invariant-loop-rest l = string_bytes l.text ++ listing_of l.rest ≡ listing_of l.input

abbrev pub decreases-loop-rest : goal.decreases-loop-rest
decreases-loop-rest l = length l.rest
