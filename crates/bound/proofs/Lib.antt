-- polynomials over a domain
mod Domain
mod Roots
mod Differences
-- the hash's rule as a polynomial in one subkey
mod Horner
mod Behind
mod OneSubkey
-- lists, sums and all rings
mod Each
mod Apart
mod Members
mod Sums
mod Rings
mod Put
mod Places
mod Zeros
mod Keys
mod Counts
mod RingsInAll
-- elements and texts
mod Elements
mod Agreement
mod Texts
mod Chunks
mod Hashes
mod HashPolynomial
mod LastChunk
-- the three cases, and the theorem
mod Meets
mod SameLength
mod SameChunks
mod MoreChunks
mod Longer
mod EitherOrder
mod SomeCollision
pub mod Theorem
