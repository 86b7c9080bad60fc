use Rattle.std.proofs.Common.{◌≡◌, ℕ, ◌+◌, ◌*◌, ◌++◌, length, drop}
use Rattle.std.specs.Slice.Iter.{chunks_rest, chunks_size}
use Rattle.vectors.specs.Mac.{after}
use Rattle.vectors.proofs.mac.mac.Given as goal

-- n blocks are in the state, and the others are to come
abbrev pub invariant-loop-part : goal.invariant-loop-part
invariant-loop-part l =
    let rest = chunks_rest l.part-iterator in
    (chunks_size l.part-iterator ≡ 16)
    × (n : ℕ) × (l.state ≡ after l.key l.message n)
    × (16 * n + length rest ≡ l.before)
    × (rest ++ l.last ≡ drop (16 * n) l.message)
