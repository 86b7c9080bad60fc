use Rattle.std.proofs.Common.{◌≡◌}
use Rattle.std.specs.Slice.Iter.{chunks_rest, chunks_size}
use Rattle.hash.specs.Steps.{group_bytes, through}
use Rattle.hash.proofs.through_chunk.Given as goal

-- what is left leads from here to where all leads from the start
abbrev pub invariant-loop-group : goal.invariant-loop-group
invariant-loop-group g l =
    let m = g.F.Field.model in
    (chunks_size l.group-iterator ≡ group_bytes)
    × (through m (m.means l.subkey) (m.means l.x) (chunks_rest l.group-iterator)
    ≡ through m (m.means l.subkey) (m.means l.start) l.chunk)
