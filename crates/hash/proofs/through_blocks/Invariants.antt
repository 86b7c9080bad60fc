use Rattle.std.proofs.Common.{◌≡◌}
use Rattle.std.specs.Slice.Iter.{chunks_rest, chunks_size}
use Rattle.hash.specs.Texts.{block_bytes}
use Rattle.hash.specs.Steps.{through}
use Rattle.hash.proofs.through_blocks.Given as goal

-- what is left leads from here to where all leads from the start
abbrev pub invariant-loop-block : goal.invariant-loop-block
invariant-loop-block g l =
    let m = g.F.Field.model in
    (chunks_size l.block-iterator ≡ block_bytes)
    × (through m (m.means l.subkey) (m.means l.x) (chunks_rest l.block-iterator)
    ≡ through m (m.means l.subkey) (m.means l.start) l.bytes)
