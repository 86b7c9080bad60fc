use Rattle.std.proofs.Common.{◌≡◌, map}
use Rattle.std.specs.Iterator.Adapters.{enumerate_source, enumerate_count}
use Rattle.std.specs.Slice.Iter.{chunks_rest, chunks_size}
use Rattle.hash.proofs.Horner.{chunk_bytes, Sofar}
use Rattle.hash.proofs.polynomial.Given as goal

abbrev pub invariant-loop-c : goal.invariant-loop-c
invariant-loop-c g l =
    let chunks = enumerate_source l.c-iterator in
    (chunks_size chunks ≡ chunk_bytes)
    × Sofar g.F.Field.model (map g.F.Field.model.means l.ring) l.text
    (enumerate_count l.c-iterator) (chunks_rest chunks) l.x
